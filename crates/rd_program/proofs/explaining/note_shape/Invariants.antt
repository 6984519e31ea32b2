use Rattle.rd_explanations.specs.Notes.{IsQuiet}
use Rattle.rd_program.proofs.explaining.note_shape.Given as goal

abbrev pub invariant-loop-row : goal.invariant-loop-row
invariant-loop-row l = IsQuiet l.fn.notes l.notes
