use Rattle.rd_explanations.specs.Notes.{IsQuiet}
use Rattle.rd_program.proofs.explaining.note_rows.Given as goal

abbrev pub invariant-loop-line : goal.invariant-loop-line
invariant-loop-line g l = IsQuiet l.fn.notes l.notes
