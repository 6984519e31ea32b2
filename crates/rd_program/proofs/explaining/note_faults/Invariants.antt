use Rattle.rd_explanations.specs.Notes.{IsQuiet}
use Rattle.rd_program.proofs.explaining.note_faults.Given as goal

abbrev pub invariant-loop-word : goal.invariant-loop-word
invariant-loop-word l = IsQuiet l.fn.notes l.notes
