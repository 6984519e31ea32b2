-- Notes that nobody wants.
use Rattle.std.proofs.Common.{◌∙◌, refl}
use Rattle.rd_explanations.specs.Notes.{IsQuiet}
use Rattle.rd_explanations.specs.declared.notes.Notes.{Notes}

pub still_quiet : (notes : Notes) → IsQuiet notes notes
still_quiet notes = λ unwanted. (unwanted, refl)

pub quiet_then : (first mid last : Notes) → IsQuiet first mid → IsQuiet mid last → IsQuiet first last
quiet_then first mid last one two = λ unwanted. let now = one unwanted in let then = two now.0 in (then.0, then.1 ∙ now.1)
