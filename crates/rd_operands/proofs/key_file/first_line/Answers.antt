use Rattle.std.proofs.Common.{ℕ, ◌∙◌, ap}
use Rattle.std.specs.Prelude.{Option}
use Rattle.rd_operands.specs.KeyFiles.{line_before}
use Rattle.rd_operands.proofs.key_file.first_line.Goals as goal

pub returns-in-Some : goal.returns-in-Some
returns-in-Some c =
    c.without_return.ensures ∙ ap (λ (place : Option ℕ). line_before place c.args.bytes.now) c.in-Some.ensures.place

pub returns-in-None : goal.returns-in-None
returns-in-None c = ap (λ (place : Option ℕ). line_before place c.args.bytes.now) c.in-None.ensures.place
