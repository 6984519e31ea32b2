use Rattle.std.proofs.Common.{subst, sym, w32}
use Rattle.std.proofs.lemmas.Int.{to_z-of_z}
use Rattle.std.specs.String.{string_bytes}
use Rattle.rd_policy.specs.Dates.{IsDateOf}
use Rattle.rd_desk.proofs.surveys.date.Goals as goal

pub returns : goal.returns
returns c =
    let written = string_bytes c.in_ok-date_text.field-0 in
    subst (IsDateOf c.args.day) (sym c.of.ensures) (subst (λ day. IsDateOf day written) (to_z-of_z w32 c.args.day c.ranges.day) c.in_ok-date_text.ensures)
