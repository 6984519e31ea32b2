use Rattle.std.proofs.Common.{◌∙◌, subst, w32}
use Rattle.std.proofs.lemmas.Int.{to_z-of_z}
use Rattle.std.specs.String.{string_bytes}
use Rattle.rd_policy.specs.Dates.{IsDateOf}
use Rattle.rd_protocol.proofs.DayTextLemmas.{is_text}
use Rattle.rd_protocol.proofs.staff_lists.date.Goals as goal

pub returns : goal.returns
returns c =
    let written = string_bytes c.in_ok-date_text.field-0 in
    c.of.ensures ∙ is_text c.args.day written (subst (λ day. IsDateOf day written) (to_z-of_z w32 c.args.day c.ranges.day) c.in_ok-date_text.ensures)
