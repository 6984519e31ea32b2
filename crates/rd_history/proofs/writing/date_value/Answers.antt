use Rattle.std.proofs.Common.{◌≡◌, ◌∙◌, ap, rules, subst, w32}
use Rattle.std.proofs.lemmas.Int.{to_z-of_z}
use Rattle.std.specs.String.{string_bytes}
use Rattle.serde_json.specs.Data.{string}
use Rattle.serde_json.specs.View.{view}
use Rattle.serde_json.specs.declared.value.Value.{String, the_lemmas}
use Rattle.rd_policy.specs.Dates.{IsDateOf}
use Rattle.rd_protocol.proofs.DayTextLemmas.{is_text}
use Rattle.rd_history.proofs.writing.date_value.Goals as goal

pub returns : goal.returns
returns c =
    let written = string_bytes c.in_ok-date_text.field-0 in
    let seen : view (String c.in_ok-date_text.field-0) ≡ string written = search (rules, the_lemmas) in
    seen ∙ ap string (is_text c.args.day written (subst (λ day. IsDateOf day written) (to_z-of_z w32 c.args.day c.ranges.day) c.in_ok-date_text.ensures))
