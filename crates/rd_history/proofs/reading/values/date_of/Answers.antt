use Rattle.std.proofs.Common.{◌≡◌, ◌∙◌, [], FitsSigned, ap, rules, subst, sym, unwrap_or, w32}
use Rattle.std.proofs.lemmas.Int.{to_z-of_z}
use Rattle.serde_json.specs.Find.{as_str}
use Rattle.rd_policy.proofs.DateLemmas.{one_day}
use Rattle.rd_policy.specs.Dates.{IsDateOf}
use Rattle.rd_protocol.specs.DayTexts.{day_text}
use Rattle.rd_protocol.proofs.DayTextLemmas.{has_text}
use Rattle.rd_history.proofs.reading.values.date_of.Goals as goal

pub returns-in-Ok : goal.returns-in-Ok
returns-in-Ok c = λ day within same.
    let fits : FitsSigned w32 c.in-Ok.day = search rules in
    let text : c.text_of.result.now ≡ day_text day = c.text_of.ensures ∙ ap (λ d. unwrap_or (as_str d) []) same in
    to_z-of_z w32 c.in-Ok.day fits
    ∙ one_day c.text_of.result.now c.in-Ok.day day c.in-Ok.ensures.day (subst (IsDateOf day) (sym text) (has_text day within))

pub returns-in-Err-BadDate : goal.returns-in-Err-BadDate
returns-in-Err-BadDate c = λ day within same.
    let text : c.text_of.result.now ≡ day_text day = c.text_of.ensures ∙ ap (λ d. unwrap_or (as_str d) []) same in
    absurd (c.in-Err-BadDate.ensures.bad c.in-Err-BadDate.field-0-is day (subst (IsDateOf day) (sym text) (has_text day within)))
