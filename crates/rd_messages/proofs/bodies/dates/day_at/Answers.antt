use Rattle.std.proofs.Common.{◌≡◌, ◌∙◌, Some, FitsSigned, w32, option_and_then, ap, rules, subst, sym}
use Rattle.std.proofs.lemmas.Int.{to_z-of_z}
use Rattle.serde_json.specs.Find.{as_str}
use Rattle.serde_json.specs.View.{view}
use Rattle.rd_policy.specs.Dates.{IsDateOf}
use Rattle.rd_messages.specs.Objects.{text_at}
use Rattle.rd_messages.proofs.ObjectKeys.{no_day}
use Rattle.rd_messages.proofs.bodies.dates.day_at.Goals as goal

pub returns-in-Some-2-clause-parsed : goal.returns-in-Some-2-clause-parsed
returns-in-Some-2-clause-parsed c =
    let text : text_at c.args.key.now (view c.args.value.now) ≡ Some c.in-Some-as_str.date.now =
    sym (ap (option_and_then as_str) c.in-Some.ensures) ∙ sym c.in-Some-as_str.ensures in
    let day = rw c.in-Some-2.is at c.in_ok-day.ensures in
    let fits : FitsSigned w32 c.in-Some-2.day = search rules in
    (c.in-Some-as_str.date.now, text, subst (λ day. IsDateOf day c.in-Some-as_str.date.now) (sym (to_z-of_z w32 c.in-Some-2.day fits)) day)

pub returns-in-None-clause-none : goal.returns-in-None-clause-none
returns-in-None-clause-none c =
    let text : text_at c.args.key.now (view c.args.value.now) ≡ Some c.in-Some-as_str.date.now =
    sym (ap (option_and_then as_str) c.in-Some.ensures) ∙ sym c.in-Some-as_str.ensures in
    no_day c.args.key.now (view c.args.value.now) c.in-Some-as_str.date.now text (rw c.in-None.is at c.in_ok-day.ensures)
