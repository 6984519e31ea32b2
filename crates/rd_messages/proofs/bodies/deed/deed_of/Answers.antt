use Rattle.std.proofs.Common.{◌∙◌, subst, sym}
use Rattle.std.proofs.lemmas.Option.{same_Some}
use Rattle.rd_policy.specs.Dates.{IsDateOf}
use Rattle.rd_messages.proofs.bodies.deed.deed_of.Goals as goal

pub returns-in_default-2-clause-none : goal.returns-in_default-2-clause-none
returns-in_default-2-clause-none c = λ donor signed told.
    let none = rw c.in_default-2.is at c.in_ok-signed.ensures in
    none signed (subst (IsDateOf signed) (same_Some told.date c.in-Some-text_at.date.now (sym told.signed_text ∙ sym c.in-Some-text_at.ensures)) told.day)
