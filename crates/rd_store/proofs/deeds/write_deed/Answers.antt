use Rattle.rd_store.proofs.Common.{◌≡◌, ◌∙◌, Option, Some, None, false, is_some, refl, sym}
use Rattle.rd_store.proofs.deeds.write_deed.Goals as goal

-- what is not there
none_if : {T : Type 0} (found : Option T) → is_some found ≡ false → found ≡ None
none_if None is = refl
none_if (Some x) is = absurd cc

pub update_deed-requires-clause-stands : goal.update_deed-requires-clause-stands
update_deed-requires-clause-stands g c was = sym (c.requires.stands was) ∙ c.if-stands.true

pub insert_deed-requires-clause-free : goal.insert_deed-requires-clause-free
insert_deed-requires-clause-free g c was = none_if _ (sym (c.requires.stands was) ∙ c.if-stands.false)
