use Rattle.std.proofs.Common.{◌∙◌, FitsSigned, ap, inl, refl, rules, subst, sym, w32}
use Rattle.std.proofs.lemmas.Int.{to_z-of_z}
use Rattle.rd_desk.specs.Calls.{IsResponseAfter, MakesOneChange}
use Rattle.rd_protocol.specs.declared.request.What.TheVariants.{PutDeed, RehearseDrop, RehearseRule, Today, Verdicts, VerdictsOf}
use Rattle.rd_store.proofs.Laws.{lasts_still}
use Rattle.rd_store.specs.Held.{desk}
use Rattle.rd_desk.proofs.ListLemmas.{today_accepted}
use Rattle.rd_desk.proofs.OneChange.{change_alone, no_call, reads_alone}
use Rattle.rd_desk.proofs.ResponseLemmas.{does_carry, does_read}
use Rattle.rd_desk.proofs.answers.answer.Goals as goal

pub returns-in-Images-clause-does : goal.returns-in-Images-clause-does
returns-in-Images-clause-does g c =
    does_read g.S.Store c.args.store.now c.images.new.store c.args.caller.now.audience c.args.caller.now.day c.args.what.now _ (sym c.in-Images.is) c.images.result (λ h. h) c.images.ensures

pub returns-in-Images-clause-one_change : goal.returns-in-Images-clause-one_change
returns-in-Images-clause-one_change g c = reads_alone g.S.Store c.args.caller.now.day _ _ c.args.store.now c.images.new.store c.images.ensures.keeps

pub returns-in-Listing-clause-does : goal.returns-in-Listing-clause-does
returns-in-Listing-clause-does g c =
    does_read g.S.Store c.args.store.now c.listing.new.store c.args.caller.now.audience c.args.caller.now.day c.args.what.now _ (sym c.in-Listing.is) c.listing.result (λ h. h) c.listing.ensures

pub returns-in-Listing-clause-one_change : goal.returns-in-Listing-clause-one_change
returns-in-Listing-clause-one_change g c = reads_alone g.S.Store c.args.caller.now.day _ _ c.args.store.now c.listing.new.store c.listing.ensures.keeps

pub returns-in-Bytes-clause-does : goal.returns-in-Bytes-clause-does
returns-in-Bytes-clause-does g c =
    does_read g.S.Store c.args.store.now c.bytes.new.store c.args.caller.now.audience c.args.caller.now.day c.args.what.now _ (sym c.in-Bytes.is) c.bytes.result (λ h. h) c.bytes.ensures

pub returns-in-Bytes-clause-one_change : goal.returns-in-Bytes-clause-one_change
returns-in-Bytes-clause-one_change g c = reads_alone g.S.Store c.args.caller.now.day _ _ c.args.store.now c.bytes.new.store c.bytes.ensures.keeps

pub returns-in-Catalogue-clause-does : goal.returns-in-Catalogue-clause-does
returns-in-Catalogue-clause-does g c =
    does_read g.S.Store c.args.store.now c.catalogue.new.store c.args.caller.now.audience c.args.caller.now.day c.args.what.now _ (sym c.in-Catalogue.is) c.catalogue.result (λ h. h) c.catalogue.ensures

pub returns-in-Catalogue-clause-one_change : goal.returns-in-Catalogue-clause-one_change
returns-in-Catalogue-clause-one_change g c = reads_alone g.S.Store c.args.caller.now.day _ _ c.args.store.now c.catalogue.new.store c.catalogue.ensures.keeps

pub returns-in-Survey-clause-does : goal.returns-in-Survey-clause-does
returns-in-Survey-clause-does g c =
    does_carry g.S.Store c.args.store.now c.survey.new.store c.args.caller.now.audience c.args.caller.now.day c.args.what.now _ (sym c.in-Survey.is) c.survey.result tt (c.survey.ensures.carries c.args.caller.now.day)

pub returns-in-Survey-clause-one_change : goal.returns-in-Survey-clause-one_change
returns-in-Survey-clause-one_change g c = reads_alone g.S.Store c.args.caller.now.day _ _ c.args.store.now c.survey.new.store c.survey.ensures.keeps

pub returns-in-Deeds-clause-does : goal.returns-in-Deeds-clause-does
returns-in-Deeds-clause-does g c =
    does_carry g.S.Store c.args.store.now c.deeds.new.store c.args.caller.now.audience c.args.caller.now.day c.args.what.now _ (sym c.in-Deeds.is) c.deeds.result tt (c.deeds.ensures.carries c.args.caller.now.day)

pub returns-in-Deeds-clause-one_change : goal.returns-in-Deeds-clause-one_change
returns-in-Deeds-clause-one_change g c = reads_alone g.S.Store c.args.caller.now.day _ _ c.args.store.now c.deeds.new.store c.deeds.ensures.keeps

pub returns-in-Takedowns-clause-does : goal.returns-in-Takedowns-clause-does
returns-in-Takedowns-clause-does g c =
    does_carry g.S.Store c.args.store.now c.takedowns.new.store c.args.caller.now.audience c.args.caller.now.day c.args.what.now _ (sym c.in-Takedowns.is) c.takedowns.result tt (c.takedowns.ensures.carries c.args.caller.now.day)

pub returns-in-Takedowns-clause-one_change : goal.returns-in-Takedowns-clause-one_change
returns-in-Takedowns-clause-one_change g c = reads_alone g.S.Store c.args.caller.now.day _ _ c.args.store.now c.takedowns.new.store c.takedowns.ensures.keeps

pub returns-in-Keys-clause-does : goal.returns-in-Keys-clause-does
returns-in-Keys-clause-does g c =
    does_carry g.S.Store c.args.store.now c.keys.new.store c.args.caller.now.audience c.args.caller.now.day c.args.what.now _ (sym c.in-Keys.is) c.keys.result tt (c.keys.ensures.carries c.args.caller.now.day)

pub returns-in-Keys-clause-one_change : goal.returns-in-Keys-clause-one_change
returns-in-Keys-clause-one_change g c = reads_alone g.S.Store c.args.caller.now.day _ _ c.args.store.now c.keys.new.store c.keys.ensures.keeps

pub returns-in-Checks-clause-does : goal.returns-in-Checks-clause-does
returns-in-Checks-clause-does g c =
    does_carry g.S.Store c.args.store.now c.checks.new.store c.args.caller.now.audience c.args.caller.now.day c.args.what.now _ (sym c.in-Checks.is) c.checks.result tt (c.checks.ensures.carries c.args.caller.now.day)

pub returns-in-Checks-clause-one_change : goal.returns-in-Checks-clause-one_change
returns-in-Checks-clause-one_change g c = reads_alone g.S.Store c.args.caller.now.day _ _ c.args.store.now c.checks.new.store c.checks.ensures.keeps

pub returns-in-Today-clause-does : goal.returns-in-Today-clause-does
returns-in-Today-clause-does g c =
    let fits : FitsSigned w32 c.args.caller.now.day = search rules in
    let store = c.args.store.now in
    let rests = c.between_calls.ensures in
    does_carry g.S.Store store store c.args.caller.now.audience c.args.caller.now.day c.args.what.now Today (sym c.in-Today.is) _ tt (record {
      lasts = lasts_still g.S.Store store;
      judged = λ o. (today_accepted (desk g.S.Store store), to_z-of_z w32 c.args.caller.now.day fits, refl);
      stays_open = λ o clean. o;
      crash = λ o clean left may. inl (rests.leaves o left may);
      durable = rests.leaves;
    })

pub returns-in-Today-clause-one_change : goal.returns-in-Today-clause-one_change
returns-in-Today-clause-one_change g c = no_call g.S.Store c.args.caller.now.day _ _ c.args.store.now c.between_calls.ensures

pub returns-in-Verdicts-clause-does : goal.returns-in-Verdicts-clause-does
returns-in-Verdicts-clause-does g c =
    let fits : FitsSigned w32 c.in-Verdicts.day = search rules in
    does_carry g.S.Store c.args.store.now c.verdicts.new.store c.args.caller.now.audience c.args.caller.now.day c.args.what.now _ (ap Verdicts (to_z-of_z w32 c.in-Verdicts.day fits) ∙ sym c.in-Verdicts.is) c.verdicts.result tt (c.verdicts.ensures.carries c.args.caller.now.day)

pub returns-in-Verdicts-clause-one_change : goal.returns-in-Verdicts-clause-one_change
returns-in-Verdicts-clause-one_change g c = reads_alone g.S.Store c.args.caller.now.day _ _ c.args.store.now c.verdicts.new.store c.verdicts.ensures.keeps

pub returns-in-VerdictsOf-clause-does : goal.returns-in-VerdictsOf-clause-does
returns-in-VerdictsOf-clause-does g c =
    let fits : FitsSigned w32 c.in-VerdictsOf.day = search rules in
    does_carry g.S.Store c.args.store.now c.verdicts_of_one.new.store c.args.caller.now.audience c.args.caller.now.day c.args.what.now _ (ap (λ on. VerdictsOf on c.in-VerdictsOf.acc) (to_z-of_z w32 c.in-VerdictsOf.day fits) ∙ sym c.in-VerdictsOf.is) c.verdicts_of_one.result tt (c.verdicts_of_one.ensures.carries c.args.caller.now.day)

pub returns-in-VerdictsOf-clause-one_change : goal.returns-in-VerdictsOf-clause-one_change
returns-in-VerdictsOf-clause-one_change g c = reads_alone g.S.Store c.args.caller.now.day _ _ c.args.store.now c.verdicts_of_one.new.store c.verdicts_of_one.ensures.keeps

pub returns-in-RehearseRule-clause-does : goal.returns-in-RehearseRule-clause-does
returns-in-RehearseRule-clause-does g c =
    let fits : FitsSigned w32 c.in-RehearseRule.day = search rules in
    does_carry g.S.Store c.args.store.now c.rehearse_rule.new.store c.args.caller.now.audience c.args.caller.now.day c.args.what.now _ (ap (λ on. RehearseRule on c.in-RehearseRule.rule) (to_z-of_z w32 c.in-RehearseRule.day fits) ∙ sym c.in-RehearseRule.is) c.rehearse_rule.result tt (c.rehearse_rule.ensures.carries c.args.caller.now.day)

pub returns-in-RehearseRule-clause-one_change : goal.returns-in-RehearseRule-clause-one_change
returns-in-RehearseRule-clause-one_change g c = reads_alone g.S.Store c.args.caller.now.day _ _ c.args.store.now c.rehearse_rule.new.store c.rehearse_rule.ensures.keeps

pub returns-in-RehearseDrop-clause-does : goal.returns-in-RehearseDrop-clause-does
returns-in-RehearseDrop-clause-does g c =
    let fits : FitsSigned w32 c.in-RehearseDrop.day = search rules in
    does_carry g.S.Store c.args.store.now c.rehearse_drop.new.store c.args.caller.now.audience c.args.caller.now.day c.args.what.now _ (ap (λ on. RehearseDrop on c.in-RehearseDrop.band c.in-RehearseDrop.scope c.in-RehearseDrop.rank) (to_z-of_z w32 c.in-RehearseDrop.day fits) ∙ sym c.in-RehearseDrop.is) c.rehearse_drop.result tt (c.rehearse_drop.ensures.carries c.args.caller.now.day)

pub returns-in-RehearseDrop-clause-one_change : goal.returns-in-RehearseDrop-clause-one_change
returns-in-RehearseDrop-clause-one_change g c = reads_alone g.S.Store c.args.caller.now.day _ _ c.args.store.now c.rehearse_drop.new.store c.rehearse_drop.ensures.keeps

pub returns-in-Check-clause-does : goal.returns-in-Check-clause-does
returns-in-Check-clause-does g c =
    let fits : FitsSigned w32 c.args.caller.now.day = search rules in
    let day = to_z-of_z w32 c.args.caller.now.day fits in
    let carries = rw day at c.check.ensures.carries in
    does_carry g.S.Store c.args.store.now c.check.new.store c.args.caller.now.audience c.args.caller.now.day c.args.what.now _ (sym c.in-Check.is) c.check.result tt carries

pub returns-in-Check-clause-one_change : goal.returns-in-Check-clause-one_change
returns-in-Check-clause-one_change g c =
    let fits : FitsSigned w32 c.args.caller.now.day = search rules in
    let day = to_z-of_z w32 c.args.caller.now.day fits in
    let change = rw day at c.check.ensures.one_change in
    subst (λ what. MakesOneChange g.S.Store c.args.store.now c.check.new.store c.args.caller.now.day what (λ stored. IsResponseAfter stored c.check.result)) (sym c.in-Check.is) change

pub returns-in-PutImage-clause-does : goal.returns-in-PutImage-clause-does
returns-in-PutImage-clause-does g c =
    does_carry g.S.Store c.args.store.now c.put_image.new.store c.args.caller.now.audience c.args.caller.now.day c.args.what.now _ (sym c.in-PutImage.is) c.put_image.result tt (c.put_image.ensures.carries c.args.caller.now.day)

pub returns-in-PutImage-clause-one_change : goal.returns-in-PutImage-clause-one_change
returns-in-PutImage-clause-one_change g c =
    subst (λ what. MakesOneChange g.S.Store c.args.store.now c.put_image.new.store c.args.caller.now.day what (λ stored. IsResponseAfter stored c.put_image.result)) (sym c.in-PutImage.is)
    (c.put_image.ensures.one_change c.args.caller.now.day)

pub returns-in-PutDeed-clause-does : goal.returns-in-PutDeed-clause-does
returns-in-PutDeed-clause-does g c =
    let fits : FitsSigned w32 c.in-PutDeed.signed = search rules in
    does_carry g.S.Store c.args.store.now c.put_deed.new.store c.args.caller.now.audience c.args.caller.now.day c.args.what.now _ (ap (PutDeed c.in-PutDeed.num c.in-PutDeed.donor) (to_z-of_z w32 c.in-PutDeed.signed fits) ∙ sym c.in-PutDeed.is) c.put_deed.result tt (c.put_deed.ensures.carries c.args.caller.now.day)

pub returns-in-PutDeed-clause-one_change : goal.returns-in-PutDeed-clause-one_change
returns-in-PutDeed-clause-one_change g c =
    let fits : FitsSigned w32 c.in-PutDeed.signed = search rules in
    subst (λ what. MakesOneChange g.S.Store c.args.store.now c.put_deed.new.store c.args.caller.now.day what (λ stored. IsResponseAfter stored c.put_deed.result)) (ap (PutDeed c.in-PutDeed.num c.in-PutDeed.donor) (to_z-of_z w32 c.in-PutDeed.signed fits) ∙ sym c.in-PutDeed.is)
    (change_alone g.S.Store c.args.caller.now.day _ _ c.args.store.now c.put_deed.new.store c.between_calls.ensures tt (c.put_deed.ensures.change c.args.caller.now.day))

pub returns-in-PutRule-clause-does : goal.returns-in-PutRule-clause-does
returns-in-PutRule-clause-does g c =
    does_carry g.S.Store c.args.store.now c.put_rule.new.store c.args.caller.now.audience c.args.caller.now.day c.args.what.now _ (sym c.in-PutRule.is) c.put_rule.result tt (c.put_rule.ensures.carries c.args.caller.now.day)

pub returns-in-PutRule-clause-one_change : goal.returns-in-PutRule-clause-one_change
returns-in-PutRule-clause-one_change g c =
    subst (λ what. MakesOneChange g.S.Store c.args.store.now c.put_rule.new.store c.args.caller.now.day what (λ stored. IsResponseAfter stored c.put_rule.result)) (sym c.in-PutRule.is)
    (change_alone g.S.Store c.args.caller.now.day _ _ c.args.store.now c.put_rule.new.store c.between_calls.ensures tt (c.put_rule.ensures.change c.args.caller.now.day))

pub returns-in-DropRule-clause-does : goal.returns-in-DropRule-clause-does
returns-in-DropRule-clause-does g c =
    does_carry g.S.Store c.args.store.now c.drop_rule.new.store c.args.caller.now.audience c.args.caller.now.day c.args.what.now _ (sym c.in-DropRule.is) c.drop_rule.result tt (c.drop_rule.ensures.carries c.args.caller.now.day)

pub returns-in-DropRule-clause-one_change : goal.returns-in-DropRule-clause-one_change
returns-in-DropRule-clause-one_change g c =
    subst (λ what. MakesOneChange g.S.Store c.args.store.now c.drop_rule.new.store c.args.caller.now.day what (λ stored. IsResponseAfter stored c.drop_rule.result)) (sym c.in-DropRule.is)
    (change_alone g.S.Store c.args.caller.now.day _ _ c.args.store.now c.drop_rule.new.store c.between_calls.ensures tt (c.drop_rule.ensures.change c.args.caller.now.day))

pub returns-in-PutKey-clause-does : goal.returns-in-PutKey-clause-does
returns-in-PutKey-clause-does g c =
    does_carry g.S.Store c.args.store.now c.put_key.new.store c.args.caller.now.audience c.args.caller.now.day c.args.what.now _ (sym c.in-PutKey.is) c.put_key.result tt (c.put_key.ensures.carries c.args.caller.now.day)

pub returns-in-PutKey-clause-one_change : goal.returns-in-PutKey-clause-one_change
returns-in-PutKey-clause-one_change g c =
    subst (λ what. MakesOneChange g.S.Store c.args.store.now c.put_key.new.store c.args.caller.now.day what (λ stored. IsResponseAfter stored c.put_key.result)) (sym c.in-PutKey.is)
    (change_alone g.S.Store c.args.caller.now.day _ _ c.args.store.now c.put_key.new.store c.between_calls.ensures tt (c.put_key.ensures.change c.args.caller.now.day))

pub returns-in-DropKey-clause-does : goal.returns-in-DropKey-clause-does
returns-in-DropKey-clause-does g c =
    does_carry g.S.Store c.args.store.now c.drop_key.new.store c.args.caller.now.audience c.args.caller.now.day c.args.what.now _ (sym c.in-DropKey.is) c.drop_key.result tt (c.drop_key.ensures.carries c.args.caller.now.day)

pub returns-in-DropKey-clause-one_change : goal.returns-in-DropKey-clause-one_change
returns-in-DropKey-clause-one_change g c =
    subst (λ what. MakesOneChange g.S.Store c.args.store.now c.drop_key.new.store c.args.caller.now.day what (λ stored. IsResponseAfter stored c.drop_key.result)) (sym c.in-DropKey.is)
    (change_alone g.S.Store c.args.caller.now.day _ _ c.args.store.now c.drop_key.new.store c.between_calls.ensures tt (c.drop_key.ensures.change c.args.caller.now.day))

pub returns-in-Unread-clause-one_change : goal.returns-in-Unread-clause-one_change
returns-in-Unread-clause-one_change g c = no_call g.S.Store c.args.caller.now.day _ _ c.args.store.now c.between_calls.ensures
