use Rattle.rd_store.proofs.Common.{LawfulDeeds, AreKeys, ◌∙◌, All, map, ap, sym, subst, true, false, column, map_of, natural, IsDeedRow, deed_spelling, IsNonDecreasing}
use Rattle.rd_store.proofs.Listings.{listing_fails, listing_passes}
use Rattle.rd_store.proofs.RowTests.{deeds_told, deed_numbers}
use Rattle.rd_store.proofs.opening.check_deeds.Goals as goal
use Rattle.rd_store.proofs.BinarySearch.{numbers_ascend}

pub returns-then-not-are_deeds-clause-tests : goal.returns-then-not-are_deeds-clause-tests
returns-then-not-are_deeds-clause-tests g c = listing_fails g.S.Store _ _ c.in_ok-rows.ensures.asks LawfulDeeds LawfulDeeds (λ was listed. deeds_told _ _ listed false (subst (λ rows. ¬ All IsDeedRow rows) c.deref.ensures.value c.if-not-are_deeds.ensures))

pub returns-in-Ok-clause-tests : goal.returns-in-Ok-clause-tests
returns-in-Ok-clause-tests g c = listing_passes g.S.Store _ _ c.in_ok-rows.ensures.asks LawfulDeeds LawfulDeeds _ (λ was listed. deeds_told _ _ listed true (subst (All IsDeedRow) c.deref.ensures.value c.if-not-are_deeds.ensures))

pub returns-in-Ok-clause-numbers : goal.returns-in-Ok-clause-numbers
returns-in-Ok-clause-numbers g c is_open =
    let listed = c.in_ok-rows.ensures.asks.answer is_open in
    let lawful = deeds_told _ _ listed true (subst (All IsDeedRow) c.deref.ensures.value c.if-not-are_deeds.ensures) in
    subst (AreKeys (map_of deed_spelling _)) (sym (c.in-Ok.ensures.numbers ∙ ap (map (λ row. natural (column row 0))) c.deref-2.ensures.value)) (deed_numbers _ _ listed lawful)

pub returns-in-Ok-clause-ascending : goal.returns-in-Ok-clause-ascending
returns-in-Ok-clause-ascending g c =
    subst IsNonDecreasing (sym (c.in-Ok.ensures.numbers ∙ ap (map (λ row. natural (column row 0))) c.deref-2.ensures.value)) (numbers_ascend _ c.in_ok-rows.ensures.rising)

pub read_listing-requires : goal.read_listing-requires
read_listing-requires g c = record { tables = c.requires.tables }
