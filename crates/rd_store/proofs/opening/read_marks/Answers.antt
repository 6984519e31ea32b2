use Rattle.rd_store.proofs.Common.{◌∙◌, ap, map, refl, subst, sym, IsNonDecreasing, column, natural, Err, All, HasErrorBytes, IsConsistent, state, ⊤}
use Rattle.rd_store.specs.declared.faults.OpenFault.TheVariants.{Sql}
use Rattle.rd_store.proofs.Listings.{listing_fails, listing_passes}
use Rattle.rd_store.proofs.BinarySearch.{numbers_ascend}
use Rattle.rd_store.proofs.ImageWalks.{sql_part, each_has_error_bytes}
use Rattle.rd_store.proofs.opening.read_marks.Goals as goal

pub read_listing-requires : goal.read_listing-requires
read_listing-requires g c = record { tables = c.requires.tables }

pub returns-in_err-rows-clause-tests : goal.returns-in_err-rows-clause-tests
returns-in_err-rows-clause-tests g c = sql_part g.S.Store c.read_listing.ensures.asks.stays c.from_residual.result c.from_residual.ensures.1 c.in_err-rows.ensures.asks.fault

pub returns-then-not-have_error_bytes-clause-tests : goal.returns-then-not-have_error_bytes-clause-tests
returns-then-not-have_error_bytes-clause-tests g c = listing_fails g.S.Store _ _ c.in_ok-rows.ensures.asks (λ trees. ⊤) IsConsistent (λ was listed all. let some = subst (λ rows. ¬ All HasErrorBytes rows) c.deref.ensures.value c.if-not-have_error_bytes.ensures in some (each_has_error_bytes (state g.S.Store c.args.conn.now).now.trees c.in_ok-rows.rows.items listed all))

pub returns-in-Ok-clause-tests : goal.returns-in-Ok-clause-tests
returns-in-Ok-clause-tests g c = listing_passes g.S.Store _ _ c.in_ok-rows.ensures.asks (λ trees. ⊤) IsConsistent _ (λ was listed. tt)

pub returns-in-Ok-clause-listed : goal.returns-in-Ok-clause-listed
returns-in-Ok-clause-listed g c is_open = c.in_ok-rows.ensures.asks.answer is_open

pub returns-in-Ok-clause-numbers : goal.returns-in-Ok-clause-numbers
returns-in-Ok-clause-numbers g c = c.in-Ok.ensures.numbers ∙ ap (map (λ row. natural (column row 0))) c.deref-2.ensures.value

pub returns-in-Ok-clause-ascending : goal.returns-in-Ok-clause-ascending
returns-in-Ok-clause-ascending g c =
    subst IsNonDecreasing (sym (c.in-Ok.ensures.numbers ∙ ap (map (λ row. natural (column row 0))) c.deref-2.ensures.value)) (numbers_ascend _ c.in_ok-rows.ensures.rising)

pub returns-in-Err-clause-tests : goal.returns-in-Err-clause-tests
returns-in-Err-clause-tests g c = sql_part g.S.Store c.read_listing.ensures.asks.stays (Err Sql) refl refl
