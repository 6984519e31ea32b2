use Rattle.rd_store.proofs.Common.{LawfulKeys, List, All, subst, true, false, Any, state, Row, have_rowids, IsKeyRow, IsStaffRow}
use Rattle.rd_store.proofs.Listings.{listing_fails, listing_passes}
use Rattle.rd_store.proofs.RowTests.{staff_told}
use Rattle.rd_store.proofs.opening.check_keys.Goals as goal

pub returns-clause-tests : goal.returns-clause-tests
returns-clause-tests g c = listing_passes g.S.Store _ _ c.in_ok-rows.ensures.asks LawfulKeys LawfulKeys _ (λ was listed. staff_told (c.requires.tables was).more (state g.S.Store c.args.conn.now).now (c.requires.tables was).rests.schema (c.requires.sound was) _ listed true (subst (λ (rows : List Row). All IsKeyRow rows × Any IsStaffRow rows) c.deref.ensures.value c.if-not-are_keys.ensures))

pub returns-clause-rowids : goal.returns-clause-rowids
returns-clause-rowids g c is_open = have_rowids 5 _ _ _ _ (c.in_ok-rows.ensures.asks.answer is_open)

pub returns-then-not-are_keys-clause-tests : goal.returns-then-not-are_keys-clause-tests
returns-then-not-are_keys-clause-tests g c = listing_fails g.S.Store _ _ c.in_ok-rows.ensures.asks LawfulKeys LawfulKeys (λ was listed. staff_told (c.requires.tables was).more (state g.S.Store c.args.conn.now).now (c.requires.tables was).rests.schema (c.requires.sound was) _ listed false (subst (λ (rows : List Row). ¬ (All IsKeyRow rows × Any IsStaffRow rows)) c.deref.ensures.value c.if-not-are_keys.ensures))

pub read_listing-requires : goal.read_listing-requires
read_listing-requires g c = record { tables = c.requires.tables }
