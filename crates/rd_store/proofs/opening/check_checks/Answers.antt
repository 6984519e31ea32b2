use Rattle.rd_store.proofs.Common.{LawfulChecks, List, All, subst, true, false, state, Row, have_rowids, IsCheckRow}
use Rattle.rd_store.proofs.Listings.{listing_fails, listing_passes}
use Rattle.rd_store.proofs.RowTests.{checks_told}
use Rattle.rd_store.proofs.opening.check_checks.Goals as goal

pub returns-clause-tests : goal.returns-clause-tests
returns-clause-tests g c = listing_passes g.S.Store _ _ c.in_ok-rows.ensures.asks (LawfulChecks c.args.accessions.now) (LawfulChecks c.args.accessions.now) _ (λ was listed. checks_told (c.requires.tables was).more (state g.S.Store c.args.conn.now).now (c.requires.tables was).rests.schema (c.requires.sound was) _ c.args.accessions.now listed true (subst (λ (rows : List Row). All (IsCheckRow c.args.accessions.now) rows) c.deref.ensures.value c.if-not-are_checks.ensures))

pub returns-clause-rowids : goal.returns-clause-rowids
returns-clause-rowids g c is_open = have_rowids 7 _ _ _ _ (c.in_ok-rows.ensures.asks.answer is_open)

pub returns-then-not-are_checks-clause-tests : goal.returns-then-not-are_checks-clause-tests
returns-then-not-are_checks-clause-tests g c = listing_fails g.S.Store _ _ c.in_ok-rows.ensures.asks (LawfulChecks c.args.accessions.now) (LawfulChecks c.args.accessions.now) (λ was listed. checks_told (c.requires.tables was).more (state g.S.Store c.args.conn.now).now (c.requires.tables was).rests.schema (c.requires.sound was) _ c.args.accessions.now listed false (subst (λ (rows : List Row). ¬ (All (IsCheckRow c.args.accessions.now) rows)) c.deref.ensures.value c.if-not-are_checks.ensures))

pub read_listing-requires : goal.read_listing-requires
read_listing-requires g c = record { tables = c.requires.tables }
