use Rattle.rd_store.proofs.Common.{AreFiledUnder, List, All, subst, true, false, state, Row, IsFiledRow}
use Rattle.rd_store.proofs.Listings.{listing_fails, listing_passes}
use Rattle.rd_store.proofs.IndexTests.{filed_told}
use Rattle.rd_store.proofs.index_checks.check_filed.Goals as goal

pub returns-then-not-are_filed-clause-tests : goal.returns-then-not-are_filed-clause-tests
returns-then-not-are_filed-clause-tests g c = listing_fails g.S.Store _ _ c.in_ok-rows.ensures.asks (AreFiledUnder c.args.accessions.now) (AreFiledUnder c.args.accessions.now) (λ was listed. filed_told c.args.accessions.now (state g.S.Store c.args.conn.now).now.trees _ listed false (subst (λ (rows : List Row). ¬ (All (IsFiledRow c.args.accessions.now) rows)) c.deref.ensures.value c.if-not-are_filed.ensures))

pub returns-clause-tests : goal.returns-clause-tests
returns-clause-tests g c = listing_passes g.S.Store _ _ c.in_ok-rows.ensures.asks (AreFiledUnder c.args.accessions.now) (AreFiledUnder c.args.accessions.now) _ (λ was listed. filed_told c.args.accessions.now (state g.S.Store c.args.conn.now).now.trees _ listed true (subst (λ (rows : List Row). All (IsFiledRow c.args.accessions.now) rows) c.deref.ensures.value c.if-not-are_filed.ensures))

pub returns-clause-listed : goal.returns-clause-listed
returns-clause-listed g c is_open = (_, c.in_ok-rows.ensures.asks.answer is_open)

pub read_listing-requires : goal.read_listing-requires
read_listing-requires g c = record { tables = c.requires.tables }
