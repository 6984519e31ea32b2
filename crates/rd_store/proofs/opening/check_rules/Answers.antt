use Rattle.rd_store.proofs.Common.{LawfulRules, List, All, subst, true, false, state, Row, have_rowids, IsRuleRow}
use Rattle.rd_store.proofs.Listings.{listing_fails, listing_passes}
use Rattle.rd_store.proofs.RowTests.{rules_told}
use Rattle.rd_store.proofs.opening.check_rules.Goals as goal

pub returns-clause-tests : goal.returns-clause-tests
returns-clause-tests g c = listing_passes g.S.Store _ _ c.in_ok-rows.ensures.asks (LawfulRules c.args.accessions.now c.args.deeds.now) (LawfulRules c.args.accessions.now c.args.deeds.now) _ (λ was listed. rules_told (c.requires.tables was).more (state g.S.Store c.args.conn.now).now (c.requires.tables was).rests.schema (c.requires.sound was) _ c.args.accessions.now c.args.deeds.now listed true (subst (λ (rows : List Row). All (IsRuleRow c.args.accessions.now c.args.deeds.now) rows) c.deref.ensures.value c.if-not-are_rules.ensures))

pub returns-clause-rowids : goal.returns-clause-rowids
returns-clause-rowids g c is_open = have_rowids 3 _ _ _ _ (c.in_ok-rows.ensures.asks.answer is_open)

pub returns-then-not-are_rules-clause-tests : goal.returns-then-not-are_rules-clause-tests
returns-then-not-are_rules-clause-tests g c = listing_fails g.S.Store _ _ c.in_ok-rows.ensures.asks (LawfulRules c.args.accessions.now c.args.deeds.now) (LawfulRules c.args.accessions.now c.args.deeds.now) (λ was listed. rules_told (c.requires.tables was).more (state g.S.Store c.args.conn.now).now (c.requires.tables was).rests.schema (c.requires.sound was) _ c.args.accessions.now c.args.deeds.now listed false (subst (λ (rows : List Row). ¬ (All (IsRuleRow c.args.accessions.now c.args.deeds.now) rows)) c.deref.ensures.value c.if-not-are_rules.ensures))

pub read_listing-requires : goal.read_listing-requires
read_listing-requires g c = record { tables = c.requires.tables }
