use Rattle.rd_store.proofs.Common.{◌≡◌, subst, sym, IsLawful, Desk, AreHoldingsOf, HasFirstTables, Turns, Holds, IsOf, desk}
use Rattle.rd_store.proofs.CopyLemmas.{keeps_still, turns_none, turns_to, was_clean}
use Rattle.rd_store.proofs.copying.write_copy.Goals as goal

pub returns-in_default-clause-turns : goal.returns-in_default-clause-turns
returns-in_default-clause-turns g c clean = turns_none g.S.Store c.args.conn.now (HasFirstTables 0) (Holds (desk g.S.Store c.args.from.now)) c.requires.start _

pub returns-clause-keeps : goal.returns-clause-keeps
returns-clause-keeps g c =
    keeps_still g.S.Store c.args.from.now c.read_holdings.new.from c.write_holdings.new.from c.in-Ok.ensures.reads.keeps c.in-Ok.ensures.reads.ends_open c.write_holdings.ensures.keeps

pub returns-clause-turns : goal.returns-clause-turns
returns-clause-turns g c clean =
    let old = c.args.from.now in
    let read = c.read_holdings.new.from in
    let is_open = c.in-Ok.ensures.reads.ends_open (was_clean g.S.Store read c.write_holdings.new.from c.write_holdings.ensures.keeps clean) in
    let same : desk g.S.Store read ≡ desk g.S.Store old = c.in-Ok.ensures.reads.keeps.same is_open in
    let are : AreHoldingsOf (desk g.S.Store read) c.in-Ok.holdings = subst (λ (d : Desk). AreHoldingsOf d c.in-Ok.holdings) (sym same) (c.in-Ok.ensures.reads.answer is_open) in
    turns_to g.S.Store c.args.conn.now c.write_holdings.new.conn (IsOf (desk g.S.Store old)) (Holds (desk g.S.Store old)) c.write_holdings.result
    (λ db of. record { of = of; lawful = subst IsLawful same (c.between_calls.ensures.lawful is_open) })
    (subst (λ (d : Desk). Turns g.S.Store c.args.conn.now c.write_holdings.new.conn (IsOf d) c.write_holdings.result) same (c.write_holdings.ensures.turns clean are))
