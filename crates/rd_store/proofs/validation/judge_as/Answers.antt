use Rattle.rd_store.proofs.Common.{Some, IfOk, subst, sym, state, IsHeldIn, IsRegisterIn, RefusesEach, IsSaid, Says, TestsDatabase, Version}
use Rattle.rd_store.proofs.DatabaseTests.{each_database}
use Rattle.rd_store.proofs.validation.judge_as.Goals as goal

pub judge_first-requires-clause-said : goal.judge_first-requires-clause-said
judge_first-requires-clause-said g c is_open = subst (λ (v : Version). Says (IsSaid (Some v)) (state g.S.Store c.args.conn.now).now) c.in-First.is (c.requires.said is_open)

pub judge_second-requires-clause-said : goal.judge_second-requires-clause-said
judge_second-requires-clause-said g c is_open = subst (λ (v : Version). Says (IsSaid (Some v)) (state g.S.Store c.args.conn.now).now) c.in-Second.is (c.requires.said is_open)

pub returns-in-First-clause-tests : goal.returns-in-First-clause-tests
returns-in-First-clause-tests g c = subst (λ (v : Version). TestsDatabase g.S.Store c.args.conn.now c.judge_first.new.conn c.judge_first.result (λ _. IsHeldIn v) RefusesEach) (sym c.in-First.is) c.judge_first.ensures.tests

pub returns-in-Second-clause-tests : goal.returns-in-Second-clause-tests
returns-in-Second-clause-tests g c =
    subst (λ (v : Version). TestsDatabase g.S.Store c.args.conn.now c.judge_second.new.conn c.judge_second.result (λ _. IsHeldIn v) RefusesEach) (sym c.in-Second.is)
    (each_database g.S.Store c.args.conn.now c.judge_second.new.conn c.judge_second.result (λ is_open. subst (λ (v : Version). Says (IsSaid (Some v)) (state g.S.Store c.args.conn.now).now) c.in-Second.is (c.requires.said is_open)) c.judge_second.ensures.tests)

pub returns-in-First-clause-listed : goal.returns-in-First-clause-listed
returns-in-First-clause-listed g c is_open =
    subst (λ (v : Version). IfOk c.judge_first.result (IsRegisterIn v (state g.S.Store c.args.conn.now).now.trees)) (sym c.in-First.is) (c.judge_first.ensures.listed is_open)

pub returns-in-Second-clause-listed : goal.returns-in-Second-clause-listed
returns-in-Second-clause-listed g c is_open =
    subst (λ (v : Version). IfOk c.judge_second.result (IsRegisterIn v (state g.S.Store c.args.conn.now).now.trees)) (sym c.in-Second.is) (c.judge_second.ensures.listed is_open)
