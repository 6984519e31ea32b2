use Rattle.rd_store.proofs.Common.{◌≡◌, ◌∙◌, IfOk, Some, ap, true, subst, sym, Database, IsDatabase, state, has_desk_columns, IsHeld, IsSaid, Refuses, Says, IsRegisterIn, Second}
use Rattle.rd_store.proofs.DatabaseTests.{other_version, still, still_resting, then_database}
use Rattle.rd_store.proofs.validation.judge_tables.Goals as goal

pub returns-in_default-clause-tests : goal.returns-in_default-clause-tests
returns-in_default-clause-tests g c = record {
  stays = c.known_version.ensures.asks.stays;
  holds = λ is_open. tt;
  refused = λ is_open. (c.requires.desk, let it = subst (λ said. Says (IsSaid said) (state g.S.Store c.args.conn.now).now) c.in_default.is (c.in_ok-said.ensures.asks.answer is_open) in record { tree = it.tree; tells = it.tells; told = it.told.1 });
  ends_open = λ clean. tt;
  refuses = λ not_desk not_sql clean. c.in_ok-said.ensures.asks.ends_open clean;
}

pub returns-in-First-clause-tests : goal.returns-in-First-clause-tests
returns-in-First-clause-tests g c = record {
  stays = c.known_version.ensures.asks.stays;
  holds = λ is_open. tt;
  refused = λ is_open. (c.requires.desk, let it = subst (λ said. Says (IsSaid said) (state g.S.Store c.args.conn.now).now) (c.in-Some.is ∙ ap Some c.in-First.is) (c.in_ok-said.ensures.asks.answer is_open) in record { tree = it.tree; tells = it.tells; told = other_version _ it.told });
  ends_open = λ clean. tt;
  refuses = λ not_desk not_sql clean. c.in_ok-said.ensures.asks.ends_open clean;
}

pub judge_second-requires-clause-rests : goal.judge_second-requires-clause-rests
judge_second-requires-clause-rests g c = still_resting g.S.Store c.args.conn.now c.known_version.new.conn c.known_version.ensures.asks.stays c.requires.settled

pub judge_second-requires-clause-sound : goal.judge_second-requires-clause-sound
judge_second-requires-clause-sound g c = still g.S.Store c.args.conn.now c.known_version.new.conn c.known_version.ensures.asks.stays IsDatabase c.requires.sound

pub judge_second-requires-clause-desk : goal.judge_second-requires-clause-desk
judge_second-requires-clause-desk g c = still g.S.Store c.args.conn.now c.known_version.new.conn c.known_version.ensures.asks.stays (λ db. has_desk_columns db.schema ≡ true) (λ was. c.requires.desk)

pub judge_second-requires-clause-said : goal.judge_second-requires-clause-said
judge_second-requires-clause-said g c is_open =
    let stays = c.known_version.ensures.asks.stays in
    subst (Says (IsSaid (Some Second))) (sym (stays.now is_open)) (subst (λ said. Says (IsSaid said) (state g.S.Store c.args.conn.now).now) (c.in-Some.is ∙ ap Some c.in-Second.is) (c.in_ok-said.ensures.asks.answer is_open))

pub returns-in-Second-clause-tests : goal.returns-in-Second-clause-tests
returns-in-Second-clause-tests g c =
    then_database g.S.Store c.args.conn.now c.known_version.new.conn c.judge_second.new.conn c.known_version.ensures.asks.stays c.in_ok-said.ensures.asks.ends_open c.judge_second.result (λ _. IsHeld) Refuses c.judge_second.ensures.tests

pub returns-in-Second-clause-listed : goal.returns-in-Second-clause-listed
returns-in-Second-clause-listed g c is_open =
    let was = c.judge_second.ensures.tests.stays.lasts.was_open is_open in
    subst (λ (db : Database). IfOk c.judge_second.result (IsRegisterIn Second db.trees)) (c.known_version.ensures.asks.stays.now was) (c.judge_second.ensures.listed is_open)
