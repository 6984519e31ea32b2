use Rattle.rd_store.proofs.Common.{◌≡◌, Ok, Err, Some, true, subst, sym, Database, IsDatabase, state, has_desk_columns, IsHeldIn, IsRegisterIn, RefusesEach, IsSaid, Says, Register, Version}
use Rattle.rd_store.proofs.DatabaseTests.{still, still_resting, then_database, told_err, told_ok}
use Rattle.rd_store.proofs.validation.judge_each_tables.Goals as goal

pub returns-in_default-clause-tests : goal.returns-in_default-clause-tests
returns-in_default-clause-tests g c = record {
  stays = c.known_version.ensures.asks.stays;
  holds = λ is_open. tt;
  refused = λ is_open. (c.requires.desk, let it = subst (λ said. Says (IsSaid said) (state g.S.Store c.args.conn.now).now) c.in_default.is (c.in_ok-said.ensures.asks.answer is_open) in record { tree = it.tree; tells = it.tells; told = it.told });
  ends_open = λ clean. tt;
  refuses = λ not_desk not_sql clean. c.in_ok-said.ensures.asks.ends_open clean;
}

pub judge_as-requires-clause-rests : goal.judge_as-requires-clause-rests
judge_as-requires-clause-rests g c = still_resting g.S.Store c.args.conn.now c.known_version.new.conn c.known_version.ensures.asks.stays c.requires.settled

pub judge_as-requires-clause-sound : goal.judge_as-requires-clause-sound
judge_as-requires-clause-sound g c = still g.S.Store c.args.conn.now c.known_version.new.conn c.known_version.ensures.asks.stays IsDatabase c.requires.sound

pub judge_as-requires-clause-desk : goal.judge_as-requires-clause-desk
judge_as-requires-clause-desk g c = still g.S.Store c.args.conn.now c.known_version.new.conn c.known_version.ensures.asks.stays (λ db. has_desk_columns db.schema ≡ true) (λ was. c.requires.desk)

pub judge_as-requires-clause-said : goal.judge_as-requires-clause-said
judge_as-requires-clause-said g c is_open =
    let stays = c.known_version.ensures.asks.stays in
    subst (Says (IsSaid (Some c.in-Some.version))) (sym (stays.now is_open)) (subst (λ said. Says (IsSaid said) (state g.S.Store c.args.conn.now).now) c.in-Some.is (c.in_ok-said.ensures.asks.answer is_open))

pub returns-in_err-register-clause-tests : goal.returns-in_err-register-clause-tests
returns-in_err-register-clause-tests g c =
    let fault = c.in_err-register.field-0.0 in
    let all = then_database g.S.Store c.args.conn.now c.known_version.new.conn c.judge_as.new.conn c.known_version.ensures.asks.stays c.in_ok-said.ensures.asks.ends_open (Err fault) (λ (register : Register). IsHeldIn c.in-Some.version) RefusesEach c.in_err-register.ensures.tests in
    told_err g.S.Store c.args.conn.now c.judge_as.new.conn (λ (register : Register). IsHeldIn c.in-Some.version) (λ (found : Version × Register). IsHeldIn found.0) RefusesEach RefusesEach fault c.from_residual-in_err-register.result c.from_residual-in_err-register.ensures.1 (λ refused. refused) all

pub returns-clause-tests : goal.returns-clause-tests
returns-clause-tests g c =
    let register = c.in_ok-register.register in
    let all = then_database g.S.Store c.args.conn.now c.known_version.new.conn c.judge_as.new.conn c.known_version.ensures.asks.stays c.in_ok-said.ensures.asks.ends_open (Ok register) (λ (register : Register). IsHeldIn c.in-Some.version) RefusesEach c.in_ok-register.ensures.tests in
    told_ok g.S.Store c.args.conn.now c.judge_as.new.conn (λ (register : Register). IsHeldIn c.in-Some.version) (λ (found : Version × Register). IsHeldIn found.0) RefusesEach RefusesEach register (c.in-Some.version, register) (λ is_open held. held) all

pub returns-clause-listed : goal.returns-clause-listed
returns-clause-listed g c is_open =
    let was = c.judge_as.ensures.tests.stays.lasts.was_open is_open in
    subst (λ (db : Database). IsRegisterIn c.in-Some.version db.trees c.in_ok-register.register) (c.known_version.ensures.asks.stays.now was) (c.in_ok-register.ensures.listed is_open)
