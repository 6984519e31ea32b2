use Rattle.rd_store.proofs.Common.{ap, subst, rules, Database, LeavesOnly, desk_of}
use Rattle.rd_tables.proofs.ConnectionLaws.{Laws}
use Rattle.rd_store.proofs.Laws.{leaves_only}
use Rattle.rd_store.proofs.store.Store.open.Goals as goal

pub invariant_of-result : goal.invariant_of-result
invariant_of-result g c = (c.in-Ok.ensures.kept, c.in-Ok.ensures.listed, λ is_open. tt)

pub returns-in-Ok-clause-opened : goal.returns-in-Ok-clause-opened
returns-in-Ok-clause-opened g c =
    let laws : Laws g.S.Store = record { settles = g.met.S.Store.settled; shuts = g.met.S.Store.shut_if_dirty } in
    let tests = c.in-Ok.ensures.tests in
    let stays = tests.stays in
    record {
      lasts = stays.lasts;
      named = c.in-Ok.ensures.names.named.0;
      plain = c.in-Ok.ensures.names.named.1;
      tables = λ is_open. (tests.holds is_open).of.schema;
      consistent = λ is_open. let it = tests.holds is_open in record { spelled = it.of.rows; lawful = it.lawful; index = it.of.index };
      is = λ is_open. ap (λ (db : Database). desk_of db.trees) (stays.now is_open);
      untouched = search rules;
      ends_open = tests.ends_open;
      crash = stays.quiet;
      durable = λ is_open.
          subst (LeavesOnly g.S.Store c.judge.new.conn) (ap (λ (db : Database). desk_of db.trees) (stays.now is_open)) (leaves_only g.S.Store laws c.judge.new.conn c.in-Ok.ensures.kept is_open);
    }

pub returns-in-Err-clause-refused : goal.returns-in-Err-clause-refused
returns-in-Err-clause-refused g c =
    let tests = c.in-Err.ensures.tests in
    record {
      lasts = tests.stays.lasts;
      no_desk = c.in-Err.ensures.names.no_desk;
      foreign = c.in-Err.ensures.names.foreign;
      refused = tests.refused;
      same = c.in-Err.ensures.names.same;
      untouched = search rules;
      ends_open = tests.refuses;
      crash = tests.stays.quiet;
    }
