use Rattle.rd_store.proofs.Common.{◌≡◌, inl, subst, sym, Database, state, IsOpen, IsHeldIn, IsNotMigrated, IsRegisterIn, first_desk, listed, register_of, Version}
use Rattle.rd_store.proofs.MigrationLemmas.{all_brought, all_migrated, first_at, none_brought, opened_second, rests_by, untouched_by}
use Rattle.rd_store.proofs.DatabaseTests.{err_told}
use Rattle.rd_tables.proofs.ConnectionLaws.{Laws}
use Rattle.rd_store.proofs.Registers.{brought_listed, register_stays}
use Rattle.rd_store.proofs.migrating.migrate.Goals as goal

pub returns-in_err-version-clause-refused : goal.returns-in_err-version-clause-refused
returns-in_err-version-clause-refused g c =
    let old = c.args.conn.now in
    let new = c.judge_each.new.conn in
    let tests = c.in_err-version.ensures.tests in
    let fault = c.in_err-version.field-0.0 in
    err_told c.from_residual.result fault c.from_residual.ensures.1 (IsNotMigrated g.S.Store old new) (record {
      lasts = tests.stays.lasts;
      no_desk = c.in_err-version.ensures.names.no_desk;
      foreign = c.in_err-version.ensures.names.foreign;
      refused = tests.refused;
      same = c.in_err-version.ensures.names.same;
      untouched = untouched_by g.S.Store old new c.requires.settled tests.stays;
      ends_open = tests.refuses;
      quiet = λ not_sql. tests.stays.quiet;
      durable = λ is_open. tests.stays.quiet;
      crash = λ was clean left may. inl (tests.stays.quiet was clean left may);
    })

pub bring_up-requires : goal.bring_up-requires
bring_up-requires g c =
    let tests = c.in_ok-version.ensures.tests in
    let held = λ (is_open : IsOpen g.S.Store c.judge_each.new.conn). subst (λ (v : Version). IsHeldIn v (state g.S.Store c.args.conn.now).now) c.in-First.is (tests.holds is_open) in
    record { start = first_at g.S.Store c.args.conn.now c.judge_each.new.conn c.requires.settled tests.stays held tests.ends_open c.judge_each.new.conn }

pub returns-in-First-clause-migrated : goal.returns-in-First-clause-migrated
returns-in-First-clause-migrated g c =
    let laws : Laws g.S.Store = record { settles = g.met.S.Store.settled; shuts = g.met.S.Store.shut_if_dirty } in
    let tests = c.in_ok-version.ensures.tests in
    let held = λ (is_open : IsOpen g.S.Store c.judge_each.new.conn). subst (λ (v : Version). IsHeldIn v (state g.S.Store c.args.conn.now).now) c.in-First.is (tests.holds is_open) in
    all_migrated g.S.Store c.args.conn.now c.judge_each.new.conn c.requires.settled tests.stays held tests.ends_open c.bring_up.new.conn c.bring_up.result c.bring_up.ensures.turns laws c.in_ok-version.ensures.names.named.0 c.in_ok-version.ensures.names.named.1

pub returns-in-First-clause-holds : goal.returns-in-First-clause-holds
returns-in-First-clause-holds g c =
    let tests = c.in_ok-version.ensures.tests in
    let held = λ (is_open : IsOpen g.S.Store c.judge_each.new.conn). subst (λ (v : Version). IsHeldIn v (state g.S.Store c.args.conn.now).now) c.in-First.is (tests.holds is_open) in
    all_brought g.S.Store c.args.conn.now c.judge_each.new.conn c.requires.settled tests.stays held tests.ends_open c.bring_up.new.conn c.bring_up.result c.bring_up.ensures.turns

pub returns-in-First-clause-refused : goal.returns-in-First-clause-refused
returns-in-First-clause-refused g c =
    let laws : Laws g.S.Store = record { settles = g.met.S.Store.settled; shuts = g.met.S.Store.shut_if_dirty } in
    let tests = c.in_ok-version.ensures.tests in
    let held = λ (is_open : IsOpen g.S.Store c.judge_each.new.conn). subst (λ (v : Version). IsHeldIn v (state g.S.Store c.args.conn.now).now) c.in-First.is (tests.holds is_open) in
    none_brought g.S.Store c.args.conn.now c.judge_each.new.conn c.requires.settled tests.stays held tests.ends_open c.bring_up.new.conn c.bring_up.result laws g.met.S.Store.stays c.bring_up.ensures.turns c.in_ok-version.ensures.names.named.0 c.bring_up.ensures.fault

pub returns-in-Second-clause-migrated : goal.returns-in-Second-clause-migrated
returns-in-Second-clause-migrated g c =
    let laws : Laws g.S.Store = record { settles = g.met.S.Store.settled; shuts = g.met.S.Store.shut_if_dirty } in
    let tests = c.in_ok-version.ensures.tests in
    let held = λ (is_open : IsOpen g.S.Store c.judge_each.new.conn). subst (λ (v : Version). IsHeldIn v (state g.S.Store c.args.conn.now).now) c.in-Second.is (tests.holds is_open) in
    opened_second g.S.Store c.args.conn.now c.judge_each.new.conn c.requires.settled tests.stays laws c.in_ok-version.ensures.names.named.0 c.in_ok-version.ensures.names.named.1 held tests.ends_open

pub returns-in-Second-clause-holds : goal.returns-in-Second-clause-holds
returns-in-Second-clause-holds g c is_open =
    let tests = c.in_ok-version.ensures.tests in
    rests_by g.S.Store c.args.conn.now c.judge_each.new.conn c.requires.settled tests.stays is_open (subst (λ (v : Version). IsHeldIn v (state g.S.Store c.args.conn.now).now) c.in-Second.is (tests.holds is_open))

-- the register is that of the desk that was judged
pub returns-in-First-clause-listed : goal.returns-in-First-clause-listed
returns-in-First-clause-listed g c =
    let old = c.args.conn.now in
    let mid = c.judge_each.new.conn in
    let register = c.in_ok-version.register in
    let told = λ (is_open : IsOpen g.S.Store mid).
    subst (λ (db : Database). listed register ≡ register_of (first_desk db.trees).images) (sym (c.in_ok-version.ensures.tests.stays.now is_open))
    (subst (λ (v : Version). IsRegisterIn v (state g.S.Store old).now.trees register) c.in-First.is (c.in_ok-version.ensures.listed is_open)) in
    brought_listed g.S.Store mid c.bring_up.new.conn register c.bring_up.result c.bring_up.ensures.turns c.bring_up.ensures.same told

pub returns-in-Second-clause-listed : goal.returns-in-Second-clause-listed
returns-in-Second-clause-listed g c is_open =
    let old = c.args.conn.now in
    register_stays g.S.Store old c.judge_each.new.conn c.in_ok-version.ensures.tests.stays c.in_ok-version.register is_open
    (subst (λ (v : Version). IsRegisterIn v (state g.S.Store old).now.trees c.in_ok-version.register) c.in-Second.is (c.in_ok-version.ensures.listed is_open))
