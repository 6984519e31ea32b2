use Rattle.rd_store.proofs.Common.{◌≡◌, state, IsDeskAt, IsOpen, desk, IsRegisterIn, IsHeld, Refuses, listed, register_of, Register, Second}
use Rattle.rd_store.proofs.MigrationLemmas.{rests_by}
use Rattle.rd_store.proofs.DatabaseTests.{desk_names, hold_ok, names_told, no_desk_names, no_desk_tests, told_err}
use Rattle.rd_store.proofs.Registers.{each_ok, register_stays}
use Rattle.rd_store.proofs.validation.judge.Goals as goal

pub returns-in_err-find_desk-clause-tests : goal.returns-in_err-find_desk-clause-tests
returns-in_err-find_desk-clause-tests g c =
    let old = c.args.conn.now in
    let fault = c.in_err-find_desk.field-0.0 in
    told_err g.S.Store old old (λ (done : Unit {0}). IsHeld) (λ _. IsHeld) Refuses Refuses fault c.from_residual.result c.from_residual.ensures.1 (λ refused. refused)
    (no_desk_tests g.S.Store old (λ is_open. c.requires.settled.autocommit) (λ _. IsHeld) Refuses (λ none. none) (λ some. some) fault c.in_err-find_desk.ensures.none)

pub returns-in_err-find_desk-clause-names : goal.returns-in_err-find_desk-clause-names
returns-in_err-find_desk-clause-names g c =
    let old = c.args.conn.now in
    let fault = c.in_err-find_desk.field-0.0 in
    names_told {T = Unit {0}} old old fault c.from_residual.result c.from_residual.ensures.1 (no_desk_names old fault c.in_err-find_desk.ensures.none)

pub judge_tables-requires-clause-desk : goal.judge_tables-requires-clause-desk
judge_tables-requires-clause-desk g c = c.in_ok-find_desk.ensures.found.0

pub returns-clause-names : goal.returns-clause-names
returns-clause-names g c = desk_names c.args.conn.now c.judge_tables.new.conn c.judge_tables.result c.in_ok-find_desk.ensures.found c.judge_tables.ensures.no_desk

pub returns-clause-kept : goal.returns-clause-kept
returns-clause-kept g c =
    let old = c.args.conn.now in
    let new = c.judge_tables.new.conn in
    let tests = c.judge_tables.ensures.tests in
    hold_ok c.judge_tables.result (IsOpen g.S.Store new) (IsHeld (state g.S.Store old).now) (IsDeskAt (state g.S.Store new)) tests.holds (rests_by g.S.Store old new c.requires.settled tests.stays)

pub returns-clause-listed : goal.returns-clause-listed
returns-clause-listed g c =
    let old = c.args.conn.now in
    let new = c.judge_tables.new.conn in
    each_ok c.judge_tables.result (IsOpen g.S.Store new) (IsRegisterIn Second (state g.S.Store old).now.trees) (λ (register : Register). listed register ≡ register_of (desk g.S.Store new).images) c.judge_tables.ensures.listed (register_stays g.S.Store old new c.judge_tables.ensures.tests.stays)
