use Rattle.rd_store.proofs.Common.{Register, Version, IsHeldIn, RefusesEach}
use Rattle.rd_store.proofs.DatabaseTests.{desk_names, names_told, no_desk_names, no_desk_tests, told_err}
use Rattle.rd_store.proofs.validation.judge_each.Goals as goal

pub returns-in_err-find_desk-clause-tests : goal.returns-in_err-find_desk-clause-tests
returns-in_err-find_desk-clause-tests g c =
    let old = c.args.conn.now in
    let fault = c.in_err-find_desk.field-0.0 in
    let held = λ (found : Version × Register). IsHeldIn found.0 in
    told_err g.S.Store old old held held RefusesEach RefusesEach fault c.from_residual.result c.from_residual.ensures.1 (λ refused. refused)
    (no_desk_tests g.S.Store old (λ is_open. c.requires.settled.autocommit) held RefusesEach (λ none. none) (λ some. some) fault c.in_err-find_desk.ensures.none)

pub returns-in_err-find_desk-clause-names : goal.returns-in_err-find_desk-clause-names
returns-in_err-find_desk-clause-names g c =
    let old = c.args.conn.now in
    let fault = c.in_err-find_desk.field-0.0 in
    names_told {T = Version} old old fault c.from_residual.result c.from_residual.ensures.1 (no_desk_names old fault c.in_err-find_desk.ensures.none)

pub judge_each_tables-requires-clause-desk : goal.judge_each_tables-requires-clause-desk
judge_each_tables-requires-clause-desk g c = c.in_ok-find_desk.ensures.found.0

pub returns-clause-names : goal.returns-clause-names
returns-clause-names g c = desk_names c.args.conn.now c.judge_each_tables.new.conn c.judge_each_tables.result c.in_ok-find_desk.ensures.found c.judge_each_tables.ensures.no_desk

pub returns-clause-listed : goal.returns-clause-listed
returns-clause-listed g c = c.judge_each_tables.ensures.listed
