use Rattle.rd_store.proofs.Common.{◌≡◌, Err, refl, IsHeldFirst, RefusesEach, [], sym, ◌∙◌, state, first_schema}
use Rattle.rd_store.specs.declared.faults.OpenFault.TheVariants.{Sql}
use Rattle.rd_store.proofs.DatabaseTests.{err_told, judged_first, said_here, not_asked}
use Rattle.rd_store.proofs.validation.judge_first.Goals as goal

pub check_first_rows-requires-clause-tables : goal.check_first_rows-requires-clause-tables
check_first_rows-requires-clause-tables g c is_open =
    let rests = c.requires.rests is_open in
    let schema : (state g.S.Store c.args.conn.now).now.schema ≡ first_schema = sym c.schema.ensures.value ∙ c.if-not-same_schema.ensures refl ∙ c.schema-2.ensures.value ∙ c.in_ok-first.ensures.schema in
    record { more = _; rests = record { schema = schema; settled = rests.settled; autocommit = rests.autocommit } }

pub check_first_rows-requires-clause-version : goal.check_first_rows-requires-clause-version
check_first_rows-requires-clause-version g c is_open =
    let schema : (state g.S.Store c.args.conn.now).now.schema ≡ first_schema = sym c.schema.ensures.value ∙ c.if-not-same_schema.ensures refl ∙ c.schema-2.ensures.value ∙ c.in_ok-first.ensures.schema in
    said_here [] (state g.S.Store c.args.conn.now).now schema (c.requires.said is_open)

pub returns-in_err-first-clause-tests : goal.returns-in_err-first-clause-tests
returns-in_err-first-clause-tests g c =
    let is = err_told c.from_residual.result c.in_err-first.field-0.0 c.from_residual.ensures.1 (λ fault. fault ≡ Sql) c.in_err-first.ensures.fault in
    not_asked g.S.Store c.args.conn.now (λ _. IsHeldFirst) RefusesEach c.requires.rests (λ o. rw (c.requires.desk o) refl) c.from_residual.result is c.from_residual.ensures.0

pub returns-then-not-same_schema-clause-tests : goal.returns-then-not-same_schema-clause-tests
returns-then-not-same_schema-clause-tests g c = not_asked g.S.Store c.args.conn.now (λ _. IsHeldFirst) RefusesEach c.requires.rests (λ o. rw (c.requires.desk o) refl) (Err Sql) refl refl

pub returns-clause-tests : goal.returns-clause-tests
returns-clause-tests g c =
    let schema : (state g.S.Store c.args.conn.now).now.schema ≡ first_schema = sym c.schema.ensures.value ∙ c.if-not-same_schema.ensures refl ∙ c.schema-2.ensures.value ∙ c.in_ok-first.ensures.schema in
    judged_first g.S.Store c.args.conn.now c.check_first_rows.new.conn c.requires.desk c.requires.sound c.check_first_rows.result schema (λ is_open. said_here [] (state g.S.Store c.args.conn.now).now schema (c.requires.said is_open)) c.check_first_rows.ensures.tests c.check_first_rows.ensures.rowids

pub returns-clause-listed : goal.returns-clause-listed
returns-clause-listed g c = c.check_first_rows.ensures.listed
