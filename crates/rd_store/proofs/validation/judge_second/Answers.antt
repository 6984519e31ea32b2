use Rattle.rd_store.proofs.Common.{◌≡◌, Err, refl, IsHeld, Refuses, [], ◌∷◌, sym, ◌∙◌, state, desk_schema, marks_table}
use Rattle.rd_store.specs.declared.faults.OpenFault.TheVariants.{Sql}
use Rattle.rd_store.proofs.DatabaseTests.{err_told, judged_second, said_here, not_asked}
use Rattle.rd_store.proofs.validation.judge_second.Goals as goal

pub check_rows-requires-clause-tables : goal.check_rows-requires-clause-tables
check_rows-requires-clause-tables g c is_open =
    let rests = c.requires.rests is_open in
    let schema : (state g.S.Store c.args.conn.now).now.schema ≡ desk_schema = sym c.schema.ensures.value ∙ c.if-not-same_schema.ensures refl ∙ c.schema-2.ensures.value ∙ c.in_ok-second.ensures.schema in
    record { schema = schema; settled = rests.settled; autocommit = rests.autocommit }

pub check_rows-requires-clause-version : goal.check_rows-requires-clause-version
check_rows-requires-clause-version g c is_open =
    let schema : (state g.S.Store c.args.conn.now).now.schema ≡ desk_schema = sym c.schema.ensures.value ∙ c.if-not-same_schema.ensures refl ∙ c.schema-2.ensures.value ∙ c.in_ok-second.ensures.schema in
    said_here (marks_table 11 ∷ []) (state g.S.Store c.args.conn.now).now schema (c.requires.said is_open)

pub returns-in_err-second-clause-tests : goal.returns-in_err-second-clause-tests
returns-in_err-second-clause-tests g c =
    let is = err_told c.from_residual.result c.in_err-second.field-0.0 c.from_residual.ensures.1 (λ fault. fault ≡ Sql) c.in_err-second.ensures.fault in
    not_asked g.S.Store c.args.conn.now (λ _. IsHeld) Refuses c.requires.rests (λ o. rw (c.requires.desk o) refl) c.from_residual.result is c.from_residual.ensures.0

pub returns-then-not-same_schema-clause-tests : goal.returns-then-not-same_schema-clause-tests
returns-then-not-same_schema-clause-tests g c = not_asked g.S.Store c.args.conn.now (λ _. IsHeld) Refuses c.requires.rests (λ o. rw (c.requires.desk o) refl) (Err Sql) refl refl

pub returns-clause-tests : goal.returns-clause-tests
returns-clause-tests g c =
    let schema : (state g.S.Store c.args.conn.now).now.schema ≡ desk_schema = sym c.schema.ensures.value ∙ c.if-not-same_schema.ensures refl ∙ c.schema-2.ensures.value ∙ c.in_ok-second.ensures.schema in
    judged_second g.S.Store c.args.conn.now c.check_rows.new.conn c.requires.desk c.requires.sound c.check_rows.result schema (λ is_open. said_here (marks_table 11 ∷ []) (state g.S.Store c.args.conn.now).now schema (c.requires.said is_open)) c.check_rows.ensures.tests c.check_rows.ensures.rowids

pub returns-clause-listed : goal.returns-clause-listed
returns-clause-listed g c = c.check_rows.ensures.listed
