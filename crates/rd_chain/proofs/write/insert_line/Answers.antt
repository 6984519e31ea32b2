use Rattle.rd_chain.proofs.Common.{◌∙◌, Ok, Err, ap, next_end}
use Rattle.rd_chain.proofs.Appending.{makes_next, told_next}
use Rattle.rd_chain.proofs.Statements.{ends_schema, params, put_writes}
use Rattle.rd_tables.proofs.TransactionSteps.{moves, stopped}
use Rattle.rd_chain.proofs.write.insert_line.Goals as goal

pub returns-in_err-execute-clause-moves : goal.returns-in_err-execute-clause-moves
returns-in_err-execute-clause-moves g c before =
    let end = c.args.end.now in
    let line = c.args.line.now in
    let next = c.next-next.result in
    let is = c.next-next.ensures ∙ ap (next_end end) c.as_bytes.ensures.value in
    stopped g.S.Store c.from_residual.result c.from_residual.ensures.0
    (moves put_writes (params next line) (ends_schema end before) (makes_next end next line before is c.requires.few) g.S.Store c.args.tx.now.conn.now c.execute.new.self.conn.now (Err c.in_err-execute.field-0.0) c.in_err-execute.ensures.ended
    (rw (c.params-to_sql.ensures, c.params-to_sql-2.ensures, c.params-to_sql-3.ensures, c.as_slice-sum.ensures) at c.in_err-execute.ensures.runs) c.in_err-execute.ensures.survives)

pub returns-clause-moves : goal.returns-clause-moves
returns-clause-moves g c before =
    let end = c.args.end.now in
    let line = c.args.line.now in
    let next = c.next-next.result in
    let is = c.next-next.ensures ∙ ap (next_end end) c.as_bytes.ensures.value in
    told_next g.S.Store next
    (moves put_writes (params next line) (ends_schema end before) (makes_next end next line before is c.requires.few) g.S.Store c.args.tx.now.conn.now c.execute.new.self.conn.now (Ok c.in_ok-execute.field-0) c.in_ok-execute.ensures.ended
    (rw (c.params-to_sql.ensures, c.params-to_sql-2.ensures, c.params-to_sql-3.ensures, c.as_slice-sum.ensures) at c.in_ok-execute.ensures.runs) c.in_ok-execute.ensures.survives)
