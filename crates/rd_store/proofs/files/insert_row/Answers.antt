use Rattle.rd_store.proofs.Common.{◌≡◌, ◌∷◌, Option, None, Some, ℕ, pos, option_map, refl, bound_value, or_null, Int, put_file_writes, IsFiledTo, file_shown}
use Rattle.sqlite.specs.contracts.types.U32ToSql.TheImpl as u32
use Rattle.rd_tables.proofs.TransactionSteps.{moves}
use Rattle.rd_store.proofs.DatabaseSteps.{makes_file, with_schema}
use Rattle.rd_store.proofs.files.insert_row.Goals as goal

bound_or_null : (n : Option ℕ) → bound_value (or_null u32.to_sql-value.it n) ≡ or_null Int (option_map pos n)
bound_or_null None = refl
bound_or_null (Some n) = refl

pub returns-clause-moves : goal.returns-clause-moves
returns-clause-moves g c desk images files count low this ascend =
    moves put_file_writes (Int (pos c.args.acc) ∷ file_shown c.args.file.now) (with_schema desk (IsFiledTo images c.args.acc files count)) (makes_file c.args.acc c.args.file.now desk images files count ascend low this) g.S.Store c.args.tx.now.conn.now c.execute.new.self.conn.now c.execute.result c.execute.ensures.ended
    (rw (c.params-to_sql.ensures, c.params-to_sql-2.ensures, c.params-to_sql-3.ensures, c.params-to_sql-4.ensures, c.params-to_sql-5.ensures, c.params-to_sql-6.ensures, c.params-to_sql-7.ensures, c.params-to_sql-8.ensures, c.params-to_sql-9.ensures, c.params-to_sql-10.ensures, c.of_user-user.ensures, bound_or_null c.args.file.now.user, bound_or_null c.args.file.now.size, c.from-slot.ensures, c.as_str-name.ensures, c.as_str-ty.ensures, c.of_class-is_served.ensures, c.from-faults.ensures, c.from-last.ensures, c.requires.units) at c.execute.ensures.runs) c.execute.ensures.survives
