use Rattle.rd_store.proofs.Common.{◌≡◌, Option, None, Some, ℤ, refl, bound_value, or_null, Int, put_rule_writes, rule_spelling, place_of, terms_of}
use Rattle.sqlite.specs.contracts.types.I32ToSql.TheImpl as i32
use Rattle.rd_tables.proofs.TransactionSteps.{moves}
use Rattle.rd_store.proofs.DatabaseSteps.{makes_rule, of_schema}
use Rattle.rd_store.proofs.rules.insert_rule.Goals as goal

bound_or_null : (n : Option ℤ) → bound_value (or_null i32.to_sql-value.it n) ≡ or_null Int n
bound_or_null None = refl
bound_or_null (Some n) = refl

pub returns-clause-moves : goal.returns-clause-moves
returns-clause-moves g c before free =
    moves put_rule_writes (rule_spelling.columns (place_of c.args.rule.now, terms_of c.args.rule.now)) (of_schema before) (makes_rule (place_of c.args.rule.now) (terms_of c.args.rule.now) before free) g.S.Store c.args.tx.now.conn.now c.execute.new.self.conn.now c.execute.result c.execute.ensures.ended
    (rw (c.params-to_sql.ensures, c.params-to_sql-2.ensures, c.params-to_sql-3.ensures, c.params-to_sql-4.ensures, c.params-to_sql-5.ensures, c.params-to_sql-6.ensures, c.params-to_sql-7.ensures, c.params-to_sql-8.ensures, c.params-to_sql-9.ensures, c.params-to_sql-10.ensures, bound_or_null c.args.rule.now.from, bound_or_null c.args.rule.now.until, c.of_band-band.ensures, c.from-rank.ensures, c.of_audiences-audiences.ensures, c.how-how.ensures, c.number-number.ensures, c.word-word.ensures, c.of_effect-effect.ensures) at c.execute.ensures.runs) c.execute.ensures.survives
