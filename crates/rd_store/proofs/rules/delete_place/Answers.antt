use Rattle.rd_store.proofs.Common.{place_params, drop_rule_writes, place_of, band_code}
use Rattle.rd_tables.proofs.TransactionSteps.{moves}
use Rattle.rd_store.proofs.DatabaseSteps.{makes_no_rule, of_schema}
use Rattle.rd_store.proofs.rules.delete_place.Goals as goal

pub returns-clause-moves : goal.returns-clause-moves
returns-clause-moves g c before =
    moves drop_rule_writes (place_params (band_code c.args.rule.now.band) c.args.rule.now.scope c.args.rule.now.rank) (of_schema before) (makes_no_rule (place_of c.args.rule.now) before) g.S.Store c.args.tx.now.conn.now c.execute.new.self.conn.now c.execute.result c.execute.ensures.ended
    (rw (c.params-to_sql.ensures, c.params-to_sql-2.ensures, c.params-to_sql-3.ensures, c.of_band-band.ensures, c.from-rank.ensures) at c.execute.ensures.runs) c.execute.ensures.survives
