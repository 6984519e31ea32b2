use Rattle.rd_store.proofs.Common.{place_params, drop_rule_writes, desk, Place, without_rule, band_code, lawful_no_rule}
use Rattle.rd_store.proofs.StatementCalls.{single}
use Rattle.rd_store.proofs.DatabaseSteps.{makes_no_rule}
use Rattle.rd_store.proofs.rules.delete_rule.Goals as goal

pub returns : goal.returns
returns g c =
    let place : Place = record { band = c.args.band; scope = c.args.scope; rank = c.args.rank } in
    let d = desk g.S.Store c.args.conn.now in
    single g.S.Store (record { settles = g.met.S.Store.settled; shuts = g.met.S.Store.shut_if_dirty }) drop_rule_writes (place_params (band_code place.band) place.scope place.rank) (without_rule place d) c.args.conn.now c.execute.new.self c.requires.mode c.requires.holds (λ was. makes_no_rule place d) (λ was. lawful_no_rule place d) c.execute.result
    (rw (c.params-to_sql.ensures, c.params-to_sql-2.ensures, c.params-to_sql-3.ensures, c.of_band-code.ensures, c.from-number.ensures) at c.execute.ensures.runs)
    (rw (c.params-to_sql.ensures, c.params-to_sql-2.ensures, c.params-to_sql-3.ensures, c.of_band-code.ensures, c.from-number.ensures) at c.execute.ensures.survives)
