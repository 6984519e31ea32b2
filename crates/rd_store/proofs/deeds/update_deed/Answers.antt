use Rattle.rd_store.proofs.Common.{w32, to_z-of_z, deed_params, set_deed_writes, DeedRow, desk, with_deed, lawful_deed}
use Rattle.rd_store.proofs.StatementCalls.{single}
use Rattle.rd_store.proofs.DatabaseSteps.{makes_deed}
use Rattle.rd_store.proofs.deeds.update_deed.Goals as goal

pub returns : goal.returns
returns g c =
    let deed : DeedRow = record { donor = c.args.donor.now; signed = c.args.signed } in
    let d = desk g.S.Store c.args.conn.now in
    let is = to_z-of_z w32 c.args.signed c.ranges.signed in
    single g.S.Store (record { settles = g.met.S.Store.settled; shuts = g.met.S.Store.shut_if_dirty }) set_deed_writes (deed_params c.args.num deed.donor deed.signed) (with_deed c.args.num deed d) c.args.conn.now c.execute.new.self c.requires.mode c.requires.holds (λ was. makes_deed c.args.num deed d (c.requires.stands was)) (λ was. lawful_deed c.args.num deed d c.requires.deed) c.execute.result
    (rw (c.params-to_sql.ensures, c.params-to_sql-2.ensures, c.params-to_sql-3.ensures, is) at c.execute.ensures.runs) (rw (c.params-to_sql.ensures, c.params-to_sql-2.ensures, c.params-to_sql-3.ensures, is) at c.execute.ensures.survives)
