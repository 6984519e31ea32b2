use Rattle.rd_store.proofs.Common.{digest_params, drop_key_writes, desk, without_key, lawful_no_key}
use Rattle.rd_store.proofs.StatementCalls.{single}
use Rattle.rd_store.proofs.DatabaseSteps.{makes_no_key}
use Rattle.rd_store.proofs.keys.delete_key.Goals as goal

pub returns : goal.returns
returns g c =
    let d = desk g.S.Store c.args.conn.now in
    single g.S.Store (record { settles = g.met.S.Store.settled; shuts = g.met.S.Store.shut_if_dirty }) drop_key_writes (digest_params c.args.digest.now) (without_key c.args.digest.now d) c.args.conn.now c.execute.new.self c.requires.mode c.requires.holds (λ was. makes_no_key c.args.digest.now d) (λ was lawful. lawful_no_key c.args.digest.now d lawful (c.requires.other was)) c.execute.result
    (rw (c.params-to_sql.ensures, c.as_slice-sum.ensures) at c.execute.ensures.runs) (rw (c.params-to_sql.ensures, c.as_slice-sum.ensures) at c.execute.ensures.survives)
