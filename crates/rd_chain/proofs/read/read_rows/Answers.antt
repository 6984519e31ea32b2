use Rattle.rd_chain.proofs.Common.{rules, state}
use Rattle.rd_tables.proofs.QueryEffects.{shown_is_open}
use Rattle.rd_tables.proofs.ConnectionLaws.{Laws, clean_at}
use Rattle.rd_tables.proofs.QueryCalls.{shown_stays, failed_stays}
use Rattle.rd_chain.proofs.read.read_rows.Goals as goal

pub returns-in-Ok : goal.returns-in-Ok
returns-in-Ok g c =
    let laws : Laws g.S.Store = record { settles = g.met.S.Store.settled; shuts = g.met.S.Store.shut_if_dirty } in
    let old = c.args.conn.now in
    let new = c.query_all.new.self in
    record {
      asks = record {
        stays = shown_stays g.S.Store laws _ _ old new c.requires.readable c.query_all.ensures.survives _ c.in-Ok.ensures.ok;
        answer = λ is_open. c.in-Ok.ensures.ok (clean_at g.S.Store laws new is_open);
        ends_open = λ clean. shown_is_open _ _ (state g.S.Store old) (state g.S.Store new) _ (c.in-Ok.ensures.ok clean);
        fault = tt;
      };
    }

pub returns-in-Err : goal.returns-in-Err
returns-in-Err g c =
    let laws : Laws g.S.Store = record { settles = g.met.S.Store.settled; shuts = g.met.S.Store.shut_if_dirty } in
    record {
      asks = record {
        stays = failed_stays g.S.Store laws _ _ c.args.conn.now c.query_all.new.self c.requires.readable c.query_all.ensures.survives _ c.in-Err.ensures.err;
        answer = λ is_open. tt;
        ends_open = λ clean. tt;
        fault = search rules;
      };
    }
