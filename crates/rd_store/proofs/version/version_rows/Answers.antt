use Rattle.rd_store.proofs.Common.{[], refl, rules, state, version_asks, shown_is_open, shown_picks}
use Rattle.rd_tables.proofs.ConnectionLaws.{Laws, clean_at}
use Rattle.rd_tables.proofs.QueryCalls.{shown_stays, failed_stays}
use Rattle.rd_store.proofs.version.version_rows.Goals as goal

pub returns-in-Ok : goal.returns-in-Ok
returns-in-Ok g c =
    let laws : Laws g.S.Store = record { settles = g.met.S.Store.settled; shuts = g.met.S.Store.shut_if_dirty } in
    let old = state g.S.Store c.args.conn.now in
    let new = state g.S.Store c.query_all.new.self in
    let asks = version_asks (state g.S.Store c.args.conn.now).now.schema c.args.tree c.requires.tells in
    record {
      asks = record {
        stays = shown_stays g.S.Store laws _ _ c.args.conn.now c.query_all.new.self (λ is_open. record { over = _; rests = record { schema = refl; settled = c.requires.settled.settled is_open; autocommit = c.requires.settled.autocommit }; plain = asks.plain }) c.query_all.ensures.survives _ c.in-Ok.ensures.ok;
        answer = λ is_open.
            let shown = c.in-Ok.ensures.ok (clean_at g.S.Store laws c.query_all.new.self is_open) in
            shown_picks asks [] old new refl c.in-Ok.rows.items shown;
        ends_open = λ clean. shown_is_open _ [] old new c.in-Ok.rows.items (c.in-Ok.ensures.ok clean);
        fault = tt;
      };
    }

pub returns-in-Err : goal.returns-in-Err
returns-in-Err g c =
    let laws : Laws g.S.Store = record { settles = g.met.S.Store.settled; shuts = g.met.S.Store.shut_if_dirty } in
    let asks = version_asks (state g.S.Store c.args.conn.now).now.schema c.args.tree c.requires.tells in
    record {
      asks = record {
        stays = failed_stays g.S.Store laws _ _ c.args.conn.now c.query_all.new.self (λ is_open. record { over = _; rests = record { schema = refl; settled = c.requires.settled.settled is_open; autocommit = c.requires.settled.autocommit }; plain = asks.plain }) c.query_all.ensures.survives _ c.in-Err.ensures.err;
        answer = λ is_open. tt;
        ends_open = λ clean. tt;
        fault = search rules;
      };
    }
