use Rattle.rd_chain.proofs.Common.{[], history_schema, state}
use Rattle.rd_tables.proofs.ConnectionLaws.{asks_as}
use Rattle.rd_tables.proofs.QueryEffects.{shown_picks, shown_was_open}
use Rattle.rd_chain.proofs.Reading.{all_asks, all_read}
use Rattle.rd_chain.proofs.read.all_rows.Goals as goal

pub read_rows-requires : goal.read_rows-requires
read_rows-requires g c = record { readable = λ is_open. record { over = history_schema; rests = c.requires.rests is_open; plain = all_asks.plain } }

pub returns : goal.returns
returns g c =
    let old = state g.S.Store c.args.conn.now in
    let new = state g.S.Store c.read_rows.new.conn in
    record {
      asks = asks_as g.S.Store c.args.conn.now c.read_rows.new.conn c.read_rows.ensures.asks (λ o rows h.
          all_read old.now.trees rows.items (shown_picks all_asks [] old new (c.requires.rests (shown_was_open _ [] old new rows.items h)).schema rows.items h));
    }
