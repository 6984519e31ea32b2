use Rattle.rd_chain.proofs.Common.{[], ◌∷◌, Int, Row, history_schema, pos, state}
use Rattle.rd_tables.proofs.ConnectionLaws.{asks_as}
use Rattle.rd_tables.proofs.QueryEffects.{shown_starts, shown_was_open}
use Rattle.rd_chain.proofs.Reading.{later_asks, later_read}
use Rattle.rd_chain.proofs.read.later_rows.Goals as goal

pub read_rows-requires : goal.read_rows-requires
read_rows-requires g c = record { readable = λ is_open. record { over = history_schema; rests = c.requires.rests is_open; plain = later_asks.plain } }

pub returns : goal.returns
returns g c =
    let old = state g.S.Store c.args.conn.now in
    let new = state g.S.Store c.read_rows.new.conn in
    let params : Row = Int (pos c.args.after) ∷ [] in
    record {
      asks = asks_as g.S.Store c.args.conn.now c.read_rows.new.conn (rw c.to_sql-key.ensures at c.read_rows.ensures.asks) (λ o rows h.
          later_read c.args.after old.now.trees rows.items (shown_starts later_asks params old new (c.requires.rests (shown_was_open _ params old new rows.items h)).schema rows.items h));
    }
