use Rattle.rd_store.proofs.Common.{[], ◌∷◌, pos, Int, state, marks_asks, shown_was_open, shown_picks}
use Rattle.rd_tables.proofs.ConnectionLaws.{asks_as}
use Rattle.rd_store.proofs.marks.marks_rows.Goals as goal

pub read_all-requires-clause-plain : goal.read_all-requires-clause-plain
read_all-requires-clause-plain g c = marks_asks.plain

pub returns : goal.returns
returns g c =
    let old = state g.S.Store c.args.conn.now in
    let new = state g.S.Store c.read_all.new.conn in
    let params = Int (pos c.args.acc) ∷ [] in
    record { asks = asks_as g.S.Store c.args.conn.now c.read_all.new.conn (rw c.to_sql-key.ensures at c.read_all.ensures.asks) (λ o rows h. shown_picks marks_asks params old new (c.requires.tables (shown_was_open _ params old new rows.items h)).schema rows.items h) }
