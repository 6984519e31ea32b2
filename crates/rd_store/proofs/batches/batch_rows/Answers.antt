use Rattle.rd_store.proofs.Common.{[], ◌∷◌, pos, Int, state, batch_asks, shown_was_open, shown_picks}
use Rattle.rd_store.proofs.Laws.{holds_tables, stays_desk}
use Rattle.rd_tables.proofs.ConnectionLaws.{asks_as}
use Rattle.rd_store.proofs.BatchQueries.{batch_found}
use Rattle.rd_store.proofs.batches.batch_rows.Goals as goal

pub read_all-requires-clause-tables : goal.read_all-requires-clause-tables
read_all-requires-clause-tables g c = holds_tables (state g.S.Store c.args.conn.now) c.requires.holds

pub read_all-requires-clause-plain : goal.read_all-requires-clause-plain
read_all-requires-clause-plain g c = batch_asks.plain

pub returns-clause-asks : goal.returns-clause-asks
returns-clause-asks g c =
    let old = state g.S.Store c.args.conn.now in
    let new = state g.S.Store c.read_all.new.conn in
    let params = Int (pos c.args.first) ∷ Int (pos c.args.last) ∷ [] in
    asks_as g.S.Store c.args.conn.now c.read_all.new.conn (rw (c.to_sql-from.ensures, c.to_sql-to.ensures) at c.read_all.ensures.asks) (λ o rows h.
    let at = c.requires.holds (shown_was_open _ params old new rows.items h) in
    batch_found c.args.first c.args.last _ rows.items at.holds.of.rows.files (shown_picks batch_asks params old new at.tables.schema rows.items h))

pub returns-clause-kept : goal.returns-clause-kept
returns-clause-kept g c = stays_desk g.S.Store c.args.conn.now c.read_all.new.conn c.read_all.ensures.asks.stays c.requires.holds
