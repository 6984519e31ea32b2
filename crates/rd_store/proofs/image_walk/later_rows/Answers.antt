use Rattle.rd_store.proofs.Common.{[], ◌∷◌, pos, Int, next_images_asks}
use Rattle.rd_store.proofs.ReadLemmas.{rows_started}
use Rattle.rd_store.proofs.image_walk.later_rows.Goals as goal

pub read_over-requires : goal.read_over-requires
read_over-requires g c = record { readable = λ is_open. let at = c.requires.tables is_open in record { over = _; rests = at.rests; plain = (next_images_asks at.more).plain } }

pub returns : goal.returns
returns g c = record { asks = rows_started g.S.Store c.args.conn.now c.read_over.new.conn (Int (pos c.args.acc) ∷ []) c.requires.tables (rw c.to_sql-key.ensures at c.read_over.ensures.asks) next_images_asks }
