use Rattle.rd_store.proofs.Common.{[], first_images_asks}
use Rattle.rd_store.proofs.ReadLemmas.{rows_started}
use Rattle.rd_store.proofs.image_walk.first_rows.Goals as goal

pub read_over-requires : goal.read_over-requires
read_over-requires g c = record { readable = λ is_open. let at = c.requires.tables is_open in record { over = _; rests = at.rests; plain = (first_images_asks at.more).plain } }

pub returns : goal.returns
returns g c = record { asks = rows_started g.S.Store c.args.conn.now c.read_over.new.conn ([]) c.requires.tables c.read_over.ensures.asks first_images_asks }
