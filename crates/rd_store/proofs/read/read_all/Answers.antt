use Rattle.rd_store.proofs.Common.{desk_schema}
use Rattle.rd_store.proofs.read.read_all.Goals as goal

pub read_over-requires : goal.read_over-requires
read_over-requires g c = record { readable = λ is_open. record { over = desk_schema; rests = c.requires.tables is_open; plain = c.requires.plain } }
