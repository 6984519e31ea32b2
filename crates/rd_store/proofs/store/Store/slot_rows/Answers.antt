use Rattle.rd_store.proofs.Common.{[], ◌∷◌, pos, Int, file_asks}
use Rattle.rd_store.proofs.IndexQueries.{file_found}
use Rattle.rd_store.proofs.ReadLemmas.{rows_told}
use Rattle.rd_store.proofs.store.Store.slot_rows.Goals as goal

pub query-requires : goal.query-requires
query-requires g c = record { plain = file_asks.plain }

pub returns-clause-reads : goal.returns-clause-reads
returns-clause-reads g c =
    rows_told g.S.Store c.args.self.now c.query.new.self (Int (pos c.args.acc) ∷ Int (pos c.args.slot) ∷ []) c.query.ensures.holds (rw (c.to_sql-first.ensures, c.to_sql-second.ensures, c.from.ensures) at c.query.ensures.reads) file_asks (λ rows spelled picks. file_found (record { acc = c.args.acc; slot = c.args.slot }) _ rows spelled.files picks)
