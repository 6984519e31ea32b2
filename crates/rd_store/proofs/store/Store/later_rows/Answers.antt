use Rattle.rd_store.proofs.Common.{[], ◌∷◌, w32, to_z-of_z, Int}
use Rattle.rd_store.proofs.LaterCheckQuery.{later_asks, later_found}
use Rattle.rd_store.proofs.ReadLemmas.{first_told}
use Rattle.rd_store.proofs.store.Store.later_rows.Goals as goal

pub query-requires : goal.query-requires
query-requires g c = record { plain = later_asks.plain }

pub returns-clause-reads : goal.returns-clause-reads
returns-clause-reads g c =
    let is = to_z-of_z w32 c.args.day c.ranges.day in
    first_told g.S.Store c.args.self.now c.query.new.self (Int c.args.day ∷ []) c.query.ensures.holds (rw (c.to_sql-from.ensures, is) at c.query.ensures.reads) later_asks (λ rows spelled picks. later_found c.args.day _ rows spelled.checks picks)
