use Rattle.rd_store.proofs.Common.{[], placed_rules_asks}
use Rattle.rd_store.proofs.QueryResults.{rules_placed}
use Rattle.rd_store.proofs.ReadLemmas.{rows_told}
use Rattle.rd_store.proofs.store.Store.place_rows.Goals as goal

pub query-requires : goal.query-requires
query-requires g c = record { plain = placed_rules_asks.plain }

pub returns-clause-reads : goal.returns-clause-reads
returns-clause-reads g c =
    rows_told g.S.Store c.args.self.now c.query.new.self ([]) c.query.ensures.holds c.query.ensures.reads placed_rules_asks (λ rows spelled picks. rules_placed _ rows spelled.rules picks)
