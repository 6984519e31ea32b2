use Rattle.rd_store.proofs.Common.{[]}
use Rattle.rd_store.proofs.CheckListQuery.{check_list_asks, checks_listed}
use Rattle.rd_store.proofs.ReadLemmas.{rows_told}
use Rattle.rd_store.proofs.store.Store.check_rows.Goals as goal

pub query-requires : goal.query-requires
query-requires g c = record { plain = check_list_asks.plain }

pub returns-clause-reads : goal.returns-clause-reads
returns-clause-reads g c =
    rows_told g.S.Store c.args.self.now c.query.new.self ([]) c.query.ensures.holds c.query.ensures.reads check_list_asks (λ rows spelled picks. checks_listed _ rows spelled.checks picks)
