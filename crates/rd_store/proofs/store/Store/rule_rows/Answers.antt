use Rattle.rd_store.proofs.Common.{[], ◌∷◌, pos, Int, rules_asks, band_code}
use Rattle.rd_store.proofs.QueryResults.{rules_found}
use Rattle.rd_store.proofs.ReadLemmas.{rows_told}
use Rattle.rd_store.proofs.store.Store.rule_rows.Goals as goal

pub query-requires : goal.query-requires
query-requires g c = record { plain = rules_asks.plain }

pub returns-clause-reads : goal.returns-clause-reads
returns-clause-reads g c =
    rows_told g.S.Store c.args.self.now c.query.new.self (Int (pos (band_code c.args.band)) ∷ Int (pos c.args.scope) ∷ []) c.query.ensures.holds (rw (c.to_sql-first.ensures, c.to_sql-second.ensures, c.of_band.ensures) at c.query.ensures.reads) rules_asks (λ rows spelled picks. rules_found c.args.band c.args.scope _ rows spelled.rules picks)
