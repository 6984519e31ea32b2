use Rattle.rd_store.proofs.Common.{◌∙◌, sym, desk, deed_spelling}
use Rattle.rd_store.proofs.CompareLemmas.{failed_both, deed_back, rows_compared}
use Rattle.rd_store.proofs.CopyLemmas.{keeps_here}
use Rattle.rd_store.proofs.comparing.has_same_deeds.Goals as goal

pub returns-in_err-rows : goal.returns-in_err-rows
returns-in_err-rows g c = record { compares = failed_both g.S.Store c.numbered_rows.ensures.reads.keeps (keeps_here g.S.Store c.args.other.now c.between_calls.ensures) c.from_residual.result c.from_residual.ensures.0 }

pub returns-in_err-others : goal.returns-in_err-others
returns-in_err-others g c = record { compares = failed_both g.S.Store c.numbered_rows.ensures.reads.keeps c.numbered_rows-2.ensures.reads.keeps c.from_residual-in_err-others.result c.from_residual-in_err-others.ensures.0 }

pub returns : goal.returns
returns g c = record {
  compares = rows_compared g.S.Store deed_spelling deed_back (desk g.S.Store c.args.one.now).deeds (desk g.S.Store c.args.other.now).deeds c.in_ok-rows.ensures.reads c.in_ok-others.ensures.reads (λ told. sym c.deref.ensures.value ∙ c.are_same_rows.ensures told ∙ c.deref-2.ensures.value);
}
