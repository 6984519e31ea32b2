use Rattle.rd_store.proofs.Common.{◌∙◌, sym, desk, check_spelling}
use Rattle.rd_store.proofs.CompareLemmas.{failed_both, rows_compared}
use Rattle.rd_store.proofs.CopyLemmas.{keeps_here}
use Rattle.rd_store.proofs.CheckListQuery.{check_back}
use Rattle.rd_store.proofs.comparing.has_same_checks.Goals as goal

pub returns-in_err-rows : goal.returns-in_err-rows
returns-in_err-rows g c = record { compares = failed_both g.S.Store c.check_rows.ensures.reads.keeps (keeps_here g.S.Store c.args.other.now c.between_calls.ensures) c.from_residual.result c.from_residual.ensures.0 }

pub returns-in_err-others : goal.returns-in_err-others
returns-in_err-others g c = record { compares = failed_both g.S.Store c.check_rows.ensures.reads.keeps c.check_rows-2.ensures.reads.keeps c.from_residual-in_err-others.result c.from_residual-in_err-others.ensures.0 }

pub returns : goal.returns
returns g c = record {
  compares = rows_compared g.S.Store check_spelling check_back (desk g.S.Store c.args.one.now).checks (desk g.S.Store c.args.other.now).checks c.in_ok-rows.ensures.reads c.in_ok-others.ensures.reads (λ told. sym c.deref.ensures.value ∙ c.are_same_rows.ensures told ∙ c.deref-2.ensures.value);
}
