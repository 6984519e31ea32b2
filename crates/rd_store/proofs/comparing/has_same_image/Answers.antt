use Rattle.rd_store.proofs.Common.{◌∙◌, sym}
use Rattle.rd_store.proofs.CompareLemmas.{asked_both, failed_both}
use Rattle.rd_store.proofs.CopyLemmas.{keeps_here}
use Rattle.rd_store.proofs.comparing.has_same_image.Goals as goal

pub returns-in_err-found : goal.returns-in_err-found
returns-in_err-found g c = record { compares = failed_both g.S.Store c.image.ensures.reads.keeps (keeps_here g.S.Store c.args.other.now c.between_calls.ensures) c.from_residual.result c.from_residual.ensures.0 }

pub returns-in_err-standing : goal.returns-in_err-standing
returns-in_err-standing g c = record { compares = failed_both g.S.Store c.image.ensures.reads.keeps c.image-2.ensures.reads.keeps c.from_residual-in_err-standing.result c.from_residual-in_err-standing.ensures.0 }

pub returns : goal.returns
returns g c = record { compares = asked_both g.S.Store c.in_ok-found.ensures.reads c.in_ok-standing.ensures.reads (λ is are told. sym is ∙ c.is_same_found.ensures.same told ∙ are) }
