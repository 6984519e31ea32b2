use Rattle.rd_store.proofs.Common.{◌≡◌, ◌∙◌, IsTrue, arith, rules}
use Rattle.rd_store.proofs.CompareLemmas.{asked_both, failed_both, not_told, same_all, same_next, told_as}
use Rattle.rd_store.proofs.CopyLemmas.{keeps_here}
use Rattle.rd_store.proofs.comparing.has_same_images.Goals as goal

pub returns-in_err-accessions : goal.returns-in_err-accessions
returns-in_err-accessions g c = record { compares = failed_both g.S.Store c.accessions.ensures.reads.keeps (keeps_here g.S.Store c.args.other.now c.between_calls.ensures) c.from_residual.result c.from_residual.ensures.0 }

pub returns-in_err-others : goal.returns-in_err-others
returns-in_err-others g c = record { compares = failed_both g.S.Store c.accessions.ensures.reads.keeps c.accessions-2.ensures.reads.keeps c.from_residual-in_err-others.result c.from_residual-in_err-others.ensures.0 }

pub loop-at-init : goal.loop-at-init
loop-at-init g c =
    let same : c.in_ok-accessions.accessions.items ≡ c.in_ok-others.others.items = search rules in
    asked_both g.S.Store c.in_ok-accessions.ensures.reads c.in_ok-others.ensures.reads (λ is are. (is, same ∙ are, λ k low. absurd (omega (arith, low))))

pub loop-at-preserved : goal.loop-at-preserved
loop-at-preserved g c =
    let sure : IsTrue c.in_ok-is_same.is_same = search rules in
    told_as g.S.Store (same_next g.S.Store c.args.one.now c.args.other.now c.in_ok-accessions.accessions.items c.loop-at.at c.index.result.now (omega (arith, c.loop-at-test.true)) c.index.ensures c.loop-at.invariant c.in_ok-is_same.ensures.compares) (λ are. are sure)

pub returns-in_err-is_same : goal.returns-in_err-is_same
returns-in_err-is_same g c =
    let next = same_next g.S.Store c.args.one.now c.args.other.now c.in_ok-accessions.accessions.items c.loop-at.at c.index.result.now (omega (arith, c.loop-at-test.true)) c.index.ensures c.loop-at.invariant c.in_err-is_same.ensures.compares in
    record { compares = failed_both g.S.Store next.one next.other c.from_residual-in_err-is_same.result c.from_residual-in_err-is_same.ensures.0 }

pub returns-then-not-is_same : goal.returns-then-not-is_same
returns-then-not-is_same g c = record {
  compares = told_as g.S.Store (same_next g.S.Store c.args.one.now c.args.other.now c.in_ok-accessions.accessions.items c.loop-at.at c.index.result.now (omega (arith, c.loop-at-test.true)) c.index.ensures c.loop-at.invariant c.in_ok-is_same.ensures.compares) (λ are. not_told _ _);
}

pub returns-then-ne : goal.returns-then-ne
returns-then-ne g c = record { compares = asked_both g.S.Store c.in_ok-accessions.ensures.reads c.in_ok-others.ensures.reads (λ is are. not_told _ _) }

pub returns : goal.returns
returns g c = record {
  compares = same_all g.S.Store c.args.one.now c.args.other.now c.in_ok-accessions.accessions.items c.loop-at.at c.loop-at.invariant (omega (arith, c.loop-at-test.false, c.loop-at.auto.at-end));
}
