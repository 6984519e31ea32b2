use Rattle.rd_store.proofs.Common.{◌∙◌, ℕ, ap, arith, length, refl, length-map, checkup_cmp, Checkup, numbered_check, with_checks, entries, Outcome}
use Rattle.rd_holdings.specs.declared.rows.Finding.{Finding}
use Rattle.rd_store.proofs.CopyLemmas.{all_copied, at_shown, first_of, none_copied, one_copied}
use Rattle.rd_store.proofs.Orders.{checkup_order}
use Rattle.rd_store.proofs.copying.copy_checks.Goals as goal

-- the accession, the day and the outcome of a check
abbrev entry_of : ℕ × Finding → Checkup × Outcome
entry_of check = (record { acc = check.0; day = check.1.day }, check.1.outcome)

pub returns-in_err-copy_check-clause-moves : goal.returns-in_err-copy_check-clause-moves
returns-in_err-copy_check-clause-moves g c before all none are =
    let item : ℕ × Finding = c.check_at-entry.result in
    none_copied g.S.Store checkup_order before all with_checks c.loop-at.at (c.loop-at.invariant.1 before all none are) (entry_of item) (at_shown numbered_check entry_of (λ e. refl) (entries all) c.args.checks.now c.loop-at.at item are (omega (arith, c.loop-at-test.true)) (c.check_at-entry.ensures item)) c.from_residual.result c.from_residual.ensures.0 (c.in_err-copy_check.ensures.moves (with_checks (first_of checkup_cmp c.loop-at.at all) before) (entry_of item).0 (entry_of item).1 refl)

pub loop-at-preserved : goal.loop-at-preserved
loop-at-preserved g c = (
  c.copy_check.ensures.same_reference ∙ c.loop-at.invariant.0,
  λ before all none are.
      let item : ℕ × Finding = c.check_at-entry.result in
      one_copied g.S.Store checkup_order before all with_checks c.loop-at.at (c.loop-at.invariant.1 before all none are) (entry_of item) (at_shown numbered_check entry_of (λ e. refl) (entries all) c.args.checks.now c.loop-at.at item are (omega (arith, c.loop-at-test.true)) (c.check_at-entry.ensures item)) (c.in_ok-copy_check.ensures.moves (with_checks (first_of checkup_cmp c.loop-at.at all) before) (entry_of item).0 (entry_of item).1 refl),
)

pub returns-clause-moves : goal.returns-clause-moves
returns-clause-moves g c before all none are = all_copied g.S.Store checkup_order before all with_checks c.loop-at.at (c.loop-at.invariant.1 before all none are) (omega (arith, ap length are ∙ length-map (entries all) numbered_check, c.loop-at-test.false, c.loop-at.auto.at-end))
