use Rattle.std.proofs.Common.{◌≡◌, ◌∙◌, Bool, MatchBool, None, Ok, Option, Some, ap, false, subst, sym, true}
use Rattle.rd_store.proofs.CopyLemmas.{keeps_here}
use Rattle.rd_store.specs.Held.{Reads, desk}
use Rattle.rd_store.specs.declared.faults.StoreFault.{StoreFault}
use Rattle.rd_holdings.specs.State.{Terms, terms_of}
use Rattle.rd_history.specs.Settled.{IsSo}
use Rattle.rd_history.proofs.SoLemmas.{found_at, match_of, none_at, reads_for, same_in}
use Rattle.rd_history.proofs.settling.is_so.Goals as goal

pub returns-in-Some-at_rank : goal.returns-in-Some-at_rank
returns-in-Some-at_rank g c =
    let d = desk g.S.Store c.args.store.now in
    let rule = c.in-Rule.rule in
    let found = c.in-Some-at_rank.found.now in
    let same = c.same_terms.result in
    let here = rw c.deref.ensures.value at c.in-Some-at_rank.ensures in
    record {
      reads = subst (λ change. Reads {T = Bool} {X = StoreFault} g.S.Store c.args.store.now c.rules_at.new.self (Ok same) (λ so. MatchBool so (IsSo change d) (¬ IsSo change d))) (sym c.in-Rule.is)
          (reads_for g.S.Store c.args.store.now c.rules_at.new.self c.in_ok-rules-in-Rule.rules same c.in_ok-rules-in-Rule.ensures.reads (λ is_open are.
          let at = found_at d rule.band rule.scope rule.rank c.in_ok-rules-in-Rule.rules.items are found here.0 here.1 in
          match_of same (λ is. at ∙ ap Some (c.same_terms.ensures.0 is)) (λ so. c.same_terms.ensures.1 (same_in (terms_of found) (terms_of rule) (sym at ∙ so)))));
    }

pub returns-in-Rule : goal.returns-in-Rule
returns-in-Rule g c =
    let d = desk g.S.Store c.args.store.now in
    let rule = c.in-Rule.rule in
    record {
      reads = subst (λ change. Reads {T = Bool} {X = StoreFault} g.S.Store c.args.store.now c.rules_at.new.self (Ok false) (λ so. MatchBool so (IsSo change d) (¬ IsSo change d))) (sym c.in-Rule.is)
          (reads_for g.S.Store c.args.store.now c.rules_at.new.self c.in_ok-rules-in-Rule.rules false c.in_ok-rules-in-Rule.ensures.reads (λ is_open are so.
          let none = none_at d rule.band rule.scope rule.rank c.in_ok-rules-in-Rule.rules.items are (rw c.deref.ensures.value at c.in-None-at_rank.ensures) in
          let e : ◌≡◌ {A = Option Terms} None (Some (terms_of rule)) = sym none ∙ so in absurd cc));
    }

pub returns-in-Some-at_rank-2 : goal.returns-in-Some-at_rank-2
returns-in-Some-at_rank-2 g c =
    let d = desk g.S.Store c.args.store.now in
    let drop = c.in-DropRule in
    let found = c.in-Some-at_rank-2.field-0.now in
    let here = rw c.deref-in-DropRule.ensures.value at c.in-Some-at_rank-2.ensures in
    record {
      reads = subst (λ change. Reads {T = Bool} {X = StoreFault} g.S.Store c.args.store.now c.rules_at-in-DropRule.new.self (Ok false) (λ so. MatchBool so (IsSo change d) (¬ IsSo change d))) (sym drop.is)
          (reads_for g.S.Store c.args.store.now c.rules_at-in-DropRule.new.self c.in_ok-rules-in-DropRule.rules false c.in_ok-rules-in-DropRule.ensures.reads (λ is_open are so.
          let at = found_at d drop.band drop.scope drop.rank c.in_ok-rules-in-DropRule.rules.items are found here.0 here.1 in
          let e : ◌≡◌ {A = Option Terms} (Some (terms_of found)) None = sym at ∙ so in absurd cc));
    }

pub returns-in-DropRule : goal.returns-in-DropRule
returns-in-DropRule g c =
    let d = desk g.S.Store c.args.store.now in
    let drop = c.in-DropRule in
    record {
      reads = subst (λ change. Reads {T = Bool} {X = StoreFault} g.S.Store c.args.store.now c.rules_at-in-DropRule.new.self (Ok true) (λ so. MatchBool so (IsSo change d) (¬ IsSo change d))) (sym drop.is)
          (reads_for g.S.Store c.args.store.now c.rules_at-in-DropRule.new.self c.in_ok-rules-in-DropRule.rules true c.in_ok-rules-in-DropRule.ensures.reads (λ is_open are.
          none_at d drop.band drop.scope drop.rank c.in_ok-rules-in-DropRule.rules.items are (rw c.deref-in-DropRule.ensures.value at c.in-None-at_rank-2.ensures)));
    }

pub returns : goal.returns
returns g c = record { reads = record { keeps = keeps_here g.S.Store c.args.store.now c.between_calls.ensures; answer = λ is_open. tt; ends_open = λ clean. tt } }
