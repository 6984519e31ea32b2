use Rattle.rd_store.proofs.Common.{IsTrue, rules, ◌≡◌}
use Rattle.rd_store.proofs.CompareLemmas.{failed_both, not_told, same_desks, told_as, SameNotes, SameRows, SameTerms, after_it, both_same}
use Rattle.rd_store.proofs.comparing.is_same_desk.Goals as goal

pub returns-in_err-has_deeds : goal.returns-in_err-has_deeds
returns-in_err-has_deeds g c = record { compares = failed_both g.S.Store c.has_same_deeds.ensures.compares.one c.has_same_deeds.ensures.compares.other c.from_residual.result c.from_residual.ensures.0 }

pub returns-then-not-has_deeds : goal.returns-then-not-has_deeds
returns-then-not-has_deeds g c = record { compares = told_as g.S.Store c.in_ok-has_deeds.ensures.compares (λ same. not_told _ _) }

pub returns-in_err-has_rules : goal.returns-in_err-has_rules
returns-in_err-has_rules g c =
    let all = after_it g.S.Store c.in_ok-has_deeds.ensures.compares c.has_same_rules.ensures.compares in
    record { compares = failed_both g.S.Store all.one all.other c.from_residual-in_err-has_rules.result c.from_residual-in_err-has_rules.ensures.0 }

pub returns-then-not-has_rules : goal.returns-then-not-has_rules
returns-then-not-has_rules g c = record { compares = told_as g.S.Store (after_it g.S.Store c.in_ok-has_deeds.ensures.compares c.in_ok-has_rules.ensures.compares) (λ same. not_told _ _) }

pub returns-in_err-has_keys : goal.returns-in_err-has_keys
returns-in_err-has_keys g c =
    let all = after_it g.S.Store (after_it g.S.Store c.in_ok-has_deeds.ensures.compares c.in_ok-has_rules.ensures.compares) c.has_same_keys.ensures.compares in
    record { compares = failed_both g.S.Store all.one all.other c.from_residual-in_err-has_keys.result c.from_residual-in_err-has_keys.ensures.0 }

pub returns-then-not-has_keys : goal.returns-then-not-has_keys
returns-then-not-has_keys g c = record { compares = told_as g.S.Store (after_it g.S.Store (after_it g.S.Store c.in_ok-has_deeds.ensures.compares c.in_ok-has_rules.ensures.compares) c.in_ok-has_keys.ensures.compares) (λ same. not_told _ _) }

pub returns-in_err-has_checks : goal.returns-in_err-has_checks
returns-in_err-has_checks g c =
    let all = after_it g.S.Store (after_it g.S.Store (after_it g.S.Store c.in_ok-has_deeds.ensures.compares c.in_ok-has_rules.ensures.compares) c.in_ok-has_keys.ensures.compares) c.has_same_checks.ensures.compares in
    record { compares = failed_both g.S.Store all.one all.other c.from_residual-in_err-has_checks.result c.from_residual-in_err-has_checks.ensures.0 }

pub returns-then-not-has_checks : goal.returns-then-not-has_checks
returns-then-not-has_checks g c = record { compares = told_as g.S.Store (after_it g.S.Store (after_it g.S.Store (after_it g.S.Store c.in_ok-has_deeds.ensures.compares c.in_ok-has_rules.ensures.compares) c.in_ok-has_keys.ensures.compares) c.in_ok-has_checks.ensures.compares) (λ same. not_told _ _) }

pub returns : goal.returns
returns g c =
    let deeds : IsTrue c.in_ok-has_deeds.has_deeds = search rules in
    let rows : IsTrue c.in_ok-has_rules.has_rules = search rules in
    let keys : IsTrue c.in_ok-has_keys.has_keys = search rules in
    let checks : IsTrue c.in_ok-has_checks.has_checks = search rules in
    let terms = both_same g.S.Store (λ d e. d.deeds ≡ e.deeds) (λ d e. d.rules ≡ e.rules) deeds c.in_ok-has_deeds.ensures.compares c.in_ok-has_rules.ensures.compares in
    let notes = both_same g.S.Store SameTerms (λ d e. d.keys ≡ e.keys) rows terms c.in_ok-has_keys.ensures.compares in
    let most = both_same g.S.Store SameNotes (λ d e. d.checks ≡ e.checks) keys notes c.in_ok-has_checks.ensures.compares in
    record { compares = same_desks g.S.Store c.has_same_images.result (both_same g.S.Store SameRows (λ d e. d.images ≡ e.images) checks most c.has_same_images.ensures.compares) }
