use Rattle.rd_store.proofs.Common.{◌∙◌, with_keys, with_rules}
use Rattle.rd_tables.proofs.TransactionSteps.{and_then, stopped}
use Rattle.rd_store.proofs.copying.copy_rest.Goals as goal

pub returns-in_err-copy_rules-clause-moves : goal.returns-in_err-copy_rules-clause-moves
returns-in_err-copy_rules-clause-moves g c before from rules keys checks are = stopped g.S.Store c.from_residual.result c.from_residual.ensures.0 (c.in_err-copy_rules.ensures.moves before from rules (c.all.ensures ∙ are.rules_are))

pub returns-in_err-copy_keys-clause-moves : goal.returns-in_err-copy_keys-clause-moves
returns-in_err-copy_keys-clause-moves g c before from rules keys checks are =
    stopped g.S.Store c.from_residual-in_err-copy_keys.result c.from_residual-in_err-copy_keys.ensures.0
    (and_then g.S.Store (c.in_ok-copy_rules.ensures.moves before from rules (c.all.ensures ∙ are.rules_are)) (c.in_err-copy_keys.ensures.moves (with_rules from.rules before) from.keys keys (c.deref.ensures.value ∙ are.keys_are)))

pub returns-clause-moves : goal.returns-clause-moves
returns-clause-moves g c before from rules keys checks are =
    let second = with_keys from.keys (with_rules from.rules before) in
    and_then g.S.Store (and_then g.S.Store (c.in_ok-copy_rules.ensures.moves before from rules (c.all.ensures ∙ are.rules_are)) (c.in_ok-copy_keys.ensures.moves (with_rules from.rules before) from.keys keys (c.deref.ensures.value ∙ are.keys_are)))
    (c.copy_checks.ensures.moves second from.checks checks (c.deref-2.ensures.value ∙ are.checks_are))
