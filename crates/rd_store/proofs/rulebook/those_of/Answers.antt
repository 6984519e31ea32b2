use Rattle.rd_store.proofs.Common.{◌≡◌, ◌∙◌, ◌-◌, ◌≤◌, ap, drop, length, of_calls, rules, subst, sym, take, entries, entries_sorted, IsPartitionedBy, always_returns_same, take_rest, is_below, is_up_to, all_rules}
use Rattle.rd_tables.proofs.TestPlaces.{Turns}
use Rattle.rd_store.proofs.Rulebooks.{parted_below, parted_up_to, picked}
use Rattle.rd_store.proofs.rulebook.those_of.Goals as goal

pub returns : goal.returns
returns c = λ desk band is are.
    let code = c.args.code in
    let scope = c.args.scope in
    let up = entries_sorted desk.rules in
    let from = c.partition_point-from.result in
    let to = c.partition_point-to.result in
    let rest : take (length c.args.rules.now - from) (drop from c.args.rules.now) ≡ drop from (all_rules desk) = take_rest c.args.rules.now from ∙ ap (drop from) are in
    let first = c.partition_point-from.ensures.partitioned (is_below code scope) (always_returns_same _ _ _ (λ a r f k. search (rules, of_calls))) (subst (IsPartitionedBy (is_below code scope)) (sym are) (parted_below code scope (entries desk.rules) up)) in
    let second = c.partition_point-to.ensures.partitioned (is_up_to code scope) (always_returns_same _ _ _ (λ a r f k. search (rules, of_calls))) (subst (IsPartitionedBy (is_up_to code scope)) (sym rest) (parted_up_to code scope from (entries desk.rules) up)) in
    ap (take to) rest
    ∙ picked code scope desk band is from to (subst (λ l. from ≤ length l) are c.partition_point-from.ensures.bound) (subst (λ l. to ≤ length l) rest c.partition_point-to.ensures.bound)
    (subst (λ l. Turns (is_below code scope) l from) are first) (subst (λ l. Turns (is_up_to code scope) l to) rest second)
