use Rattle.rd_store.proofs.Common.{◌≡◌, ◌∙◌, ◌-◌, ◌≤◌, Bool, ap, drop, length, map, of_calls, rules, subst, sym, take, IsPartitionedBy, always_returns_same, take_rest, Row, column, filed_shown, is_number_below, is_number_up_to}
use Rattle.rd_tables.proofs.TestPlaces.{Turns}
use Rattle.rd_store.proofs.BatchQueries.{parted_below, parted_up_to, rows_picked}
use Rattle.rd_store.proofs.batches.rows_of.Goals as goal

pub returns : goal.returns
returns c = λ es sorted are.
    let acc = c.args.acc in
    let below : Row → Bool = λ row. is_number_below acc (column row 9) in
    let up_to : Row → Bool = λ row. is_number_up_to acc (column row 9) in
    let from = c.partition_point-from.result in
    let to = c.partition_point-to.result in
    let rest : take (length c.args.rows.now - from) (drop from c.args.rows.now) ≡ drop from (map filed_shown es) = take_rest c.args.rows.now from ∙ ap (drop from) are in
    let first = c.partition_point-from.ensures.partitioned below (always_returns_same _ _ _ (λ a r f k. search (rules, of_calls))) (subst (IsPartitionedBy below) (sym are) (parted_below acc es sorted)) in
    let second = c.partition_point-to.ensures.partitioned up_to (always_returns_same _ _ _ (λ a r f k. search (rules, of_calls))) (subst (IsPartitionedBy up_to) (sym rest) (parted_up_to acc from es sorted)) in
    ap (take to) rest
    ∙ rows_picked acc es from to (subst (λ l. from ≤ length l) are c.partition_point-from.ensures.bound) (subst (λ l. to ≤ length l) rest c.partition_point-to.ensures.bound) (subst (λ l. Turns below l from) are first) (subst (λ l. Turns up_to l to) rest second)
