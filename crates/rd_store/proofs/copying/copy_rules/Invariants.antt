use Rattle.rd_store.proofs.Common.{◌≡◌, [], Ok, from_entries, Error, Desk, all_rules, place_cmp, with_rules, IsOf, Moves}
use Rattle.rd_store.proofs.CopyLemmas.{first_of}
use Rattle.rd_store.proofs.copying.copy_rules.Given as goal

-- as many rules are there as there were turns
abbrev pub invariant-loop-at : goal.invariant-loop-at
invariant-loop-at g l =
    (l.tx.conn.ghost_name ≡ l.fn.tx.conn.ghost_name)
    × ((before from : Desk) → before.rules ≡ from_entries [] → l.fn.rules ≡ all_rules from
    → Moves {T = Unit {0}} {X = Error} g.S.Store l.fn.tx.conn.now l.tx.conn.now (IsOf before) (IsOf (with_rules (first_of place_cmp l.at from.rules) before)) (Ok tt))
