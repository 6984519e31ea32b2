use Rattle.rd_store.proofs.Common.{◌≡◌, [], Ok, map, FinMap, entries, from_entries, Error, Desk, checkup_cmp, Outcome, numbered_check, with_checks, IsOf, Moves}
use Rattle.rd_store.proofs.CopyLemmas.{first_of}
use Rattle.rd_store.proofs.copying.copy_checks.Given as goal

-- as many checks are there as there were turns
abbrev pub invariant-loop-at : goal.invariant-loop-at
invariant-loop-at g l =
    (l.tx.conn.ghost_name ≡ l.fn.tx.conn.ghost_name)
    × ((before : Desk) (all : FinMap checkup_cmp Outcome) → before.checks ≡ from_entries [] → l.fn.checks ≡ map numbered_check (entries all)
    → Moves {T = Unit {0}} {X = Error} g.S.Store l.fn.tx.conn.now l.tx.conn.now (IsOf before) (IsOf (with_checks (first_of checkup_cmp l.at all) before)) (Ok tt))
