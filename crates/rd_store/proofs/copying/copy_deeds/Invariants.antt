use Rattle.rd_store.proofs.Common.{◌≡◌, [], Ok, nat_cmp, FinMap, entries, from_entries, Error, Desk, DeedRow, with_deeds, IsOf, Moves}
use Rattle.rd_store.proofs.CopyLemmas.{first_of}
use Rattle.rd_store.proofs.copying.copy_deeds.Given as goal

-- as many deeds are there as there were turns
abbrev pub invariant-loop-at : goal.invariant-loop-at
invariant-loop-at g l =
    (l.tx.conn.ghost_name ≡ l.fn.tx.conn.ghost_name)
    × ((before : Desk) (all : FinMap nat_cmp DeedRow) → before.deeds ≡ from_entries [] → l.fn.deeds ≡ entries all
    → Moves {T = Unit {0}} {X = Error} g.S.Store l.fn.tx.conn.now l.tx.conn.now (IsOf before) (IsOf (with_deeds (first_of nat_cmp l.at all) before)) (Ok tt))
