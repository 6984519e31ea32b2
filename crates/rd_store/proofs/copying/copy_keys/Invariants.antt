use Rattle.rd_store.proofs.Common.{◌≡◌, [], Ok, FinMap, entries, from_entries, Error, Desk, digest_cmp, Audience, with_keys, IsOf, Moves}
use Rattle.rd_store.proofs.CopyLemmas.{first_of}
use Rattle.rd_store.proofs.copying.copy_keys.Given as goal

-- as many keys are there as there were turns
abbrev pub invariant-loop-at : goal.invariant-loop-at
invariant-loop-at g l =
    (l.tx.conn.ghost_name ≡ l.fn.tx.conn.ghost_name)
    × ((before : Desk) (all : FinMap digest_cmp Audience) → before.keys ≡ from_entries [] → l.fn.keys ≡ entries all
    → Moves {T = Unit {0}} {X = Error} g.S.Store l.fn.tx.conn.now l.tx.conn.now (IsOf before) (IsOf (with_keys (first_of digest_cmp l.at all) before)) (Ok tt))
