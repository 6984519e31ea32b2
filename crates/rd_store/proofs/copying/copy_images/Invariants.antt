use Rattle.rd_store.proofs.Common.{◌≡◌, [], Ok, nat_cmp, from_entries, keys, Error, Desk, AndClean, with_images, IsClean, IsOf, IsOpen, Keeps, Moves, desk}
use Rattle.rd_store.proofs.CopyLemmas.{first_of}
use Rattle.rd_store.proofs.copying.copy_images.Given as goal

-- as many images are there as there were turns, and the desk that is read stays
abbrev pub invariant-loop-at : goal.invariant-loop-at
invariant-loop-at g l =
    (l.tx.conn.ghost_name ≡ l.fn.tx.conn.ghost_name)
    × Keeps g.S.Store l.fn.from l.from
    × (IsClean g.S.Store l.from → IsOpen g.S.Store l.from)
    × (IsClean g.S.Store l.from → l.accessions.items ≡ keys (desk g.S.Store l.fn.from).images)
    × ((before : Desk) → before.images ≡ from_entries []
    → Moves {T = Unit {0}} {X = Error} g.S.Store l.fn.tx.conn.now l.tx.conn.now (AndClean g.S.Store l.from (IsOf before))
    (AndClean g.S.Store l.from (IsOf (with_images (first_of nat_cmp l.at (desk g.S.Store l.fn.from).images) before))) (Ok tt))
