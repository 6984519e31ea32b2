use Rattle.rd_store.proofs.Common.{◌∙◌, ℕ, List, ap, length, subst, sym, Error, AreFounds, IsOf, LacksImage, Moves, with_new_image, heading_of, image_with, Err, refl}
use Rattle.rd_store.proofs.CopyLemmas.{unmoved}
use Rattle.rd_store.proofs.copying.put_image.Goals as goal

pub returns-in_default-clause-moves : goal.returns-in_default-clause-moves
returns-in_default-clause-moves g c before = unmoved g.S.Store c.args.tx.now.conn.now _ _ (Err _) refl

pub put_filed-requires-clause-size : goal.put_filed-requires-clause-size
put_filed-requires-clause-size g c = ap length c.as_slice-bytes.ensures ∙ c.requires.size

pub put_filed-requires-clause-files : goal.put_filed-requires-clause-files
put_filed-requires-clause-files g c = subst (AreFounds c.args.image.now.kind c.as_slice-bytes.result.now) (sym c.as_slice.ensures) c.in-Ok.ensures.files

pub returns-clause-moves : goal.returns-clause-moves
returns-clause-moves g c before =
    subst (λ (bs : List ℕ). Moves {T = Unit {0}} {X = Error} g.S.Store c.args.tx.now.conn.now c.put_filed.new.tx.conn.now (LacksImage c.args.acc before) (IsOf (with_new_image c.args.acc (image_with (heading_of c.args.image.now) bs) before)) c.put_filed.result) c.as_slice-bytes.ensures (c.put_filed.ensures.moves before)
