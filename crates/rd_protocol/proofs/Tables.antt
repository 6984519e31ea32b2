-- A table of CSV, record by record.
use Rattle.std.proofs.Common.{◌≡◌, ◌∙◌, ◌+◌, ◌++◌, ◌∷◌, [], ◌<◌, ◌≤◌, ℕ, List, Some, ap, get_or, length, subst, sym, take}
use Rattle.std.specs.List.{flat_map}
use Rattle.std.proofs.lemmas.List.{flat_map_more, take_all, take_more}
use Rattle.std.specs.declared.alloc.Global.{Global}
use Rattle.std.specs.declared.vec.Vec.{Vec}
use Rattle.csv.specs.declared.writer.Writer.{Writer}
use Rattle.rd_protocol.specs.Written.{HasWritten}

module _ {X : Type 0} (f : X → List ℕ) (xs : List X) (k : ℕ) (text : List ℕ) where
  -- one item more is written
  pub written_more : (writer : Writer (Vec ℕ Global)) (x : X) → k < length xs → x ≡ get_or xs k x → HasWritten writer ((text ++ flat_map f (take k xs)) ++ f x)
      → HasWritten writer (text ++ flat_map f (take (k + 1) xs))
  written_more writer x below is =
      subst (HasWritten writer)
      (flat_map_more f text (take k xs) x ∙ ap (λ zs. text ++ flat_map f zs) (ap (λ y. take k xs ++ y ∷ []) is ∙ sym (take_more xs k x below)))

  -- all items are written
  pub written_all : (writer : Writer (Vec ℕ Global)) → length xs ≤ k → HasWritten writer (text ++ flat_map f (take k xs)) → HasWritten writer (text ++ flat_map f xs)
  written_all writer over = subst (λ zs. HasWritten writer (text ++ flat_map f zs)) (take_all k xs over)

same_some : (xs ys : List ℕ) → Some xs ≡ Some ys → xs ≡ ys
same_some xs ys is = cc

-- what is written is what the writer gives back
pub given_back : (writer : Writer (Vec ℕ Global)) (text : List ℕ) → HasWritten writer text → writer.wtr.inner.items ++ writer.wtr.buf ≡ text
given_back writer text has = same_some (writer.wtr.inner.items ++ writer.wtr.buf) text has.text
