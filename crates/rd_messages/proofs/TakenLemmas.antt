-- What wires give, one read after another.
use Rattle.std.proofs.Common.{◌≡◌, ℕ, ◌+◌, ◌≤◌, List, ◌++◌, Option, length, take, sym, ap, subst, ◌∙◌, append_assoc, arith}
use Rattle.std.proofs.KnownBytes.{Consumes-kept, Consumes-trans}
use Rattle.std.proofs.Math.Seq.{take-append-add}
use Rattle.std.proofs.lemmas.List.{length-append, length-take-le, take-append-le}
use Rattle.std.specs.Io.KnownBytes.{Consumes, Keeps}
use Rattle.rd_messages.specs.Taken.{GrowsByTaken, TakesUpTo}
use borrow.Rule.Slice.PartMut.{put_mid}

-- what stands in front after a read of n bytes into the part of a buffer from a on
pub take-read : (a k n : ℕ) (xs ys : List ℕ) → a ≤ length xs → n ≤ length ys → take (a + n) (put_mid a k xs ys) ≡ take a xs ++ take n ys
take-read a k n xs ys within fits =
    let front : length (take a xs) ≡ a = length-take-le a xs within in
    ap (λ m. take (m + n) (put_mid a k xs ys)) (sym front)
    ∙ take-append-add (take a xs) _ n ∙ ap (λ t. take a xs ++ t) (take-append-le n ys _ fits)

-- ---- how much is taken

pub takes : (limit : ℕ) (old new : Option (List ℕ)) (bytes : List ℕ) → Consumes old new bytes → length bytes ≤ limit → TakesUpTo limit old new
takes limit old new bytes taken few = record { bytes = bytes; few = few; taken = taken }

-- after a read that failed
pub takes_kept : (limit : ℕ) (old mid new : Option (List ℕ)) → TakesUpTo limit old mid → Keeps mid new → TakesUpTo limit old new
takes_kept limit old mid new before kept =
    takes limit old new before.bytes (Consumes-kept old mid new before.bytes before.taken kept) before.few

pub takes_grown : (limit : ℕ) (old new : Option (List ℕ)) (before after : List ℕ) → GrowsByTaken old new before after
    → length after ≤ length before + limit → TakesUpTo limit old new
takes_grown limit old new before after grows fits =
    takes limit old new grows.bytes grows.taken (omega (arith, fits, ap length grows.grown, length-append before grows.bytes))

-- ---- bytes that grow

pub grows_more : (old mid new : Option (List ℕ)) (xs ys zs : List ℕ) → GrowsByTaken old mid xs ys → GrowsByTaken mid new ys zs → GrowsByTaken old new xs zs
grows_more old mid new xs ys zs one other = record {
  bytes = one.bytes ++ other.bytes;
  taken = Consumes-trans old mid new one.bytes other.bytes one.taken other.taken;
  grown = other.grown ∙ ap (λ t. t ++ other.bytes) one.grown ∙ append_assoc xs one.bytes other.bytes;
}

-- all bytes that were taken, after some more
pub taken_more : (old mid new : Option (List ℕ)) (xs ys : List ℕ) → Consumes old mid xs → GrowsByTaken mid new xs ys → Consumes old new ys
taken_more old mid new xs ys taken grows =
    let P : List ℕ → Type 0 = λ t. Consumes old new t in
    subst P (sym grows.grown) (Consumes-trans old mid new xs grows.bytes taken grows.taken)
