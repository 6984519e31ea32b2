-- Bytes that are written one after another.
use Rattle.std.proofs.Common.{◌≡◌, ◌∙◌, append-nil, ℕ, ◌+◌, ◌≤◌, ◌-◌, List, ◌++◌, length, replicate, take, ap, sym, refl, arith, length-append, length-take}
use Rattle.std.proofs.lemmas.List.{drop_all, length-replicate}
use Rattle.std.proofs.lemmas.List.Edits.{paste_all, paste-paste}
use lib.Seq.{paste}
use Rattle.rd_samples.specs.Written.{padded, written}

-- bytes that are written behind others are written with them
pub written_next : (image : List ℕ) (place : ℕ) (old new : List ℕ) → place + length old ≤ length image
    → written (written image place old) (place + length old) new ≡ written image place (old ++ new)
written_next image place old new fits =
    let n = length old in
    let m = length new in
    ap (λ i. written i (place + n) new) (sym (paste_all image place old n refl))
    ∙ sym (paste_all (paste image place old n) (place + n) new m refl)
    ∙ paste-paste image place old new n m refl refl (omega arith)
    ∙ ap (paste image place (old ++ new)) (sym (length-append old new))
    ∙ paste_all image place (old ++ new) (length (old ++ new)) refl

-- and so where the image and the place are known by equations
pub written_on : (image mid now : List ℕ) (place next : ℕ) (old new : List ℕ) → mid ≡ written image place old → now ≡ written mid next new
    → next ≡ place + length old → place + length old ≤ length image → now ≡ written image place (old ++ new)
written_on image mid now place next old new first second at fits =
    second ∙ ap (λ i. written i next new) first ∙ ap (λ k. written (written image place old) k new) at ∙ written_next image place old new fits

-- what `put` is known to do, where its bytes fit
pub record Puts (old new : List ℕ) (place : ℕ) (bytes : List ℕ) : Type 0 where
  pub value : place + length bytes ≤ length old → new ≡ written old place bytes
  pub sized : length new ≡ length old

-- one more `put`, behind what was written before
pub put_on : (image mid now : List ℕ) (place next : ℕ) (old new : List ℕ) → mid ≡ written image place old → length mid ≡ length image
    → Puts mid now next new → next ≡ place + length old → next + length new ≤ length image → now ≡ written image place (old ++ new)
put_on image mid now place next old new first sized second at fits =
    written_on image mid now place next old new first (second.value (omega arith)) at (omega arith)

-- bytes that are written over a whole image are the image
pub written_whole : (image bytes : List ℕ) → length bytes ≡ length image → written image 0 bytes ≡ bytes
written_whole image bytes same = ap (λ l. bytes ++ l) (drop_all (0 + length bytes) image (omega arith)) ∙ append-nil bytes

-- a padded field has its width
pub length-padded : (n pad : ℕ) (bytes : List ℕ) → length (padded n pad bytes) ≡ n
length-padded n pad bytes = omega (arith, length-append (take n bytes) (replicate (n - length bytes) pad), length-take n bytes, length-replicate (n - length bytes) pad)
