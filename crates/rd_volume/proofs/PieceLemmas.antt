-- The pieces of a file, one by one and joined.
use Rattle.std.proofs.Common.{◌≡◌, ◌∙◌, ◌+◌, ◌<◌, ◌≤◌, ℕ, zero, suc, List, [], ◌∷◌, All, ap, arith, get_or, length, refl, slice_index, subst, sym, take}
use Rattle.std.specs.List.{concat}
use Rattle.std.proofs.lemmas.List.Elements.{All-cons, All-head, All-nil, All-tail}
use Rattle.rd_geometry.specs.Kinds.{size_of}
use Rattle.rd_geometry.specs.Laws.{block_inside, cpm_unit_inside}
use Rattle.rd_geometry.specs.declared.kind.Kind.{Kind}
use Rattle.rd_geometry.specs.declared.kind.Kind.TheVariants.{Cpm8}
use Rattle.rd_volume.specs.Founds.{IsSoundFile}
use Rattle.rd_volume.specs.Kinds.{room_of, unit_count_of}
use Rattle.rd_volume.specs.Parts.{range_of_unit, ranges_of, place_of_body}
use Rattle.rd_volume.specs.Volumes.{AreBytesOf, IsFound, body_of, pieces_of}
use Rattle.rd_volume.specs.declared.found.Found.{Found}
use Rattle.rd_volume.proofs.FoundFile.{told_bytes}

-- a piece before the last is all that its unit holds
before_last : (kind : Kind) (image units : List ℕ) (last i : ℕ) → i + 1 < length units
    → get_or (pieces_of kind image units last) i [] ≡ body_of kind image (get_or units i 0)
before_last kind image [] last i before = absurd (omega arith)
before_last kind image (unit ∷ []) last i before = absurd (omega arith)
before_last kind image (unit ∷ next ∷ units) last zero before = refl
before_last kind image (unit ∷ next ∷ units) last (suc i) before = before_last kind image (next ∷ units) last i (omega arith)

-- the last piece is the front of what its unit holds
at_last : (kind : Kind) (image units : List ℕ) (last i : ℕ) → i < length units → length units ≤ i + 1
    → get_or (pieces_of kind image units last) i [] ≡ take last (body_of kind image (get_or units i 0))
at_last kind image [] last i inside end = absurd (omega arith)
at_last kind image (unit ∷ []) last zero inside end = refl
at_last kind image (unit ∷ []) last (suc i) inside end = absurd (omega arith)
at_last kind image (unit ∷ next ∷ units) last zero inside end = absurd (omega arith)
at_last kind image (unit ∷ next ∷ units) last (suc i) inside end = at_last kind image (next ∷ units) last i (omega arith) (omega arith)

-- a piece before the last, from the units as they were shown
pub piece_before : (kind : Kind) (image units shown body : List ℕ) (last i : ℕ) → shown ≡ units → body ≡ body_of kind image (slice_index shown i)
    → i + 1 < length shown → body ≡ get_or (pieces_of kind image units last) i []
piece_before kind image units shown body last i same is before =
    is ∙ ap (λ l. body_of kind image (slice_index l i)) same ∙ sym (before_last kind image units last i (subst (λ l. i + 1 < length l) same before))

-- the last piece
pub piece_at_end : (kind : Kind) (image units shown body : List ℕ) (last i : ℕ) → shown ≡ units → body ≡ body_of kind image (slice_index shown i)
    → i < length units → length shown ≤ i + 1 → take last body ≡ get_or (pieces_of kind image units last) i []
piece_at_end kind image units shown body last i same is inside end =
    ap (take last) (is ∙ ap (λ l. body_of kind image (slice_index l i)) same)
    ∙ sym (at_last kind image units last i inside (subst (λ l. length l ≤ i + 1) same end))

-- the pieces of a sound file of an image, joined, are its bytes
pub pieces_join : (kind : Kind) (image : List ℕ) (found : Found) (pieces : List (List ℕ)) → pieces ≡ pieces_of kind image found.units found.last_len
    → IsSoundFile found → IsFound kind image found → AreBytesOf kind image found.slot (concat pieces)
pieces_join kind image found pieces are sound described = subst (λ l. AreBytesOf kind image found.slot (concat l)) (sym are) (told_bytes kind image found described sound)

-- a file has as many pieces as units
pub pieces_count : (kind : Kind) (image units : List ℕ) (last : ℕ) → length (pieces_of kind image units last) ≡ length units
pieces_count kind image [] last = refl
pieces_count kind image (unit ∷ []) last = refl
pieces_count kind image (unit ∷ next ∷ units) last = ap suc (pieces_count kind image (next ∷ units) last)

-- the part of a unit of the disk lies in the image
unit_inside : (kind : Kind) (unit size : ℕ) → unit < unit_count_of kind → size ≡ size_of kind → place_of_body kind unit + room_of kind ≤ size
unit_inside Cpm8 unit size low whole = cpm_unit_inside unit size low whole
unit_inside _ unit size low whole = let inside = block_inside unit size low (omega arith) in omega arith

-- and so do the parts of a file
pub parts_inside : (kind : Kind) (units : List ℕ) (last size : ℕ) → All (λ unit. unit < unit_count_of kind) units → last ≤ room_of kind → size ≡ size_of kind
    → All (λ part. part.start + part.count ≤ size) (ranges_of kind units last)
parts_inside kind [] last size low fits whole = All-nil (λ part. part.start + part.count ≤ size)
parts_inside kind (unit ∷ []) last size low fits whole =
    let inside = unit_inside kind unit size (All-head (λ unit. unit < unit_count_of kind) unit [] low) whole in
    All-cons (λ part. part.start + part.count ≤ size) (range_of_unit kind unit last) [] (omega arith) (All-nil (λ part. part.start + part.count ≤ size))
parts_inside kind (unit ∷ next ∷ units) last size low fits whole =
    All-cons (λ part. part.start + part.count ≤ size) (range_of_unit kind unit (room_of kind)) (ranges_of kind (next ∷ units) last)
    (unit_inside kind unit size (All-head (λ unit. unit < unit_count_of kind) unit (next ∷ units) low) whole)
    (parts_inside kind (next ∷ units) last size (All-tail (λ unit. unit < unit_count_of kind) unit (next ∷ units) low) fits whole)
