-- What is copied of a file, unit after unit, is what its first pieces have.
use Rattle.std.proofs.Common.{◌≡◌, ◌∙◌, ◌+◌, ◌-◌, ◌<◌, ◌≤◌, ℕ, zero, suc, List, [], ◌∷◌, ◌++◌, ap, arith, drop, length, map, refl, slice_index, sym, take}
use Rattle.std.proofs.lemmas.List.{flat_map_more, take-take, take_more}
use Rattle.std.proofs.lemmas.List.Concat.{concat_is}
use Rattle.std.proofs.lemmas.List.Folds.{flat_map-map}
use Rattle.std.proofs.lemmas.Slice.{take-put_mid}
use Rattle.std.specs.List.{flat_map}
use borrow.Rule.Slice.PartMut.{put_mid}
use Rattle.rd_geometry.specs.declared.kind.Kind.{Kind}
use Rattle.rd_volume.specs.Fronts.{AreOfFront}
use Rattle.rd_volume.specs.Volumes.{body_of, pieces_of}

-- one more unit is copied behind those before it
pub body_more : (f : ℕ → List ℕ) (at start end count : ℕ) (into units body : List ℕ) → at < length units → end ≡ start + length body → start ≤ length into
    → body ≡ f (slice_index units at) → take start into ≡ flat_map f (take at units)
    → take end (put_mid start count into body) ≡ flat_map f (take (at + 1) units)
body_more f at start end count into units body inside stop within is before =
    take-put_mid start count into body end stop within
    ∙ ap (λ front. front ++ body) before ∙ ap (λ bytes. flat_map f (take at units) ++ bytes) is
    ∙ flat_map_more f [] (take at units) (slice_index units at) ∙ sym (ap (flat_map f) (take_more units at 0 inside))

-- the pieces of the first units, which are not the last, and those of the others
pieces_split : (kind : Kind) (image units : List ℕ) (last n : ℕ) → n ≤ length units - 1
    → pieces_of kind image units last ≡ map (body_of kind image) (take n units) ++ pieces_of kind image (drop n units) last
pieces_split kind image [] last zero low = refl
pieces_split kind image [] last (suc n) low = absurd (omega arith)
pieces_split kind image (unit ∷ []) last zero low = refl
pieces_split kind image (unit ∷ []) last (suc n) low = absurd (omega arith)
pieces_split kind image (unit ∷ next ∷ units) last zero low = refl
pieces_split kind image (unit ∷ next ∷ units) last (suc n) low =
    ap (λ pieces. body_of kind image unit ∷ pieces) (pieces_split kind image (next ∷ units) last n (omega arith))

-- what the first units hold, of those before the last, is what the first pieces have, and the others are left
pub bodies_are_front : (kind : Kind) (image units rest bytes : List ℕ) (last n most : ℕ) → n ≤ most → most ≤ length units - 1 → rest ≡ drop n units
    → bytes ≡ flat_map (body_of kind image) (take n (take most units))
    → AreOfFront (pieces_of kind image units last) (pieces_of kind image rest last) bytes
bodies_are_front kind image units rest bytes last n most low few others are =
    let f : ℕ → List ℕ = body_of kind image in
    let first : List ℕ = take n units in
    record {
      front = map f first;
      left = pieces_split kind image units last n (omega arith) ∙ ap (λ l. map f first ++ pieces_of kind image l last) (sym others);
      joined = are ∙ ap (flat_map f) (take-take n most units low) ∙ sym (concat_is (map f first) ∙ flat_map-map (λ bytes. bytes) f first);
    }
