-- Proofs: the pieces of a file are the bytes of ranges of its image, and they are the same in two images where
-- the bytes of these ranges are.
use Rattle.std.proofs.Common.{◌≡◌, ◌∙◌, ◌+◌, ◌-◌, ◌<◌, ◌≤◌, ℕ, suc, List, [], ◌∷◌, Contains, ap, ap₂, arith, drop, length, map, refl, slice_index, sym, take}
use Rattle.std.specs.List.{concat}
use Rattle.std.proofs.lemmas.List.{drop-drop, drop-take, length-append}
use Rattle.rd_geometry.specs.Blocks.{place_of_block}
use Rattle.rd_geometry.specs.declared.kind.Kind.{Kind}
use Rattle.rd_geometry.specs.declared.kind.Kind.TheVariants.{Cpm8}
use Rattle.rd_volume.specs.Kinds.{room_of}
use Rattle.rd_volume.specs.Parts.{ByteRange, bytes_of_range, range_of_unit, ranges_of, place_of_body}
use Rattle.rd_volume.specs.Ranges.{front_of_range, same_front, same_length, same_range}
use Rattle.rd_volume.specs.Volumes.{body_of, pieces_of}

-- what a unit holds of a file is a range of the image
whole_of_unit : (kind : Kind) (image : List ℕ) (unit : ℕ) → body_of kind image unit ≡ bytes_of_range image (range_of_unit kind unit (room_of kind))
whole_of_unit Cpm8 image unit = refl
whole_of_unit _ image unit =
    let start : ℕ = place_of_block unit in
    let rest : List ℕ = drop (start + 2) image in
    ap (λ n. drop 2 (take n (drop start image))) (let count : start + 256 - start ≡ 2 + 254 = omega arith in count)
    ∙ drop-take 2 254 (drop start image) ∙ ap (take 254) (drop-drop 2 start image)
    ∙ ap (λ n. take n rest) (let count : 254 ≡ start + 2 + 254 - (start + 2) = omega arith in count)

-- a front of what a unit holds of a file is a range of the image
front_of_unit : (kind : Kind) (image : List ℕ) (unit count : ℕ) → count ≤ room_of kind
    → take count (body_of kind image unit) ≡ bytes_of_range image (range_of_unit kind unit count)
front_of_unit kind image unit count fits =
    ap (take count) (whole_of_unit kind image unit) ∙ front_of_range image (place_of_body kind unit) (room_of kind) count fits

-- the pieces of a file are the bytes of its ranges
pub pieces_are_ranges : (kind : Kind) (image units : List ℕ) (last : ℕ) → last ≤ room_of kind
    → pieces_of kind image units last ≡ map (bytes_of_range image) (ranges_of kind units last)
pieces_are_ranges kind image [] last fits = refl
pieces_are_ranges kind image (unit ∷ []) last fits = ap (λ piece. piece ∷ []) (front_of_unit kind image unit last fits)
pieces_are_ranges kind image (unit ∷ next ∷ units) last fits =
    ap₂ (λ piece pieces. piece ∷ pieces) (whole_of_unit kind image unit) (pieces_are_ranges kind image (next ∷ units) last fits)

-- the pieces of a file are the same in two images of one length where the bytes of its ranges are
pub pieces_alike : (kind : Kind) (image other units : List ℕ) (last : ℕ) → length image ≡ length other
    → ((range : ByteRange) (byte : ℕ) → Contains (ranges_of kind units last) range → byte < range.count → byte < room_of kind
    → slice_index image (range.start + byte) ≡ slice_index other (range.start + byte))
    → pieces_of kind image units last ≡ pieces_of kind other units last
pieces_alike kind image other [] last size same = refl
pieces_alike kind image other (unit ∷ []) last size same =
    let start : ℕ = place_of_body kind unit in
    ap (λ piece. piece ∷ []) (
    ap (take last) (whole_of_unit kind image unit)
    ∙ same_front image other start (start + room_of kind) last size
    (λ byte inside low. same (range_of_unit kind unit last) byte (0, omega arith, refl) low (omega arith))
    ∙ sym (ap (take last) (whole_of_unit kind other unit)))
pieces_alike kind image other (unit ∷ next ∷ units) last size same =
    let start : ℕ = place_of_body kind unit in
    ap₂ (λ piece pieces. piece ∷ pieces) (
    whole_of_unit kind image unit
    ∙ same_range image other start (start + room_of kind) size
    (λ byte inside. same (range_of_unit kind unit (room_of kind)) byte (0, omega arith, refl) (omega arith) (omega arith))
    ∙ sym (whole_of_unit kind other unit))
    (pieces_alike kind image other (next ∷ units) last size (λ range byte among few low.
    same range byte (suc among.0, (let inside : among.0 < length (ranges_of kind (next ∷ units) last) = among.1 in omega arith), among.2) few low))

-- ranges have as many bytes together in two images of one length
ranges_length : (image other : List ℕ) (ranges : List ByteRange) → length image ≡ length other
    → length (concat (map (bytes_of_range image) ranges)) ≡ length (concat (map (bytes_of_range other) ranges))
ranges_length image other [] size = refl
ranges_length image other (range ∷ ranges) size =
    length-append (bytes_of_range image range) (concat (map (bytes_of_range image) ranges))
    ∙ ap₂ (λ m n. m + n) (same_length image other range.start (range.start + range.count) size) (ranges_length image other ranges size)
    ∙ sym (length-append (bytes_of_range other range) (concat (map (bytes_of_range other) ranges)))

-- joined they are as long in two images of one length, whatever the bytes are
pub pieces_length : (kind : Kind) (image other units : List ℕ) (last : ℕ) → last ≤ room_of kind → length image ≡ length other
    → length (concat (pieces_of kind image units last)) ≡ length (concat (pieces_of kind other units last))
pieces_length kind image other units last fits size =
    ap (λ pieces. length (concat pieces)) (pieces_are_ranges kind image units last fits)
    ∙ ranges_length image other (ranges_of kind units last) size
    ∙ sym (ap (λ pieces. length (concat pieces)) (pieces_are_ranges kind other units last fits))
