-- Proofs: the laws of `Volume` on where files lie and how long they are, which its `impl`s cite.
use Rattle.std.proofs.Common.{◌≡◌, ◌∙◌, inl, inr, ◌+◌, ◌-◌, ◌*◌, ◌/◌, ◌%◌, ◌<◌, ◌≤◌, ℕ, List, [], ◌∷◌, ◌++◌, All, Some, ap, ap₂, sym, arith, drop, false, length, refl, slice_index, slice_range, subst, take, true}
use Rattle.std.specs.List.{concat}
use Rattle.std.proofs.lemmas.Bool.{cases_Bool, cases_eq}
use Rattle.std.proofs.lemmas.List.{length-drop, length-take, take_all}
use Rattle.std.proofs.lemmas.List.Elements.{All-from_get_or, All-nil}
use Rattle.rd_geometry.specs.Blocks.{CBM_BLOCKS, CBM_BLOCK_LENGTH, cbm_block}
use Rattle.rd_geometry.specs.Kinds.{IsCbm}
use Rattle.rd_geometry.specs.Places.{CPM_UNITS, CPM_UNIT_LENGTH, cpm_unit}
use Rattle.rd_geometry.specs.declared.kind.Kind.{Kind}
use Rattle.rd_geometry.specs.declared.kind.Kind.TheVariants.{Cpm8}
use Rattle.rd_cpm.specs.Contents.{IsRecord, bytes_of_sectors}
use Rattle.rd_cpm.specs.Entries.{pointer_of, entry_of_slot}
use Rattle.rd_cpm.specs.Faults.{IsSound}
use Rattle.rd_volume.specs.CbmFounds.{HasCbmContents, IsCbmFile, bytes_of_chain}
use Rattle.rd_volume.specs.CbmKinds.{cbm_body, not_cpm}
use Rattle.rd_volume.specs.CpmFounds.{IsCpmFile, last_sector_length}
use Rattle.rd_volume.specs.Founds.{Fits, HasNoContents, IsSoundFile}
use Rattle.rd_volume.specs.Volumes.{IsFound, body_of, contents_of, pieces_of}
use Rattle.rd_volume.specs.declared.found.Found.{Found}

-- a unit has at most the bytes of a whole one
unit_at_most : (image : List ℕ) (n : ℕ) → length (cpm_unit image n) ≤ CPM_UNIT_LENGTH
unit_at_most image n = simp (length-take, length-drop) (omega arith)

-- what is not above a number is at most that
not_above : (a b : ℕ) → (b < a → ⊥) → a ≤ b
not_above a b none = omega arith

-- the pieces of the sectors of a file, joined, are the bytes of the sectors
pub cpm_joined : (image sectors : List ℕ) (last : ℕ) → last ≡ last_sector_length sectors
    → concat (pieces_of Cpm8 image sectors last) ≡ bytes_of_sectors image sectors
cpm_joined image [] last is = refl
cpm_joined image (n ∷ []) last is =
    ap (λ bytes. bytes ++ []) (take_all last (cpm_unit image n) (let most : length (cpm_unit image n) ≤ CPM_UNIT_LENGTH = unit_at_most image n in omega arith))
cpm_joined image (n ∷ m ∷ sectors) last is =
    ap (λ bytes. cpm_unit image n ++ bytes) (cpm_joined image (m ∷ sectors) last is)

-- a sound file of a CP/M image is as long as its pieces are together
pub cpm_total : (image : List ℕ) (found : Found) → IsCpmFile image found → IsSoundFile found
    → found.size ≡ Some (length (contents_of Cpm8 image found))
cpm_total image found is sound =
    let described = is.sound (is.faults.sound.0 sound.sound) in
    described.size ∙ ap (λ bytes. Some (length bytes)) (sym (cpm_joined image found.units found.last_len described.last))

-- a unit of a sound file of a CP/M image is one of the disk
record_on_disk : (image : List ℕ) (k r u : ℕ) → IsSound (entry_of_slot image) k → IsRecord (entry_of_slot image) k r u → u < CPM_UNITS
record_on_disk image k r u sound is =
    let place : r % 128 / 8 < 16 = omega arith in
    let low : pointer_of (entry_of_slot image is.entry) (r % 128 / 8) ≤ 242 =
    not_above (pointer_of (entry_of_slot image is.entry) (r % 128 / 8)) 242
    (λ beyond. sound.not_off_disk (record { entry = is.entry; place = r % 128 / 8; of_file = is.of_file; in_entry = place; beyond = beyond })) in
    let sector : u ≡ 8 * pointer_of (entry_of_slot image is.entry) (r % 128 / 8) + r % 8 = is.sector in
    omega arith

-- the last sector of a file is no longer than a sector
pub last_at_most : (sectors : List ℕ) → last_sector_length sectors ≤ CPM_UNIT_LENGTH
last_at_most [] = omega arith
last_at_most (sector ∷ sectors) = omega arith

-- a file of a CP/M image lies in the image
pub cpm_fits : (image : List ℕ) (found : Found) → IsCpmFile image found → Fits Cpm8 found
cpm_fits image found is = elim (cases_eq found.faults 0) [
  | inl zero ↦
      let sound : IsSound (entry_of_slot image) found.slot = is.faults.sound.0 zero in
      let described = is.sound sound in
      record {
        units = All-from_get_or (λ unit. unit < CPM_UNITS) found.units 0
            (λ r inside. record_on_disk image found.slot r (slice_index found.units r) sound (described.units.each r inside));
        last = let last : found.last_len ≡ last_sector_length found.units = described.last in
            let most : last_sector_length found.units ≤ CPM_UNIT_LENGTH = last_at_most found.units in omega arith;
      }
  | inr some ↦
      let none = is.faulty (λ sound. some (is.faults.sound.1 sound)) in
      record {
        units = subst (All (λ unit. unit < CPM_UNITS)) (sym none.units) (All-nil (λ unit. unit < CPM_UNITS));
        last = let last : found.last_len ≡ 0 = none.last in omega arith;
      }
]

-- bytes 2 to 255 of a block are all that it holds of a file
block_body : (kind : Kind) → IsCbm kind → (image : List ℕ) (block : ℕ)
    → slice_range (cbm_block image block) 2 CBM_BLOCK_LENGTH ≡ body_of kind image block
block_body kind cbm image block =
    take_all 254 (drop 2 (cbm_block image block)) (simp (length-drop, length-take) (omega arith)) ∙ sym (cbm_body kind cbm image block)

-- bytes 2 up to the last used one of a last block are the front of what the block holds of a file
last_body : (kind : Kind) → IsCbm kind → (image : List ℕ) (block used last : ℕ) → last ≡ used - 1
    → slice_range (cbm_block image block) 2 (used + 1) ≡ take last (body_of kind image block)
last_body kind cbm image block used last is =
    let same : used + 1 - 2 ≡ last = omega arith in
    ap (λ n. take n (drop 2 (cbm_block image block))) same ∙ ap (take last) (sym (cbm_body kind cbm image block))

-- the pieces of a chain of blocks, joined, are the bytes of the chain
pub cbm_joined : (kind : Kind) → IsCbm kind → (image blocks : List ℕ) (used last : ℕ) → last ≡ used - 1
    → concat (pieces_of kind image blocks last) ≡ bytes_of_chain image blocks used
cbm_joined kind cbm image [] used last is = refl
cbm_joined kind cbm image (block ∷ []) used last is =
    ap (λ bytes. bytes ++ []) (sym (last_body kind cbm image block used last is))
cbm_joined kind cbm image (block ∷ next ∷ blocks) used last is =
    ap₂ (λ xs ys. xs ++ ys) (sym (block_body kind cbm image block)) (cbm_joined kind cbm image (next ∷ blocks) used last is)

-- a file without fault that is of the class that is served is sound
pub cbm_sound : (image blocks : List ℕ) (found : Found) → IsCbmFile image found blocks → IsSoundFile found → HasCbmContents image blocks found
cbm_sound image blocks found is sound =
    is.sound (record { served = is.class.0 sound.class; no_fault = is.faults.none.0 sound.sound })

-- a sound file of a 1541 image is as long as its pieces are together
pub cbm_total : (kind : Kind) → IsCbm kind → (image : List ℕ) (found : Found) → IsFound kind image found → IsSoundFile found
    → found.size ≡ Some (length (contents_of kind image found))
cbm_total Cpm8 cbm image found is sound = absurd (not_cpm cbm)
cbm_total kind cbm image found is sound =
    let described = cbm_sound image is.blocks found is.holds sound in
    described.size ∙ ap (λ bytes. Some (length bytes)) (sym (cbm_joined kind cbm image found.units described.used found.last_len described.last))

-- a file without contents lies in each image
no_contents_fit : (kind : Kind) → IsCbm kind → (found : Found) → HasNoContents found → Fits kind found
no_contents_fit Cpm8 cbm found none = absurd (not_cpm cbm)
no_contents_fit _ cbm found none = record {
  units = subst (All (λ unit. unit < CBM_BLOCKS)) (sym none.units) (All-nil (λ unit. unit < CBM_BLOCKS));
  last = let last : found.last_len ≡ 0 = none.last in omega arith;
}

-- a file whose contents are those that its image gives lies in the image
contents_fit : (kind : Kind) → IsCbm kind → (image blocks : List ℕ) (found : Found) → HasCbmContents image blocks found → Fits kind found
contents_fit Cpm8 cbm image blocks found described = absurd (not_cpm cbm)
contents_fit _ cbm image blocks found described = record {
  units = described.on_disk;
  last = let byte : described.used < 256 = described.byte in let last : found.last_len ≡ described.used - 1 = described.last in omega arith;
}

-- a file of a 1541 image lies in the image
pub cbm_fits : (kind : Kind) → IsCbm kind → (image : List ℕ) (found : Found) → IsFound kind image found → Fits kind found
cbm_fits Cpm8 cbm image found is = absurd (not_cpm cbm)
cbm_fits kind cbm image found is = elim (cases_Bool found.served_class) [
  | inl served ↦ elim (cases_eq found.faults 0) [
    | inl zero ↦ contents_fit kind cbm image is.blocks found (cbm_sound image is.blocks found is.holds (record { class = served; sound = zero }))
    | inr some ↦ no_contents_fit kind cbm found (is.holds.faulty (λ sound. some (is.holds.faults.none.1 sound.no_fault)))
  ]
  | inr other ↦ no_contents_fit kind cbm found
      (is.holds.faulty (λ sound. let served : found.served_class ≡ true = is.holds.class.1 sound.served in let wrong : true ≡ false = sym served ∙ other in cc))
]
