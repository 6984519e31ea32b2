-- The words of faults, by the bits of a number.
use Rattle.std.specs.Prelude.{ℕ, ◌/◌, ◌%◌, ◌^◌, ◌==◌, List, [], ◌∷◌, codes, filter, length, map}
use Rattle.std.specs.List.{range_with_len, slice_index_or}
use Rattle.rd_geometry.specs.declared.kind.Kind.{Kind}
use Rattle.rd_geometry.specs.declared.kind.Kind.TheVariants.{Cpm8, D64, D64e}
use Rattle.rd_volume.specs.declared.words.FaultWords.{FaultWords}

-- the words of a 1541 file's faults, from bit 0 on
abbrev pub cbm_fault_names : List (List ℕ)
cbm_fault_names = codes "not-closed" ∷ codes "off-disk" ∷ codes "loop" ∷ codes "crossed" ∷ codes "read-error" ∷ []

-- the words of a kind's faults, from bit 0 on
abbrev pub fault_names : Kind → List (List ℕ)
fault_names Cpm8 = codes "bad-count" ∷ codes "duplicate" ∷ codes "gap" ∷ codes "short" ∷ codes "hole" ∷ codes "off-disk" ∷ codes "crossed" ∷ []
fault_names D64 = cbm_fault_names
fault_names D64e = cbm_fault_names

-- the bits below `count` that are set in a number, ascending
abbrev pub set_bits : ℕ → ℕ → List ℕ
set_bits count n = filter (λ bit. n / 2 ^ bit % 2 == 1) (range_with_len 0 count)

-- the words of the faults whose bits are set, ascending; a bit for which the kind has no word is left out
abbrev pub words_of : Kind → ℕ → List (List ℕ)
words_of kind faults = map (λ bit. slice_index_or (fault_names kind) bit []) (set_bits (length (fault_names kind)) faults)

-- the words that an iterator still has to give
abbrev pub words_left : FaultWords → List (List ℕ)
words_left words = words_of words.kind words.faults
