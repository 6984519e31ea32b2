-- Entries of a CP/M directory, as builders write them.
use Rattle.std.specs.Prelude.{ℕ, List, [], ◌∷◌, ◌++◌, ◌+◌, ◌*◌, ◌/◌, ◌%◌}
use Rattle.rd_geometry.specs.Places.{place_of_cpm_unit}
use Rattle.rd_samples.specs.Written.{padded}
use Rattle.rd_samples.specs.declared.cpm.NewEntry.{NewEntry}

-- the byte at which the entry of a slot begins: the directory has four entries a sector
abbrev pub place_of_slot : ℕ → ℕ
place_of_slot slot = place_of_cpm_unit (slot / 4) + 32 * (slot % 4)

-- the 32 bytes of an entry: user, name and type with blanks (32), EX, S1, S2, RC, block numbers
abbrev pub entry_bytes : NewEntry → List ℕ
entry_bytes entry = (entry.user ∷ []) ++ (padded 8 32 entry.name.now ++ (padded 3 32 entry.extension.now
    ++ ((entry.ex ∷ 0 ∷ entry.s2 ∷ entry.rc ∷ []) ++ padded 16 0 entry.pointers.now)))
