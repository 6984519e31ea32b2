-- Entries of the directory of a 1541 disk, as builders write them.
use Rattle.std.specs.Prelude.{ℕ, List, [], ◌∷◌, ◌++◌, ◌+◌, ◌*◌, ◌/◌, ◌%◌}
use Rattle.rd_geometry.specs.Blocks.{place_of_block}
use Rattle.rd_samples.specs.Written.{padded, written}
use Rattle.rd_samples.specs.declared.cbm.NewCbmEntry.{NewCbmEntry}

-- the byte at which an entry begins: a block of the directory has eight
abbrev pub place_of_entry : ℕ → ℕ → ℕ
place_of_entry block slot = place_of_block block + 32 * slot

-- the bytes of an entry from its byte 2 on: type, first track and sector, name with A0 hex (160), side
-- track and sector, record length
abbrev pub first_bytes : NewCbmEntry → List ℕ
first_bytes entry = (entry.type_byte ∷ entry.first.0 ∷ entry.first.1 ∷ []) ++ (padded 16 160 entry.name.now
    ++ (entry.side.0 ∷ entry.side.1 ∷ entry.record_length ∷ []))

-- an image with an entry, its size in blocks at the entry's bytes 30 and 31, low byte first
abbrev pub with_entry : List ℕ → ℕ → NewCbmEntry → List ℕ
with_entry image place entry =
    written (written image (place + 2) (first_bytes entry)) (place + 30) (entry.size % 256 ∷ entry.size / 256 ∷ [])
