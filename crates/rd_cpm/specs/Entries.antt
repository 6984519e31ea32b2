-- The entries of a CP/M 2.2 directory and their fields (CP/M 2.2 Interface Guide). An entry is the
-- list of its 32 bytes.
use Rattle.std.specs.Prelude.{ℕ, ◌+◌, ◌*◌, ◌/◌, ◌%◌, ◌<◌, List, slice_index, slice_range, map}
use Rattle.rd_geometry.specs.Places.{cpm_unit}

-- the 32 bytes of slot k, 0 to 63, of the directory of an image: four to a logical sector, so that slot k is number
-- `k mod 4` of sector `k div 4`
unfoldable pub entry_of_slot : List ℕ → ℕ → List ℕ
entry_of_slot image k = slice_range (cpm_unit image (k / 4)) (32 * (k % 4)) (32 * (k % 4) + 32)

-- byte 0: the user number, 0 to 15, or E5 hex where the slot is free; any other value: no file
abbrev pub user_byte_of : List ℕ → ℕ
user_byte_of entry = slice_index entry 0

-- bytes 1 to 11: eight of the name, three of the type
abbrev pub name_of : List ℕ → List ℕ
name_of entry = slice_range entry 1 12

-- byte 12, EX: the low part of the extent number
abbrev pub ex_of : List ℕ → ℕ
ex_of entry = slice_index entry 12

-- byte 13, S1: not used
abbrev pub s1_of : List ℕ → ℕ
s1_of entry = slice_index entry 13

-- byte 14, S2: the high part of the extent number
abbrev pub s2_of : List ℕ → ℕ
s2_of entry = slice_index entry 14

-- byte 15, RC: how many records the extent has
abbrev pub rc_of : List ℕ → ℕ
rc_of entry = slice_index entry 15

-- bytes 16 to 31: sixteen block numbers, 0 meaning none
abbrev pub pointers_of : List ℕ → List ℕ
pointers_of entry = slice_range entry 16 32

-- block number i of an entry
abbrev pub pointer_of : List ℕ → ℕ → ℕ
pointer_of entry i = slice_index (pointers_of entry) i

-- the number of the extent that an entry holds, 32 · (S2 mod 64) + (EX mod 32); the two masks are this
-- project's profile
abbrev pub extent_number_of : List ℕ → ℕ
extent_number_of entry = 32 * (s2_of entry % 64) + ex_of entry % 32

-- the entry belongs to a file: byte 0 is a user, 0 to 15 (with any other value it belongs to none:
-- this project's profile)
abbrev pub IsOfFile : List ℕ → Type 0
IsOfFile entry = user_byte_of entry < 16

-- a name without its high bits
abbrev pub without_high_bits : List ℕ → List ℕ
without_high_bits name = map (λ byte. byte % 128) name
