-- Names and types of files, as this project prints them.
use Rattle.std.specs.Prelude.{ℕ, ◌+◌, ◌-◌, ◌/◌, ◌%◌, List, [], ◌∷◌, ◌++◌, Bool, ◌&&◌, ◌==◌, codes, not, nat_lt, length, take, drop, flat_map, if◌then◌else◌}
use Rattle.std.specs.Int.{is_in_range}
use Rattle.std.specs.List.{suffix_len}
use Rattle.rd_cbm.specs.declared.class.Class.{Class}
use Rattle.rd_cbm.specs.declared.class.Class.TheVariants.{Del, Seq, Prg, Usr, Rel, Other}
use Rattle.rd_geometry.specs.declared.kind.Kind.{Kind}
use Rattle.rd_geometry.specs.declared.kind.Kind.TheVariants.{Cpm8, D64, D64e}

-- the byte that fills up a name: a blank on a CP/M disk, A0 hex on a 1541 disk
abbrev pub pad_of : Kind → ℕ
pad_of Cpm8 = 0x20
pad_of D64 = 0xA0
pad_of D64e = 0xA0

-- the bytes of a name or a type without the padding at their end
abbrev pub without_pad : ℕ → List ℕ → List ℕ
without_pad pad bytes = take (length bytes - suffix_len (λ byte. byte == pad) bytes) bytes

-- a byte is ASCII from blank to `~`, and not `%` (37)
abbrev pub is_readable : ℕ → Bool
is_readable byte = is_in_range 0x20 0x7E byte && not (byte == 37)

-- a byte prints as itself: it is readable; on a CP/M disk, whose names have a dot before their type, it is
-- not `.` (46) either
abbrev pub is_plain : Kind → ℕ → Bool
is_plain Cpm8 byte = is_readable byte && not (byte == 46)
is_plain D64 byte = is_readable byte
is_plain D64e byte = is_readable byte

-- the hexadecimal digit of a number below 16, in upper case: 48 is `0`, 65 is `A`
abbrev pub hex_digit : ℕ → ℕ
hex_digit n = if nat_lt n 10 then 48 + n else 65 + (n - 10)

-- a byte of a name as it is printed: as itself, or as `%` and two hexadecimal digits
abbrev pub printed_byte : Kind → ℕ → List ℕ
printed_byte kind byte =
    if is_plain kind byte then byte ∷ [] else 37 ∷ hex_digit (byte / 16) ∷ hex_digit (byte % 16) ∷ []

-- a name or a type as it is printed
abbrev pub printed : Kind → List ℕ → List ℕ
printed kind bytes = flat_map (printed_byte kind) (without_pad (pad_of kind) bytes)

-- a printed type with a dot before it, where it is not empty
abbrev pub dotted : List ℕ → List ℕ
dotted [] = []
dotted (c ∷ cs) = 46 ∷ c ∷ cs

-- the printed type of a CP/M file, from the eight bytes of its name and the three of its type
abbrev pub cpm_type_of : List ℕ → List ℕ
cpm_type_of name = printed Cpm8 (drop 8 name)

-- the printed name of a CP/M file, from the same bytes: both parts, with a dot between them if the type is not empty
abbrev pub cpm_name_of : List ℕ → List ℕ
cpm_name_of name = printed Cpm8 (take 8 name) ++ dotted (cpm_type_of name)

-- the type of a 1541 file in words, by its class
abbrev pub cbm_type_of : Class → List ℕ
cbm_type_of Del = codes "DEL"
cbm_type_of Seq = codes "SEQ"
cbm_type_of Prg = codes "PRG"
cbm_type_of Usr = codes "USR"
cbm_type_of Rel = codes "REL"
cbm_type_of Other = codes "OTHER"
