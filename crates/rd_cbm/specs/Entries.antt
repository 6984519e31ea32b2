-- The entries of a 1541 directory and their fields (1541 User's Guide, public D64 documentation).
-- An entry is the list of its 32 bytes.
use Rattle.std.specs.Prelude.{◌≡◌, ℕ, ◌+◌, ◌*◌, ◌/◌, ◌%◌, ◌≤◌, List, Option, IsBitSet, nat_eq, slice_index, slice_range, if◌then◌else◌}
use Rattle.rd_geometry.specs.Blocks.{cbm_block, index_of}
use Rattle.rd_cbm.specs.declared.class.Class.{Class}
use Rattle.rd_cbm.specs.declared.class.Class.TheVariants.{Del, Seq, Prg, Usr, Rel, Other}

-- the entry at a slot, by the blocks of the directory: eight entries to a block, in order: that at slot k is the 32
-- bytes at `32 * (k mod 8)` of the block at place `k div 8` of that list
unfoldable pub entry_at : List ℕ → List ℕ → ℕ → List ℕ
entry_at image blocks slot =
    slice_range (cbm_block image (slice_index blocks (slot / 8))) (32 * (slot % 8)) (32 * (slot % 8) + 32)

-- byte 2: the type byte, 0 where the entry is unused
abbrev pub type_of : List ℕ → ℕ
type_of entry = slice_index entry 2

-- bytes 5 to 20: the name
abbrev pub name_of : List ℕ → List ℕ
name_of entry = slice_range entry 5 21

-- byte 23: the record length, of a REL file
abbrev pub record_length_of : List ℕ → ℕ
record_length_of entry = slice_index entry 23

-- bytes 30 and 31: the size in blocks, low byte first
abbrev pub size_field_of : List ℕ → ℕ
size_field_of entry = slice_index entry 30 + 256 * slice_index entry 31

-- the two chains that an entry can name: that of its data, and that of its side sectors
pub data ChainRole : Type 0 where
  Data : ChainRole
  Side : ChainRole

-- where a chain of an entry starts: bytes 3 and 4, track and sector of the first data block, and
-- bytes 21 and 22, those of the first side sector
abbrev pub start_of : List ℕ → ChainRole → Option ℕ
start_of entry Data = index_of (slice_index entry 3) (slice_index entry 4)
start_of entry Side = index_of (slice_index entry 21) (slice_index entry 22)

-- the low four bits of a type byte: 0 DEL, 1 SEQ, 2 PRG, 3 USR, 4 REL
abbrev pub kind_of : ℕ → ℕ
kind_of type = type % 16

-- the class of a file by its type byte; that 5 to 15 are one class is this project's profile
abbrev pub class_of : ℕ → Class
class_of type =
    if nat_eq (kind_of type) 0 then Del
    else if nat_eq (kind_of type) 1 then Seq
    else if nat_eq (kind_of type) 2 then Prg
    else if nat_eq (kind_of type) 3 then Usr
    else if nat_eq (kind_of type) 4 then Rel
    else Other

-- the file is locked: bit 6
abbrev pub IsLocked : ℕ → Type 0
IsLocked type = IsBitSet type 6

-- the file is closed: bit 7
abbrev pub IsClosed : ℕ → Type 0
IsClosed type = IsBitSet type 7

-- desk serves files of this class: SEQ, PRG or USR
abbrev pub IsServed : ℕ → Type 0
IsServed type = (1 ≤ kind_of type) × (kind_of type ≤ 3)

-- an entry with this type byte claims the blocks of this chain: of its data where it is closed and
-- SEQ, PRG, USR or REL, and of its side sectors where it is closed and REL
abbrev pub ClaimsBy : ℕ → ChainRole → Type 0
ClaimsBy type Data = IsClosed type × (1 ≤ kind_of type) × (kind_of type ≤ 4)
ClaimsBy type Side = IsClosed type × (kind_of type ≡ 4)
