-- The files and the claims of a CP/M 2.2 directory (CP/M 2.2 Interface Guide).
use Rattle.std.specs.Prelude.{◌≡◌, ℕ, ◌<◌, ◌≤◌, List}
use Rattle.rd_cpm.specs.Entries.{user_byte_of, name_of, pointer_of, IsOfFile, without_high_bits}

-- A directory gives the entry at each slot, 0 to 63. What it gives beyond slot 63 does not count.
abbrev pub Directory : Type 0
Directory = ℕ → List ℕ

-- Slot j has an entry of the file of slot k: both are entries of a file, with the same user and
-- the same name except for the high bits.
pub record IsEntryOf (d : Directory) (k j : ℕ) : Type 0 where
  pub slot : j < 64
  pub file : IsOfFile (d k)
  pub user : user_byte_of (d j) ≡ user_byte_of (d k)
  pub name : without_high_bits (name_of (d j)) ≡ without_high_bits (name_of (d k))

-- Slot k is the slot of a file: it has an entry of a file, and no slot before it has one of that file.
pub record IsFileSlot (d : Directory) (k : ℕ) : Type 0 where
  pub slot : k < 64
  pub file : IsOfFile (d k)
  pub least : (j : ℕ) → IsEntryOf d k j → k ≤ j

-- Pointer i of the entry at slot j claims block b. A claim counts whether or not the entry's record
-- count reaches it.
pub record Claims (d : Directory) (j i b : ℕ) : Type 0 where
  pub slot : j < 64
  pub place : i < 16
  pub file : IsOfFile (d j)
  pub value : pointer_of (d j) i ≡ b
  pub block : 0 < b
