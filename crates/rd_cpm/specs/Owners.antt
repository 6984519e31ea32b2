-- The file of each slot, as the walk over the directory records it.
use Rattle.std.specs.Prelude.{ℕ, ◌<◌, ◌≤◌, List, slice_index}
use Rattle.rd_cpm.specs.Entries.{IsOfFile}
use Rattle.rd_cpm.specs.Files.{Directory, IsEntryOf, IsFileSlot}

-- The owner of slot j is the slot of its file, or 64 or more if its entry belongs to no file.
pub record IsOwner (d : Directory) (j owner : ℕ) : Type 0 where
  pub file_slot : owner < 64 → IsFileSlot d owner
  pub of_file : owner < 64 → IsEntryOf d owner j
  pub free : 64 ≤ owner → ¬ IsOfFile (d j)

-- The list has the owner of each slot below n.
abbrev pub AreOwners : Directory → ℕ → List ℕ → Type 0
AreOwners d n owners = (j : ℕ) → j < n → IsOwner d j (slice_index owners j)
