use Rattle.std.proofs.Common.{◌≡◌, ◌<◌, ℕ, slice_index}
use Rattle.rd_geometry.specs.CpmDisks.{cpm_bytes}
use Rattle.rd_cpm.specs.Entries.{entry_of_slot}
use Rattle.rd_cpm.specs.Files.{IsEntryOf}
use Rattle.rd_cpm.proofs.owners.owner_of.Given as goal

-- no file slot passed has the file
abbrev pub invariant-loop-earlier : goal.invariant-loop-earlier
invariant-loop-earlier l = (e : ℕ) → e < l.earlier → slice_index l.owners e ≡ e → IsEntryOf (entry_of_slot (cpm_bytes l.disk)) e l.slot → ⊥
