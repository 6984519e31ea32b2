-- A rehearsal shows every difference in effect, and no other.
use Rattle.std.specs.Prelude.{◌≡◌, ◌≢◌, ◌↔◌, ℤ, List, Contains, Some}
use Rattle.std.specs.FinMap.{get}
use Rattle.rd_policy.specs.Verdicts.{IsVerdict}
use Rattle.rd_volume.specs.Volumes.{IsFound}
use Rattle.rd_volume.specs.declared.found.Found.{Found}
use Rattle.rd_holdings.specs.State.{Desk, rules_for}
use Rattle.rd_protocol.specs.Rehearsals.{IsRehearsal}
use Rattle.rd_protocol.specs.declared.response.Difference.{Difference}
use Rattle.rd_holdings.specs.declared.rows.ImageRow.{ImageRow}

-- A file of an accession that stands, and an audience: the verdicts of the rules before and after, whose effects differ.
pub record IsDifference (desk after : Desk) (day : ℤ) (difference : Difference) : Type 0 where
  pub image : ImageRow
  pub file : Found
  pub standing : get desk.images difference.accession ≡ Some image
  pub found : IsFound image.kind image.bytes file
  pub slot : difference.slot ≡ file.slot
  pub name : difference.name ≡ file.name
  pub here : IsVerdict (Contains (rules_for desk difference.accession)) difference.audience day file difference.before
  pub there : IsVerdict (Contains (rules_for after difference.accession)) difference.audience day file difference.after
  pub other : difference.before.effect ≢ difference.after.effect

-- the lines of a rehearsal are all differences in effect, and nothing else
abbrev pub RehearsalsAreExact : Type 0
RehearsalsAreExact = (desk after : Desk) (day : ℤ) (differences : List Difference) → after.images ≡ desk.images → IsRehearsal desk after day differences
    → (difference : Difference) → Contains differences difference ↔ IsDifference desk after day difference
