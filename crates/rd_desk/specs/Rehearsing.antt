-- A rehearsal, accession by accession: the rules as a command would leave them, and the differences in effect.
use Rattle.std.specs.Prelude.{◌≡◌, ℕ, ℤ, All, Bool, List, map, [], ◌∷◌, ◌++◌, Option, Some, None, ◌==◌, ◌&&◌}
use Rattle.std.specs.FinMap.{FinMap, get, insert, remove}
use Rattle.rd_policy.specs.declared.rule.Band.{Band}
use Rattle.rd_policy.specs.declared.rule.Rule.{Rule}
use Rattle.rd_volume.specs.declared.found.Found.{Found}
use Rattle.rd_protocol.specs.Rehearsals.{IsRehearsal, differences_at}
use Rattle.rd_holdings.specs.State.{Desk, Place, Stands, Terms, band_code, place_cmp, rules_for, terms_of}
use Rattle.rd_protocol.specs.Verdicts.{AreFileVerdicts, IsDecided}
use Rattle.rd_protocol.specs.declared.response.Difference.{Difference}
use Rattle.rd_protocol.specs.declared.response.FileVerdicts.{FileVerdicts}
use Rattle.rd_holdings.specs.declared.rows.ImageRow.{ImageRow}
use Rattle.rd_desk.specs.declared.verdicts.AudienceVerdicts.{AudienceVerdicts}

-- a file, with the verdicts on it
abbrev pub with_verdicts_on : Found → AudienceVerdicts → FileVerdicts
with_verdicts_on file verdicts = record { file = file; public = verdicts.public; room = verdicts.room; staff = verdicts.staff }

-- ---- the rules as a command would leave them

-- the place of a band, a number and a rank
abbrev pub place_at : Band → ℕ → ℕ → Place
place_at band scope rank = record { band = band; scope = scope; rank = rank }

-- the rules with this one at a place, or with none there
abbrev pub rules_changed : Place → Option Rule → FinMap place_cmp Terms → FinMap place_cmp Terms
rules_changed place None rules = remove rules place
rules_changed place (Some rule) rules = insert rules place (terms_of rule)

-- the desk with this rule at a place, or with none there
abbrev pub desk_changed : Place → Option Rule → Desk → Desk
desk_changed place rule desk = record desk { rules = rules_changed place rule desk.rules }

-- the rule stands at the place
abbrev pub is_there : Place → Rule → Bool
is_there place rule = (band_code rule.band == band_code place.band) && ((rule.scope == place.scope) && (rule.rank == place.rank))

-- ---- the differences

-- The files, each with verdicts of these rules and of those on it, and the differences in effect between the two.
pub record AreFileDifferences (rules others : List Rule) (day : ℤ) (acc : ℕ) (found : List Found) (differences : List Difference) : Type 0 where
  pub files : List FileVerdicts
  pub laters : List FileVerdicts
  pub same : map (λ file. file.file) files ≡ found
  pub also : map (λ file. file.file) laters ≡ found
  pub here : All (IsDecided rules day) files
  pub there : All (IsDecided others day) laters
  pub are : differences ≡ differences_at acc files laters

-- The differences in effect for the files of an accession, between two desks that have its image.
pub record AreDifferencesAt (desk after : Desk) (day : ℤ) (acc : ℕ) (differences : List Difference) : Type 0 where
  pub image : ImageRow
  pub standing : get desk.images acc ≡ Some image
  pub files : List FileVerdicts
  pub laters : List FileVerdicts
  pub here : AreFileVerdicts image (rules_for desk acc) day files
  pub there : AreFileVerdicts image (rules_for after acc) day laters
  pub are : differences ≡ differences_at acc files laters

-- the differences for some accessions, one accession after the other
abbrev pub AreDifferencesOf : Desk → Desk → ℤ → List ℕ → List Difference → Type 0
AreDifferencesOf desk after day [] differences = differences ≡ []
AreDifferencesOf desk after day (acc ∷ accs) differences =
    (first : List Difference) × (rest : List Difference) × AreDifferencesAt desk after day acc first
    × AreDifferencesOf desk after day accs rest × (differences ≡ first ++ rest)

-- these differences, and then those for an accession
abbrev pub AddsDifferencesAt : Desk → Desk → ℤ → ℕ → List Difference → List Difference → Type 0
AddsDifferencesAt desk after day acc old new = (more : List Difference) × AreDifferencesAt desk after day acc more × (new ≡ old ++ more)

-- what the place belongs to stands, and these are the differences in effect that the change makes
abbrev pub IsRehearsed : Desk → Place → Option Rule → ℤ → List Difference → Type 0
IsRehearsed desk place rule day differences = Stands desk place.band place.scope × IsRehearsal desk (desk_changed place rule desk) day differences
