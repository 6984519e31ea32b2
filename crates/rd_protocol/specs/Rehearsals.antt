-- Rehearsals: what a command would change in the effects of a day.
use Rattle.std.specs.Prelude.{◌≡◌, ℕ, ℤ, Bool, true, false, List, [], ◌∷◌, ◌++◌, cond}
use Rattle.rd_policy.specs.declared.audience.Audience.{Audience}
use Rattle.rd_policy.specs.declared.audience.Audience.TheVariants.{Public, Room, Staff}
use Rattle.rd_policy.specs.declared.rule.Effect.{Effect}
use Rattle.rd_policy.specs.declared.rule.Effect.TheVariants.{Deny, List as Listed, Read}
use Rattle.rd_holdings.specs.State.{Desk}
use Rattle.rd_protocol.specs.Verdicts.{AreVerdicts, verdict_for}
use Rattle.rd_protocol.specs.declared.response.FileVerdicts.{FileVerdicts}
use Rattle.rd_protocol.specs.declared.response.Difference.{Difference}
use Rattle.rd_protocol.specs.declared.response.Verdicts.{Verdicts}

-- the same effect
abbrev pub same_effect : Effect → Effect → Bool
same_effect Deny Deny = true
same_effect Listed Listed = true
same_effect Read Read = true
same_effect one other = false

-- the line for an audience, where the effect is another
abbrev pub difference_for : ℕ → FileVerdicts → FileVerdicts → Audience → List Difference
difference_for acc now later audience =
    cond (same_effect (verdict_for audience now).effect (verdict_for audience later).effect) []
    (record { accession = acc; slot = now.file.slot; name = now.file.name; audience = audience; before = verdict_for audience now; after = verdict_for audience later } ∷ [])

-- the lines for a file, in the order of audiences
abbrev pub differences_of : ℕ → FileVerdicts → FileVerdicts → List Difference
differences_of acc now later = difference_for acc now later Public ++ difference_for acc now later Room ++ difference_for acc now later Staff

-- the lines for the files of an accession
abbrev pub differences_at : ℕ → List FileVerdicts → List FileVerdicts → List Difference
differences_at acc (now ∷ files) (later ∷ others) = differences_of acc now later ++ differences_at acc files others
differences_at acc files others = []

-- the lines for all accessions
abbrev pub differences_between : List Verdicts → List Verdicts → List Difference
differences_between (now ∷ verdicts) (later ∷ others) = differences_at now.accession now.files later.files ++ differences_between verdicts others
differences_between verdicts others = []

-- The rehearsal of a command that makes another desk of this one: the differences in effect between the verdicts of a
-- day of the two. Each file and audience whose effects differ is there, with both verdicts, by accession, slot and
-- audience.
pub record IsRehearsal (desk after : Desk) (day : ℤ) (differences : List Difference) : Type 0 where
  pub verdicts : List Verdicts
  pub others : List Verdicts
  pub here : AreVerdicts desk day verdicts
  pub there : AreVerdicts after day others
  pub are : differences ≡ differences_between verdicts others
