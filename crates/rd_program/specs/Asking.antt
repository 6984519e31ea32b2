-- What the commands `export` and `check` give, and why nothing is asked of a desk.
use Rattle.std.specs.Prelude.{◌≡◌, ◌⊎◌, ℕ, List, Option, codes}
use Rattle.std.specs.Io.KnownBytes.{Appends, Keeps}
use Rattle.rd_program.specs.Importing.{IsRowRefusal, accession_line}
use Rattle.rd_program.specs.Serving.{IsClockRefusal, IsOpenRefusal}
use Rattle.rd_commands.specs.declared.done.Done.{Done}
use Rattle.rd_commands.specs.declared.done.Done.TheVariants.{InPart, Whole}
use Rattle.rd_commands.specs.declared.refusal.Refusal.{Refusal}
use Rattle.rd_commands.specs.declared.refusal.Refusal.TheVariants.{Device, NoAccession, StaffOnly, UnknownKey}

-- why a desk gives no answer: it refuses the request, the device failed, memory ran out, or the
-- store failed
abbrev pub IsReplyRefusal : Refusal → Type 0
IsReplyRefusal refusal = (refusal ≡ UnknownKey) ⊎ ((refusal ≡ StaffOnly) ⊎ ((refusal ≡ NoAccession) ⊎ IsRowRefusal refusal))

-- why the program does not ask a desk
abbrev pub IsAskRefusal : Refusal → Type 0
IsAskRefusal refusal = IsOpenRefusal refusal ⊎ (IsClockRefusal refusal ⊎ IsReplyRefusal refusal)

-- Why there is no answer, and what was written then: nothing, unless the device failed while the
-- answer was written.
abbrev pub RefusesOneQuestion : Option (List ℕ) → Option (List ℕ) → Refusal → Type 0
RefusesOneQuestion old new refusal = (IsAskRefusal refusal × Keeps old new) ⊎ (refusal ≡ Device)

-- the line of a check of an accession: its image is sound, or changed
abbrev pub TellsCheck : ℕ → Option (List ℕ) → Option (List ℕ) → Done → Type 0
TellsCheck acc old new Whole = Appends old new (accession_line acc (codes "sound"))
TellsCheck acc old new InPart = Appends old new (accession_line acc (codes "changed"))
