-- What the program writes of a refusal.
use Rattle.std.specs.Prelude.{◌≡◌, ℕ, Err, List, Ok, Option, Result}
use Rattle.rd_commands.specs.Output.{AppendsPart}
use Rattle.rd_commands.specs.Printed.{refusal_line}
use Rattle.rd_commands.specs.Refusals.{status_of}
use Rattle.rd_commands.specs.declared.done.Done.{Done}
use Rattle.rd_commands.specs.declared.done.Done.TheVariants.{InPart, Whole}
use Rattle.rd_commands.specs.declared.refusal.Refusal.{Refusal}

-- The program names a refusal with the status, for which this holds: the writer has gained a front
-- part of its line and nothing else.
pub record Tells (P : Refusal → Type 0) (status : ℕ) (old new : Option (List ℕ)) : Type 0 where
  pub refusal : Refusal
  pub why : P refusal
  pub has_status : status_of refusal ≡ status
  pub line : AppendsPart old new (refusal_line refusal)

-- both parts are done
abbrev pub both : Done → Done → Done
both Whole other = other
both InPart other = InPart

-- `Whole` if nothing was refused, and otherwise the refusal
abbrev pub whole : {T : Type 0} → Result T Refusal → Result Done Refusal
whole (Ok value) = Ok Whole
whole (Err refusal) = Err refusal
