-- What the program writes of its version.
use Rattle.std.specs.Prelude.{◌≡◌, ℕ, List, Option, ◌++◌, codes}
use Rattle.std.specs.Io.KnownBytes.{Keeps}
use Rattle.rd_commands.specs.Output.{AppendsPart}
use Rattle.rd_commands.specs.Printed.{line_feed}
use Rattle.rd_commands.specs.declared.refusal.Refusal.{Refusal}
use Rattle.rd_commands.specs.declared.refusal.Refusal.TheVariants.{Device, NoMemory}

-- the line that names the version
abbrev pub version_line : List ℕ
version_line = codes "desk 0.1.0" ++ line_feed

-- Why the version is not written, and what was written then: a front part of its line if the
-- device failed, and nothing if memory ran out.
abbrev pub RefusesVersion : Option (List ℕ) → Option (List ℕ) → Refusal → Type 0
RefusesVersion old new Device = AppendsPart old new version_line
RefusesVersion old new refusal = Keeps old new × (refusal ≡ NoMemory)
