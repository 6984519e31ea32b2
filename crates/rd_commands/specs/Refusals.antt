-- The names and the statuses of refusals.
use Rattle.std.specs.Prelude.{⊤, ℕ, List, codes}
use Rattle.rd_commands.specs.declared.files.MachineFault.{MachineFault}
use Rattle.rd_commands.specs.declared.files.MachineFault.TheVariants as fault
use Rattle.rd_commands.specs.declared.refusal.Refusal.{Refusal}
use Rattle.rd_commands.specs.declared.refusal.Refusal.TheVariants.{Usage, Device, NoMemory}
use Rattle.rd_commands.specs.declared.refusal.Refusal.TheVariants.{WrongSize, NoFile, ListedOnly, Faulty}
use Rattle.rd_commands.specs.declared.refusal.Refusal.TheVariants.{BadSheet, Clock, Exists, Inconsistent, NoAccession, NotADesk, StaffOnly, Store, UnknownKey, Version}

-- the name that the program prints, with the label of the rule if a rule is the reason, as in `unknown-key K0`
abbrev pub name_of : Refusal → List ℕ
name_of Usage = codes "usage"
name_of Device = codes "device"
name_of NoMemory = codes "no-memory"
name_of WrongSize = codes "wrong-size"
name_of NoFile = codes "no-file"
name_of ListedOnly = codes "listed-only"
name_of (Faulty kind faults) = codes "faulty"
name_of Exists = codes "exists"
name_of NotADesk = codes "not-a-desk"
name_of Version = codes "version"
name_of Inconsistent = codes "inconsistent"
name_of Store = codes "store"
name_of Clock = codes "clock"
name_of BadSheet = codes "bad-sheet"
name_of UnknownKey = codes "unknown-key K0"
name_of StaffOnly = codes "staff-only S0"
name_of NoAccession = codes "no-accession"

-- the exit status: 1 if the program refuses the image, its file, a sheet or a request, or if a
-- desk stands already, 2 if it refuses the words, and otherwise 3
abbrev pub status_of : Refusal → ℕ
status_of Usage = 2
status_of Device = 3
status_of NoMemory = 3
status_of WrongSize = 1
status_of NoFile = 1
status_of ListedOnly = 1
status_of (Faulty kind faults) = 1
status_of Exists = 1
status_of NotADesk = 3
status_of Version = 3
status_of Inconsistent = 3
status_of Store = 3
status_of Clock = 3
status_of BadSheet = 1
status_of UnknownKey = 1
status_of StaffOnly = 1
status_of NoAccession = 1

-- the device failed, or memory ran out
abbrev pub IsDeviceOrMemory : Refusal → Type 0
IsDeviceOrMemory Device = ⊤
IsDeviceOrMemory NoMemory = ⊤
IsDeviceOrMemory refusal = ⊥

-- what the program ends with when the machine fails: memory ran out, or otherwise this, `device` for a file, a port
-- or a Unix socket, and `store` for a database
abbrev pub refusal_for : Refusal → MachineFault → Refusal
refusal_for failed fault.Failed = failed
refusal_for failed fault.NoMemory = NoMemory
