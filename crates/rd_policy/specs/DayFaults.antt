-- Why a moment has no day, as it is printed.
use Rattle.std.specs.Prelude.{ℕ, List, codes}
use Rattle.rd_policy.specs.declared.day.DayFault.{DayFault}
use Rattle.rd_policy.specs.declared.day.DayFault.TheVariants.{OutOfRange, NoMemory}

-- the words for the reason: the moment has no day, or memory was refused
abbrev pub fault_text : DayFault → List ℕ
fault_text OutOfRange = codes "not from 0001-01-03 to 9999-12-29 in UTC"
fault_text NoMemory = codes "no memory"
