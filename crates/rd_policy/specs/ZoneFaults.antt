-- Why a text gives no zone, as it is printed.
use Rattle.std.specs.Prelude.{ℕ, List, codes}
use Rattle.rd_policy.specs.declared.zone.ZoneFault.{ZoneFault}
use Rattle.rd_policy.specs.declared.zone.ZoneFault.TheVariants.{BadZone, NoMemory}

-- the words for the reason: the text is no rule of a clock, or memory was refused
abbrev pub fault_text : ZoneFault → List ℕ
fault_text BadZone = codes "no zone"
fault_text NoMemory = codes "no memory"
