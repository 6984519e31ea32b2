-- The rule in which a file of the time zone database ends. The file is of the format of RFC 9636: tables of the
-- clocks' changes up to some year, and in its last line the rule for all later time.
use Rattle.std.specs.Prelude.{◌≡◌, ◌⊎◌, ◌≤◌, ℕ, List, None, Ok, Some, codes, length}
use Rattle.std.specs.Io.BufRead.{strip_last}
use Rattle.std.specs.List.{after_last}
use Rattle.std.specs.Str.{IsUtf8}
use Rattle.jiff_tz.specs.PosixText.{tz_view}
use Rattle.jiff_tz.specs.Tzif.{HasBadRule}
use Rattle.jiff_tz.specs.TzifReader.{TzifText, read_tzif}
use Rattle.jiff_tz.specs.declared.posix.TimeZone.{TimeZone as Rule}
use Rattle.jiff.specs.Words.{read_whole}
use Rattle.rd_policy.specs.Zones.{IsZoneOf, IsZoneRule}
use Rattle.rd_policy.specs.declared.zone.Zone.{Zone}
use Rattle.rd_operands.specs.KeyFiles.{is_line_feed}
use Rattle.rd_operands.specs.declared.zone_file.ZoneFileFault.{ZoneFileFault}
use Rattle.rd_operands.specs.declared.zone_file.ZoneFileFault.TheVariants.{NoMemory, NoRule}

-- the last line of bytes: what follows their last line feed but one at their end
abbrev pub last_line : List ℕ → List ℕ
last_line bytes = after_last is_line_feed (strip_last 10 bytes)

-- the line is a text that is a rule
abbrev pub IsRuleLine : List ℕ → Type 0
IsRuleLine line = IsUtf8 line × IsZoneRule line

-- The bytes are a file of the time zone database that ends in a rule: at most 65,536 bytes that have the format, with
-- the rule of the last line as that of the footer.
pub record EndsInRule (bytes : List ℕ) : Type 0 where
  pub few : length bytes ≤ 65_536
  pub table : TzifText
  pub read : read_tzif bytes ≡ Ok table
  pub line : IsRuleLine (last_line bytes)
  pub footer : table.rule ≡ read_whole (last_line bytes)

-- The zone is that of the rule in which the file ends.
pub record IsZoneOfFile (bytes : List ℕ) (zone : Zone) : Type 0 where
  pub ends : EndsInRule bytes
  pub is_zone : IsZoneOf (last_line bytes) zone

-- the bytes are no such file, or the rule contradicts the last change of the table
abbrev pub HasNoRule : List ℕ → Type 0
HasNoRule bytes = (¬ EndsInRule bytes) ⊎ HasBadRule (read_tzif bytes)

-- The bytes have the format, and the footer has this rule.
pub record HasFooter (bytes : List ℕ) (rule : Rule) : Type 0 where
  pub table : TzifText
  pub read : read_tzif bytes ≡ Ok table
  pub is_rule : table.rule ≡ Some (tz_view rule)

-- the bytes have another format or no rule in the footer, or the rule contradicts the last change of the table
abbrev pub HasNoFooter : List ℕ → Type 0
HasNoFooter bytes = ((table : TzifText) → read_tzif bytes ≡ Ok table → table.rule ≡ None) ⊎ HasBadRule (read_tzif bytes)

-- why a file gives no zone, as it is printed
abbrev pub fault_text : ZoneFileFault → List ℕ
fault_text NoRule = codes "no file with a rule"
fault_text NoMemory = codes "no memory"
