-- What stands in a desk, in lines for the staff.
use Rattle.std.specs.Prelude.{ℕ, List, [], ◌∷◌, Bool, true, false, ◌==◌, map}
use Rattle.std.specs.FinMap.{entries}
use Rattle.std.specs.List.{count_by, filter}
use Rattle.rd_policy.specs.declared.rule.Band.TheVariants.{Takedown, Deed}
use Rattle.rd_policy.specs.declared.rule.Rule.{Rule}
use Rattle.rd_holdings.specs.Findings.{latest}
use Rattle.rd_holdings.specs.State.{Desk, rules_at}
use Rattle.rd_protocol.specs.declared.response.CheckLine.{CheckLine}
use Rattle.rd_protocol.specs.declared.response.DeedLine.{DeedLine}
use Rattle.rd_protocol.specs.declared.response.KeyLine.{KeyLine}
use Rattle.rd_protocol.specs.declared.response.TakedownLine.{TakedownLine}
use Rattle.rd_holdings.specs.declared.rows.DeedRow.{DeedRow}
use Rattle.rd_holdings.specs.declared.rows.ImageRow.{ImageRow}

-- ---- deeds

-- how many accessions came by a deed
abbrev pub accessions_under : Desk → ℕ → ℕ
accessions_under desk num = count_by (λ e. e.1.deed == num) (entries desk.images)

-- the line of a deed that stands
abbrev pub deed_line : Desk → ℕ × DeedRow → DeedLine
deed_line desk e = record {
  deed = e.0;
  donor = e.1.donor;
  signed = e.1.signed;
  accessions = accessions_under desk e.0;
  rules = rules_at desk Deed e.0;
}

-- all deeds, ascending, each with its rules by rank and the number of accessions under it
abbrev pub deed_lines : Desk → List DeedLine
deed_lines desk = map (deed_line desk) (entries desk.deeds)

-- ---- takedowns

-- there are rules
abbrev pub has_rules : List Rule → Bool
has_rules [] = false
has_rules (rule ∷ rules) = true

-- the line of an accession, with its takedowns
abbrev pub takedown_line : Desk → ℕ × ImageRow → TakedownLine
takedown_line desk e = record { accession = e.0; rules = rules_at desk Takedown e.0 }

-- the accessions that have takedowns, ascending, each with these by rank
abbrev pub takedown_lines : Desk → List TakedownLine
takedown_lines desk = filter (λ line. has_rules line.rules) (map (takedown_line desk) (entries desk.images))

-- ---- keys

-- all desk keys, by digest
abbrev pub key_lines : Desk → List KeyLine
key_lines desk = map (λ e. record { digest = e.0; audience = e.1 }) (entries desk.keys)

-- ---- checks

-- all accessions, ascending, each with its latest check
abbrev pub check_lines : Desk → List CheckLine
check_lines desk = map (λ e. record { accession = e.0; last = latest desk e.0 }) (entries desk.images)
