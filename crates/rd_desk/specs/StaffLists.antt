-- Lines of what stands, from what the store gives.
use Rattle.std.specs.Prelude.{ℕ, List, [], ◌∷◌, ◌==◌, cond}
use Rattle.std.specs.List.{count_by}
use Rattle.rd_policy.specs.declared.audience.Audience.{Audience}
use Rattle.rd_policy.specs.declared.rule.Band.TheVariants.{Deed, Takedown}
use Rattle.rd_protocol.specs.StaffLists.{has_rules}
use Rattle.rd_holdings.specs.Findings.{latest}
use Rattle.rd_holdings.specs.State.{Desk, rules_at}
use Rattle.rd_protocol.specs.declared.response.CheckLine.{CheckLine}
use Rattle.rd_protocol.specs.declared.response.DeedLine.{DeedLine}
use Rattle.rd_protocol.specs.declared.response.KeyLine.{KeyLine}
use Rattle.rd_protocol.specs.declared.response.TakedownLine.{TakedownLine}
use Rattle.rd_holdings.specs.declared.rows.Accession.{Accession}
use Rattle.rd_holdings.specs.declared.rows.DeedRow.{DeedRow}

-- the line of a key
abbrev pub key_line : List ℕ × Audience → KeyLine
key_line e = record { digest = e.0; audience = e.1 }

-- how many of the accessions of a register came by a deed
abbrev pub accessions_in : ℕ → List (ℕ × Accession) → ℕ
accessions_in num register = count_by (λ e. e.1.deed == num) register

-- the line of a deed, with accessions from a register
abbrev pub deed_line_of : Desk → List (ℕ × Accession) → ℕ × DeedRow → DeedLine
deed_line_of desk register e = record { deed = e.0; donor = e.1.donor; signed = e.1.signed; accessions = accessions_in e.0 register; rules = rules_at desk Deed e.0 }

-- the line of an accession, if it has takedowns
abbrev pub takedown_lines_at : Desk → ℕ → List TakedownLine
takedown_lines_at desk acc = cond (has_rules (rules_at desk Takedown acc)) (record { accession = acc; rules = rules_at desk Takedown acc } ∷ []) []

-- the line of an accession, with its latest check
abbrev pub check_line : Desk → ℕ → CheckLine
check_line desk acc = record { accession = acc; last = latest desk acc }
