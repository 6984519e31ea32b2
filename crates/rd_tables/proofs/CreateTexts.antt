-- What the texts that make the tables come to.
use Rattle.rd_tables.proofs.Common.{◌≡◌, ℕ, zero, suc, ◌+◌, ◌<◌, List, [], get_or, false, Ok, refl, arith, Table, Schema, CreateTable, lacks_sequence, IsPlain, command_of, statement_of, desk_table, deed_table, image_table, rule_table, badge_table, checked_table, found_table, marks_table, desk_text, deed_text, image_text, rule_text, badge_text, checked_text, found_text, marks_text, create_texts, schema_after}
use Rattle.sqlite.specs.Compile.{table_defined_by}
use Rattle.sqlite.specs.Change.{created}
use Rattle.sqlite.specs.Listing.{understood}
use Rattle.sqlite_tied.specs.Compute.{everything}
use Rattle.rd_tables.proofs.StatementRuns.{IsWrite}

desk_defined : table_defined_by desk_text ≡ Ok (desk_table 0)
unfolding everything
desk_defined = refl

deed_defined : table_defined_by deed_text ≡ Ok (deed_table 0)
unfolding everything
deed_defined = refl

image_defined : table_defined_by image_text ≡ Ok (image_table 0)
unfolding everything
image_defined = refl

rule_defined : table_defined_by rule_text ≡ Ok (rule_table 0)
unfolding everything
rule_defined = refl

badge_defined : table_defined_by badge_text ≡ Ok (badge_table 0)
unfolding everything
badge_defined = refl

checked_defined : table_defined_by checked_text ≡ Ok (checked_table 0)
unfolding everything
checked_defined = refl

found_defined : table_defined_by found_text ≡ Ok (found_table 0)
unfolding everything
found_defined = refl

marks_defined : table_defined_by marks_text ≡ Ok (marks_table 0)
unfolding everything
marks_defined = refl

-- The text makes one table more.
pub record Creates (before : Schema) (text : List ℕ) (after : Schema) : Type 0 where
  pub command : command_of (understood before text) ≡ CreateTable
  pub plain : IsPlain (understood before text)
  pub whole : statement_of text (understood before text) ≡ text
  pub table : Table
  pub defined : table_defined_by text ≡ Ok table
  pub is : created before table ≡ after
  pub unsequenced : lacks_sequence after ≡ false

pub creates : (i : ℕ) → i < 8 → Creates (schema_after i) (get_or create_texts i []) (schema_after (i + 1))
unfolding understood everything
creates zero low = record { command = refl; plain = (refl, refl); whole = refl; table = desk_table 0; defined = desk_defined; is = refl; unsequenced = refl }
creates (suc zero) low = record { command = refl; plain = (refl, refl); whole = refl; table = deed_table 0; defined = deed_defined; is = refl; unsequenced = refl }
creates (suc (suc zero)) low = record { command = refl; plain = (refl, refl); whole = refl; table = image_table 0; defined = image_defined; is = refl; unsequenced = refl }
creates (suc (suc (suc zero))) low = record { command = refl; plain = (refl, refl); whole = refl; table = rule_table 0; defined = rule_defined; is = refl; unsequenced = refl }
creates (suc (suc (suc (suc zero)))) low = record { command = refl; plain = (refl, refl); whole = refl; table = badge_table 0; defined = badge_defined; is = refl; unsequenced = refl }
creates (suc (suc (suc (suc (suc zero))))) low = record { command = refl; plain = (refl, refl); whole = refl; table = checked_table 0; defined = checked_defined; is = refl; unsequenced = refl }
creates (suc (suc (suc (suc (suc (suc zero)))))) low = record { command = refl; plain = (refl, refl); whole = refl; table = found_table 0; defined = found_defined; is = refl; unsequenced = refl }
creates (suc (suc (suc (suc (suc (suc (suc zero))))))) low = record { command = refl; plain = (refl, refl); whole = refl; table = marks_table 0; defined = marks_defined; is = refl; unsequenced = refl }
creates (suc (suc (suc (suc (suc (suc (suc (suc i)))))))) low = absurd (omega arith)

pub creates_writes : (i : ℕ) → i < 8 → IsWrite (schema_after i) (get_or create_texts i []) CreateTable
creates_writes i low =
    let it = creates i low in
    record { is = it.command; plain = it.plain; writes = λ old new statement params count h. h; no_commit = λ e. absurd cc; no_release = λ name e. absurd cc }
