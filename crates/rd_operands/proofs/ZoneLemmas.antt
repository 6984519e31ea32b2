-- Why a file gives a zone, or none.
use Rattle.std.specs.Prelude.{IsOk, IsSome, Err, None, Ok, Option, Result, Some, is_some}
use Rattle.std.proofs.Common.{◌≡◌, ◌≢◌, ◌<◌, ◌≤◌, ℕ, List, length, refl, sym, ◌∙◌, ap, subst, inl, inr, true, true≢false, arith}
use Rattle.jiff_core.specs.declared.error.Error.{Error}
use Rattle.jiff_core.specs.declared.error.Error.TheVariants.{OutOfMemory}
use Rattle.jiff_tz.specs.PosixText.{TzText, tz_view}
use Rattle.jiff_tz.specs.Tzif.{IsParseFailure, IsRefused}
use Rattle.jiff_tz.specs.TzifReader.{Parsed, TzifText}
use Rattle.jiff_tz.specs.declared.posix.TimeZone.{TimeZone as Rule}
use Rattle.jiff.specs.Words.{read_whole}
use Rattle.rd_policy.specs.Zones.{IsZoneOf}
use Rattle.rd_policy.specs.declared.zone.Zone.{Zone}
use Rattle.rd_operands.specs.ZoneFiles.{HasFooter, HasNoFooter, HasNoRule, IsRuleLine, IsZoneOfFile, last_line}

-- a file that is not read, for another reason than memory, has no rule in its footer
pub no_footer : (error : Error) (bytes : List ℕ) → IsParseFailure error bytes → error ≢ OutOfMemory → HasNoFooter bytes
no_footer error bytes (inl (inl memory)) other = absurd (other memory)
no_footer error bytes (inl (inr fault)) other = inl (λ table read. absurd (cc (fault.1, read)))
no_footer error bytes (inr bad) other = inr bad.1

-- a file is one, where memory ran out
pub is_read : {A : Type 0} (parsed : Parsed TzifText) (read : Result A Error) → IsRefused parsed read → read ≡ Err OutOfMemory → IsOk parsed
is_read (Ok text) read refused memory = refl
is_read (Err fault) read refused memory = absurd (cc (refused, memory))

-- a longer file is none
pub too_long : (bytes : List ℕ) → 65536 < length bytes → HasNoRule bytes
too_long bytes long = inl (λ ends. omega (arith, long, ends.few))

-- nor one whose last line is no rule
pub no_line : (bytes line : List ℕ) → line ≡ last_line bytes → ¬ IsRuleLine line → HasNoRule bytes
no_line bytes line is none = inl (λ ends. none (subst IsRuleLine (sym is) ends.line))

-- what is there is not absent
not_none : (rule : Option TzText) → IsSome rule → rule ≢ None
not_none rule some = λ none. true≢false (sym (subst (λ (o : Option TzText). is_some o ≡ true) none some))

-- nor one whose footer has no rule
pub no_rule : (bytes : List ℕ) → HasNoFooter bytes → HasNoRule bytes
no_rule bytes (inl none) =
    inl (λ ends. not_none (read_whole (last_line bytes)) ends.line.1 (sym ends.footer ∙ none ends.table ends.read))
no_rule bytes (inr bad) = inr bad

-- nor one whose footer has another rule than its last line
pub another_rule : (bytes line : List ℕ) (written footer : Rule) → line ≡ last_line bytes → read_whole line ≡ Some (tz_view written)
    → HasFooter bytes footer → tz_view written ≢ tz_view footer → HasNoRule bytes
another_rule bytes line written footer is reads has differ = inl (λ ends.
    let same : ends.table ≡ has.table = cc (sym ends.read ∙ has.read) in
    let rule : ends.table.rule ≡ has.table.rule = ap (λ (table : TzifText). table.rule) same in
    let whole : read_whole line ≡ read_whole (last_line bytes) = ap read_whole is in
    differ (cc (sym reads ∙ whole ∙ sym ends.footer ∙ rule ∙ has.is_rule)))

-- where both are the same, the file ends in the rule
pub zone_of_file : (bytes line : List ℕ) (zone : Zone) (written footer : Rule) → length bytes ≤ 65536 → line ≡ last_line bytes
    → IsRuleLine line → IsZoneOf line zone → read_whole line ≡ Some (tz_view written) → HasFooter bytes footer
    → tz_view written ≡ tz_view footer → IsZoneOfFile bytes zone
zone_of_file bytes line zone written footer few is rule_line of_zone reads has same =
    let whole : read_whole line ≡ read_whole (last_line bytes) = ap read_whole is in
    record {
      ends = record {
        few = few;
        table = has.table;
        read = has.read;
        line = subst IsRuleLine is rule_line;
        footer = has.is_rule ∙ ap (λ (view : TzText). Some view) (sym same) ∙ sym reads ∙ whole;
      };
      is_zone = subst (λ (text : List ℕ). IsZoneOf text zone) is of_zone;
    }
