-- The value of an entry within its limits is read back from its line.
use Rattle.std.proofs.Common.{◌≡◌, ℕ, ℤ, pos, negsuc, List, [], ◌∷◌, false, Option, None, Some, arith, map, option_map, refl}
use Rattle.std.proofs.lemmas.Int.{ints}
use Rattle.hex.specs.Hex.{encode_lower}
use Rattle.serde_json.specs.Data.{string}
use Rattle.serde_json.specs.Read.{read}
use Rattle.serde_json.specs.View.{items_of}
use Rattle.serde_json.specs.Written.{has_float}
use Rattle.rd_policy.specs.Days.{HasDay}
use Rattle.rd_policy.specs.Rules.{IsRank, IsRule, IsScope, IsSelect}
use Rattle.rd_policy.specs.declared.rule.Band.{Band}
use Rattle.rd_policy.specs.declared.rule.Band.TheVariants.{Takedown, Deed as OfDeed}
use Rattle.rd_policy.specs.declared.rule.Rule.{Rule as NewRule}
use Rattle.rd_policy.specs.declared.select.Select.{Select}
use Rattle.rd_policy.specs.declared.select.Select.TheVariants.{All, Slot, Prefix, User, Kind as OfType}
use Rattle.rd_protocol.specs.DayTexts.{day_text}
use Rattle.rd_protocol.specs.Texts.{audience_words, rule_data, select_data, text_or_null}
use Rattle.rd_history.specs.Entries.{IsChange, IsEntry}
use Rattle.rd_history.specs.Lines.{change_data, drop_data, entry_data, integer, line_of, put_data}
use Rattle.rd_history.specs.declared.entry.Change.{Change}
use Rattle.rd_history.specs.declared.entry.Change.TheVariants.{Begin, Deed, Image, Rule, DropRule, Key, DropKey, Void}
use Rattle.rd_history.specs.declared.entry.Entry.{Entry}
use Rattle.rd_history.proofs.ReadBack.{AreKept, IsKept, no_float, read_back}

texts_kept : (words : List (List ℕ)) → AreKept 0 (items_of (map (λ word. string word) words))
texts_kept [] = tt
texts_kept (word ∷ words) = (tt, texts_kept words)

text_kept : (most : ℕ) (text : Option (List ℕ)) → IsKept most (text_or_null text)
text_kept most None = tt
text_kept most (Some text) = tt

select_kept : (select : Select) → IsSelect select → IsKept 1 (select_data select)
select_kept All is = ((tt, tt), refl)
select_kept (Slot slot) is = ((omega (arith, is), tt), refl)
select_kept (Prefix text) is = ((tt, tt), refl)
select_kept (User user) is = ((omega (arith, is), tt), refl)
select_kept (OfType text) is = ((tt, tt), refl)

rule_kept : (rule : NewRule) → IsRule rule → IsKept 2 (rule_data rule)
rule_kept rule is = (
  (
    texts_kept (audience_words rule.audiences),
    (
      tt,
      (
        text_kept 1 (option_map day_text rule.from),
        (omega (arith, is.rank.1), (select_kept rule.select is.select, (text_kept 1 (option_map day_text rule.until), tt))),
      ),
    ),
  ),
  refl,
)

put_kept : (band : Band) (rule : NewRule) → IsRule rule → IsKept 4 (put_data band rule)
put_kept Takedown rule is = ((((omega (arith, is.scope.1), (rule_kept rule is, tt)), refl), tt), refl)
put_kept OfDeed rule is = ((((omega (arith, is.scope.1), (rule_kept rule is, tt)), refl), tt), refl)

drop_kept : (band : Band) (scope rank : ℕ) → IsScope scope → IsRank rank → IsKept 4 (drop_data band scope rank)
drop_kept Takedown scope rank at is = ((((omega (arith, at.1), (omega (arith, is.1), tt)), refl), tt), refl)
drop_kept OfDeed scope rank at is = ((((omega (arith, at.1), (omega (arith, is.1), tt)), refl), tt), refl)

change_kept : (change : Change) → IsChange change → IsKept 4 (change_data change)
change_kept (Begin count) is = ((omega (arith, is), tt), refl)
change_kept (Deed num donor signed) is = ((((omega (arith, is.scope.1), (tt, (tt, tt))), refl), tt), refl)
change_kept (Image acc kind deed digest) is = ((((omega (arith, is.0.1), (omega (arith, is.1.1), (tt, (tt, tt)))), refl), tt), refl)
change_kept (Rule rule) is = put_kept rule.band rule is
change_kept (DropRule band scope rank) is = drop_kept band scope rank is.0 is.1
change_kept (Key digest audience) is = ((((tt, (tt, tt)), refl), tt), refl)
change_kept (DropKey digest) is = ((((tt, tt), refl), tt), refl)
change_kept (Void cause) is = ((tt, tt), refl)

moment_kept : (moment : ℤ) → HasDay moment → IsKept 4 (integer moment)
moment_kept (pos n) is = omega (arith, ints, is.1)
moment_kept (negsuc n) is = omega (arith, ints, is.0)

pub entry_kept : (entry : Entry) → IsEntry entry → IsKept 5 (entry_data entry)
entry_kept entry is = (
  (
    text_kept 4 (option_map encode_lower entry.badge),
    (change_kept entry.change is.change, (moment_kept entry.moment is.moment, (tt, (omega (arith, is.number.1), (tt, tt))))),
  ),
  refl,
)

pub entry_has_no_float : (entry : Entry) → IsEntry entry → has_float (entry_data entry) ≡ false
entry_has_no_float entry is = no_float 5 (entry_data entry) (entry_kept entry is)

pub entry_read_back : (entry : Entry) → IsEntry entry → read (line_of entry) ≡ Some (entry_data entry)
entry_read_back entry is = read_back 5 (entry_data entry) (omega arith) (entry_kept entry is)
