-- The JSON text of a rule can be read back.
use Rattle.std.proofs.Common.{◌≡◌, ◌<◌, ◌≤◌, ◌^◌, ℕ, ℤ, List, [], ◌∷◌, Option, None, Some, arith, map, option_map, refl}
use Rattle.serde_json.specs.Data.{string}
use Rattle.serde_json.specs.View.{items_of}
use Rattle.rd_policy.specs.Rules.{IsRule, IsSelect}
use Rattle.rd_policy.specs.declared.rule.Rule.{Rule}
use Rattle.rd_policy.specs.declared.select.Select.{Select}
use Rattle.rd_policy.specs.declared.select.Select.TheVariants.{All, Slot, Prefix, User, Kind as OfType}
use Rattle.rd_protocol.specs.DayTexts.{day_text}
use Rattle.rd_protocol.specs.ReadableData.{AreReadable, IsReadable}
use Rattle.rd_protocol.specs.Texts.{audience_words, rule_data, select_data, text_or_null}
use Rattle.rd_protocol.specs.RuleTexts.{RulesAreReadBack, rule_body}
use Rattle.rd_protocol.proofs.ReadableLemmas.{read_back}

texts_readable : (words : List (List ℕ)) → AreReadable 0 (items_of (map (λ word. string word) words))
texts_readable [] = tt
texts_readable (word ∷ words) = (tt, texts_readable words)

text_readable : (text : Option (List ℕ)) → IsReadable 1 (text_or_null text)
text_readable None = tt
text_readable (Some text) = tt

select_readable : (select : Select) → IsSelect select → IsReadable 1 (select_data select)
select_readable All is = (refl, tt, tt)
select_readable (Slot slot) is = (refl, (omega (arith, is)), tt)
select_readable (Prefix text) is = (refl, tt, tt)
select_readable (User user) is = (refl, (omega (arith, is)), tt)
select_readable (OfType text) is = (refl, tt, tt)

pub rule_readable : (rule : Rule) → IsRule rule → IsReadable 2 (rule_data rule)
rule_readable rule is = (
  refl,
  texts_readable (audience_words rule.audiences),
  (
    refl,
    tt,
    (
      refl,
      text_readable (option_map day_text rule.from),
      (refl, (omega (arith, is.rank.1)), (refl, select_readable rule.select is.select, (refl, text_readable (option_map day_text rule.until), tt))),
    ),
  ),
)

body_readable : (rule : Rule) → IsRule rule → IsReadable 2 (rule_body rule)
body_readable rule is = (
  refl,
  texts_readable (audience_words rule.audiences),
  (
    refl,
    tt,
    (
      refl,
      text_readable (option_map day_text rule.from),
      (refl, select_readable rule.select is.select, (refl, text_readable (option_map day_text rule.until), tt)),
    ),
  ),
)

pub rules_are_read_back : RulesAreReadBack
rules_are_read_back rule is =
    (read_back 2 (rule_data rule) (omega arith) (rule_readable rule is), read_back 2 (rule_body rule) (omega arith) (body_readable rule is))
