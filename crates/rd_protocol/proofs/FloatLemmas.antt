-- What is written has no number that is a float.
use Rattle.std.proofs.Common.{◌≡◌, ℕ, List, [], ◌∷◌, false, Option, None, Some, map, option_map, refl}
use Rattle.serde_json.specs.Data.{Data, string}
use Rattle.serde_json.specs.View.{items_of}
use Rattle.serde_json.specs.Written.{has_float, items_have_float}
use Rattle.rd_cbm.specs.declared.report.MapReport.{MapReport}
use Rattle.rd_geometry.specs.declared.kind.Kind.{Kind}
use Rattle.rd_geometry.specs.declared.kind.Kind.TheVariants.{Cpm8}
use Rattle.rd_protocol.specs.Texts.{check_data, deed_data, image_data, images_data, map_data, audience_words, key_data, list_data, rule_data, select_data, surveyed_data, takedown_data, text_or_null}
use Rattle.rd_holdings.specs.Findings.{outcome_word}
use Rattle.rd_policy.specs.declared.rule.Rule.{Rule}
use Rattle.rd_policy.specs.declared.select.Select.{Select}
use Rattle.rd_policy.specs.declared.select.Select.TheVariants.{All, Slot, Prefix, User, Kind as OfType}
use Rattle.rd_protocol.specs.declared.response.DeedLine.{DeedLine}
use Rattle.rd_protocol.specs.declared.response.CheckLine.{CheckLine}
use Rattle.rd_protocol.specs.declared.response.KeyLine.{KeyLine}
use Rattle.rd_protocol.specs.declared.response.TakedownLine.{TakedownLine}
use Rattle.rd_protocol.specs.DayTexts.{day_text}
use Rattle.rd_protocol.specs.declared.response.ImageLine.{ImageLine}
use Rattle.rd_protocol.specs.declared.response.Survey.{Survey}

in_texts : (words : List (List ℕ)) → items_have_float (items_of (map (λ word. string word) words)) ≡ false
in_texts [] = refl
in_texts (word ∷ words) = in_texts words

in_images : (lines : List ImageLine) → items_have_float (items_of (map image_data lines)) ≡ false
in_images [] = refl
in_images (line ∷ lines) = in_images lines

pub images_have_no_float : (lines : List ImageLine) → has_float (images_data lines) ≡ false
images_have_no_float lines = rw (in_images lines) refl

in_map : (kind : Kind) (map : MapReport) → has_float (map_data kind map) ≡ false
in_map Cpm8 map = refl
in_map _ map = refl

pub survey_has_no_float : (survey : Survey) → has_float (surveyed_data survey) ≡ false
survey_has_no_float survey = rw (in_map survey.kind survey.report.map) refl

in_text : (text : Option (List ℕ)) → has_float (text_or_null text) ≡ false
in_text None = refl
in_text (Some text) = refl

in_select : (select : Select) → has_float (select_data select) ≡ false
in_select All = refl
in_select (Slot slot) = refl
in_select (Prefix text) = refl
in_select (User user) = refl
in_select (OfType text) = refl

in_rule : (rule : Rule) → has_float (rule_data rule) ≡ false
in_rule rule = rw (in_texts (audience_words rule.audiences), in_text (option_map day_text rule.from), in_select rule.select, in_text (option_map day_text rule.until)) refl

in_rules : (rules : List Rule) → items_have_float (items_of (map rule_data rules)) ≡ false
in_rules [] = refl
in_rules (rule ∷ rules) = rw (in_rule rule, in_rules rules) refl

pub in_deeds : (lines : List DeedLine) → items_have_float (items_of (map deed_data lines)) ≡ false
in_deeds [] = refl
in_deeds (line ∷ lines) = rw (in_rules line.rules, in_deeds lines) refl

pub in_takedowns : (lines : List TakedownLine) → items_have_float (items_of (map takedown_data lines)) ≡ false
in_takedowns [] = refl
in_takedowns (line ∷ lines) = rw (in_rules line.rules, in_takedowns lines) refl

pub in_keys : (lines : List KeyLine) → items_have_float (items_of (map key_data lines)) ≡ false
in_keys [] = refl
in_keys (line ∷ lines) = in_keys lines

pub in_checks : (lines : List CheckLine) → items_have_float (items_of (map check_data lines)) ≡ false
in_checks [] = refl
in_checks (line ∷ lines) =
    rw (in_text (option_map day_text (option_map (λ last. last.day) line.last)), in_text (option_map (λ last. outcome_word last.outcome) line.last), in_checks lines) refl

-- a list of what has none
pub list_has_no_float : {A : Type 0} (key : List ℕ) (described : A → Data) (lines : List A) → items_have_float (items_of (map described lines)) ≡ false
    → has_float (list_data key described lines) ≡ false
list_has_no_float key described lines none = rw none refl
