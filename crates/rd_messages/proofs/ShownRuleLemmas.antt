-- A rule that the desk shows is read as a body.
use Rattle.std.proofs.Common.{◌≡◌, ◌≢◌, ◌↔◌, ◌⊎◌, inl, inr, ℕ, suc, ◌+◌, ◌/◌, ◌%◌, ◌<◌, ◌≤◌, ◌^◌, ℤ, pos, negsuc, ◌≤ℤ◌, List, [], ◌∷◌, ◌++◌, Bool, true, false, IsAscii, IsUtf8, Option, None, Some, IfSome, append-nil, ap, arith, codes, lit<, map, option_and_then, refl, subst, sym}
use Rattle.std.proofs.lemmas.Fmt.{IsAscii-decimal}
use Rattle.std.proofs.lemmas.Int.{ints}
use Rattle.std.proofs.lemmas.List.{map-append}
use Rattle.std.proofs.lemmas.List.Elements.{All-weaker}
use Rattle.std.proofs.lemmas.Str.{IsAscii-append, IsUtf8-append, IsUtf8-from_ascii, IsUtf8-nil}
use Rattle.std.proofs.lemmas.Str.Ascii.{IsAscii-cons, IsAscii-from_all, IsAscii-nil}
use Rattle.jiff_core.specs.declared.civil.date.Date.{Date}
use Rattle.jiff_core.proofs.CalendarLemmas.{days_in_month_bounds}
use Rattle.jiff_fmt.specs.Text.{date_text, pad2, pad4, year_text}
use Rattle.json.specs.Print.{quoted}
use Rattle.json.proofs.Printed.Utf8.{IsUtf8-are_ascii, IsUtf8-boolean, IsUtf8-quoted}
use Rattle.serde_json.specs.Data.{Data, null, boolean, number, unsigned, negative, float, string, array, object, Items, no_items, item, Members, no_members, member}
use Rattle.serde_json.specs.Find.{as_str, get}
use Rattle.serde_json.specs.View.{items_of}
use Rattle.serde_json.specs.Written.{comma_if, compact_text, items_text, members_text}
use Rattle.serde_json.proofs.OnLiterals.{serde_json_on_literals}
use Rattle.rd_policy.specs.Audiences.{IsAmong, IsEmpty, audience_word}
use Rattle.rd_policy.specs.Days.{IsDay}
use Rattle.rd_policy.specs.Rules.{IsPlainText, IsRule, IsSelect, effect_word}
use Rattle.rd_policy.specs.declared.audience.Audience.{Audience}
use Rattle.rd_policy.specs.declared.audience.Audience.TheVariants.{Public, Room, Staff}
use Rattle.rd_policy.specs.declared.audience.Audiences.{Audiences}
use Rattle.rd_policy.specs.declared.rule.Effect.{Effect}
use Rattle.rd_policy.specs.declared.rule.Effect.TheVariants.{Deny, List as Listed, Read}
use Rattle.rd_policy.specs.declared.rule.Rule.{Rule as NewRule}
use Rattle.rd_policy.specs.declared.select.Select.{Select}
use Rattle.rd_policy.specs.declared.select.Select.TheVariants.{All as AllFiles, Slot, Prefix, User, Kind}
use Rattle.rd_protocol.specs.DayTexts.{day_text}
use Rattle.rd_protocol.specs.RuleTexts.{rule_body}
use Rattle.rd_protocol.specs.Texts.{audience_words, day_or_null, select_data, word_if}
use Rattle.rd_protocol.specs.declared.request.What.{What}
use Rattle.rd_protocol.specs.declared.request.What.TheVariants as what
use Rattle.rd_protocol.proofs.DayTextLemmas.{has_text}
use Rattle.rd_protocol.proofs.RuleTextLemmas.{rules_are_read_back}
use Rattle.rd_messages.specs.Asked.{IsWhat}
use Rattle.rd_messages.specs.RequestBodies.{HasDayAt, IsRuleBody, NameAudiences, TellsRule}
use Rattle.rd_messages.specs.PathValues.{scope_in}
use Rattle.rd_messages.specs.ShownRules.{NamePlace, ShownRulesArePut, ShownRulesAreRehearsed, shown_text}
use Rattle.rd_messages.specs.declared.method.Method.TheVariants.{Put}
use Rattle.rd_messages.specs.declared.table.Subject.TheVariants.{Rule, Rehearsal}
use Rattle.rd_messages.specs.declared.values.Values.{Values}
use Rattle.rd_messages.proofs.AudienceWords.{NOBODY, Names, names_all, names_more, names_none, word}
use Rattle.rd_messages.proofs.RequestUniqueness.{one_what}
use Rattle.rd_messages.proofs.RouteLemmas.{ascii_from_test, text_from_test}

-- ---- the text of a value is UTF-8

-- each text of the value is UTF-8, and its numbers are natural and below 2^64
abbrev mutual
  pub HasTexts : Data → Type 0
  HasTexts null = Unit {0}
  HasTexts (boolean b) = Unit {0}
  HasTexts (number (unsigned n)) = n < 2 ^ 64
  HasTexts (number other) = ⊥
  HasTexts (string text) = IsUtf8 text
  HasTexts (array values) = ItemsHaveTexts values
  HasTexts (object ms) = MembersHaveTexts ms

  pub ItemsHaveTexts : Items → Type 0
  ItemsHaveTexts no_items = Unit {0}
  ItemsHaveTexts (item value items) = HasTexts value × ItemsHaveTexts items

  pub MembersHaveTexts : Members → Type 0
  MembersHaveTexts no_members = Unit {0}
  MembersHaveTexts (member key value members) = IsUtf8 key × HasTexts value × MembersHaveTexts members

utf8_comma : (later : Bool) → IsUtf8 (comma_if later)
utf8_comma true = text_from_test (44 ∷ []) refl
utf8_comma false = IsUtf8-nil

mutual
  utf8_text : (value : Data) → HasTexts value → IsUtf8 (compact_text value)
  utf8_text null is = IsUtf8-are_ascii _ refl
  utf8_text (boolean b) is = IsUtf8-boolean b
  utf8_text (number (unsigned n)) is = IsUtf8-from_ascii _ (IsAscii-decimal n is)
  utf8_text (number (negative z)) is = absurd is
  utf8_text (number (float x)) is = absurd is
  utf8_text (string text) is = IsUtf8-quoted text is
  utf8_text (array values) is = IsUtf8-append (91 ∷ []) (items_text false values) (text_from_test (91 ∷ []) refl) (utf8_items false values is)
  utf8_text (object ms) is = IsUtf8-append (123 ∷ []) (members_text false ms) (text_from_test (123 ∷ []) refl) (utf8_members false ms is)

  utf8_items : (later : Bool) (values : Items) → ItemsHaveTexts values → IsUtf8 (items_text later values)
  utf8_items later no_items is = text_from_test (93 ∷ []) refl
  utf8_items later (item value items) is =
      IsUtf8-append (comma_if later) (compact_text value ++ items_text true items) (utf8_comma later)
      (IsUtf8-append (compact_text value) (items_text true items) (utf8_text value is.0) (utf8_items true items is.1))

  utf8_members : (later : Bool) (ms : Members) → MembersHaveTexts ms → IsUtf8 (members_text later ms)
  utf8_members later no_members is = text_from_test (125 ∷ []) refl
  utf8_members later (member key value ms) is =
      IsUtf8-append (comma_if later) (quoted key ++ 58 ∷ (compact_text value ++ members_text true ms)) (utf8_comma later)
      (IsUtf8-append (quoted key) (58 ∷ (compact_text value ++ members_text true ms)) (IsUtf8-quoted key is.0)
      (IsUtf8-append (58 ∷ []) (compact_text value ++ members_text true ms) (text_from_test (58 ∷ []) refl)
      (IsUtf8-append (compact_text value) (members_text true ms) (utf8_text value is.1) (utf8_members true ms is.2))))

-- ---- the date of a day is ASCII

ascii_two : (n : ℕ) → n < 100 → IsAscii (pad2 n)
ascii_two n small = IsAscii-cons (48 + n / 10) ((48 + n % 10) ∷ []) (omega arith) (IsAscii-cons (48 + n % 10) [] (omega arith) IsAscii-nil)

ascii_four : (n : ℕ) → n < 10_000 → IsAscii (pad4 n)
ascii_four n small = IsAscii-append (pad2 (n / 100)) (pad2 (n % 100)) (ascii_two (n / 100) (omega arith)) (ascii_two (n % 100) (omega arith))

ascii_year : (date : Date) → IsAscii (year_text date.year)
ascii_year date = of_year date.year (omega (arith, ints, date.year_in.0)) (omega (arith, ints, date.year_in.1))
  where
    of_year : (year : ℤ) → negsuc 9_998 ≤ℤ year → year ≤ℤ pos 9_999 → IsAscii (year_text year)
    of_year (pos n) low high = ascii_four n (omega (arith, ints, high))
    of_year (negsuc n) low high = IsAscii-append (codes "-00") (pad4 (suc n)) (ascii_from_test (codes "-00") refl) (ascii_four (suc n) (omega (arith, ints, low)))

ascii_dash : IsAscii (45 ∷ [])
ascii_dash = ascii_from_test (45 ∷ []) refl

ascii_date : (date : Date) → IsAscii (date_text date)
ascii_date date =
    IsAscii-append _ _
    (IsAscii-append _ _
    (IsAscii-append _ _ (IsAscii-append _ _ (ascii_year date) ascii_dash) (ascii_two date.month (omega (arith, date.month_in.1))))
    ascii_dash)
    (ascii_two date.day (omega (arith, date.day_in.1, days_in_month_bounds date.year date.month)))

utf8_day : (day : ℤ) → IsDay day → IsUtf8 (day_text day)
utf8_day day is =
    let date = has_text day is in
    subst IsUtf8 (sym date.written) (IsUtf8-from_ascii (date_text date.date) (ascii_date date.date))

-- ---- the texts of a rule

utf8_plain : (most : ℕ) (text : List ℕ) → IsPlainText most text → IsUtf8 text
utf8_plain most text is = IsUtf8-from_ascii text
    (IsAscii-from_all text
    (All-weaker (λ byte. (32 ≤ byte) × (byte ≤ 126)) (λ byte. byte < 128) (λ byte within. omega (arith, within.1)) text is.plain))

abbrev set_of : Bool → Bool → Bool → Audiences
set_of public room staff = record { public = public; room = room; staff = staff }

audiences_have_texts : (public room staff : Bool) → ItemsHaveTexts (items_of (map (λ word. string word) (audience_words (set_of public room staff))))
audiences_have_texts true true true = (text_from_test _ refl, (text_from_test _ refl, (text_from_test _ refl, tt)))
audiences_have_texts true true false = (text_from_test _ refl, (text_from_test _ refl, tt))
audiences_have_texts true false true = (text_from_test _ refl, (text_from_test _ refl, tt))
audiences_have_texts true false false = (text_from_test _ refl, tt)
audiences_have_texts false true true = (text_from_test _ refl, (text_from_test _ refl, tt))
audiences_have_texts false true false = (text_from_test _ refl, tt)
audiences_have_texts false false true = (text_from_test _ refl, tt)
audiences_have_texts false false false = tt

utf8_effect : (effect : Effect) → IsUtf8 (effect_word effect)
utf8_effect Deny = text_from_test _ refl
utf8_effect Listed = text_from_test _ refl
utf8_effect Read = text_from_test _ refl

day_has_texts : (day : Option ℤ) → IfSome day IsDay → HasTexts (day_or_null day)
day_has_texts None is = tt
day_has_texts (Some day) is = utf8_day day is

select_has_texts : (select : Select) → IsSelect select → HasTexts (select_data select)
select_has_texts AllFiles is = (text_from_test _ refl, tt, tt)
select_has_texts (Slot slot) is = (text_from_test _ refl, omega (arith, is), tt)
select_has_texts (Prefix text) is = (text_from_test _ refl, utf8_plain 64 text is, tt)
select_has_texts (User user) is = (text_from_test _ refl, omega (arith, is), tt)
select_has_texts (Kind text) is = (text_from_test _ refl, utf8_plain 16 text is, tt)

rule_has_texts : (rule : NewRule) → IsRule rule → HasTexts (rule_body rule)
rule_has_texts rule is = (
  text_from_test _ refl,
  audiences_have_texts rule.audiences.public rule.audiences.room rule.audiences.staff,
  (
    text_from_test _ refl,
    utf8_effect rule.effect,
    (
      text_from_test _ refl,
      day_has_texts rule.from is.from,
      (text_from_test _ refl, select_has_texts rule.select is.select, (text_from_test _ refl, day_has_texts rule.until is.until, tt)),
    ),
  ),
)

-- ---- the audiences of a rule

-- a set with one audience more
abbrev with_one : Audiences → Audience → Audiences
with_one set Public = set_of true set.room set.staff
with_one set Room = set_of set.public true set.staff
with_one set Staff = set_of set.public set.room true

stays : {P Q : Type 0} → ¬ Q → P ↔ (P ⊎ Q)
stays not_this = (λ p. inl p, λ either. elim either [ inl p ↦ p | inr this ↦ absurd (not_this this) ])

grows : (set : Audiences) (audience other : Audience) → IsAmong (with_one set audience) other ↔ (IsAmong set other ⊎ (audience ≡ other))
grows set Public Public = (λ among. inr refl, λ either. refl)
grows set Public Room = stays (λ same. cc same)
grows set Public Staff = stays (λ same. cc same)
grows set Room Public = stays (λ same. cc same)
grows set Room Room = (λ among. inr refl, λ either. refl)
grows set Room Staff = stays (λ same. cc same)
grows set Staff Public = stays (λ same. cc same)
grows set Staff Room = stays (λ same. cc same)
grows set Staff Staff = (λ among. inr refl, λ either. refl)

none_yet : false ≢ true
none_yet same = cc same

abbrev said : List (List ℕ) → List Data
said words = map (λ word. string word) words

public_said : (public : Bool) → Names (said (word_if public (codes "public"))) (set_of public false false)
public_said true = names_more [] (word Public) NOBODY (set_of true false false) Public names_none refl none_yet (grows NOBODY Public)
public_said false = names_none

-- words that name a set, and one word more
more_said : (words : List (List ℕ)) (set : Audiences) (audience : Audience) → Names (said words) set → ¬ IsAmong set audience
    → Names (said (words ++ audience_word audience ∷ [])) (with_one set audience)
more_said words set audience names fresh =
    subst (λ values. Names values (with_one set audience)) (sym (map-append (λ word. string word) words (audience_word audience ∷ [])))
    (names_more (said words) (word audience) set (with_one set audience) audience names refl fresh (grows set audience))

no_more_said : (words : List (List ℕ)) (set : Audiences) → Names (said words) set → Names (said (words ++ [])) set
no_more_said words set names = subst (λ words. Names (said words) set) (sym (append-nil words)) names

room_said : (public room : Bool) → Names (said (word_if public (codes "public") ++ word_if room (codes "room"))) (set_of public room false)
room_said public true = more_said (word_if public (codes "public")) (set_of public false false) Room (public_said public) none_yet
room_said public false = no_more_said (word_if public (codes "public")) (set_of public false false) (public_said public)

staff_said : (public room staff : Bool) → Names (said (audience_words (set_of public room staff))) (set_of public room staff)
staff_said public room true =
    more_said (word_if public (codes "public") ++ word_if room (codes "room")) (set_of public room false) Staff (room_said public room) none_yet
staff_said public room false =
    no_more_said (word_if public (codes "public") ++ word_if room (codes "room")) (set_of public room false) (room_said public room)

audiences_said : (set : Audiences) → ¬ IsEmpty set → NameAudiences (said (audience_words set)) set
audiences_said set some = names_all (said (audience_words set)) set (staff_said set.public set.room set.staff) some

-- ---- what the value tells

has_day : (key : List ℕ) (value : Data) (day : Option ℤ) → get key value ≡ Some (day_or_null day) → IfSome day IsDay → HasDayAt key value day
has_day key value None at is = inr at
has_day key value (Some day) at is = (day_text day, ap (option_and_then as_str) at, has_text day is)

tells_rule : (rule : NewRule) → IsRule rule → TellsRule (rule_body rule) rule
unfolding serde_json_on_literals
tells_rule rule is = record {
  keys = ((0, lit< tt, refl), ((1, lit< tt, refl), ((2, lit< tt, refl), ((3, lit< tt, refl), ((4, lit< tt, refl), tt)))));
  audiences = record { values = said (audience_words rule.audiences); listed = refl; audiences = audiences_said rule.audiences is.audiences };
  from = has_day (codes "from") (rule_body rule) rule.from refl is.from;
  until = has_day (codes "until") (rule_body rule) rule.until refl is.until;
  select = refl;
  effect = refl;
}

shown_body : (rule : NewRule) → IsRule rule → (values : Values) → NamePlace rule values
    → IsRuleBody rule.band (scope_in rule.band values) values.rank (shown_text rule) rule
shown_body rule is values at = record {
  value = rule_body rule;
  json = record { utf8 = utf8_text (rule_body rule) (rule_has_texts rule is); reads = (rules_are_read_back rule is).1 };
  tells = tells_rule rule is;
  at = record { of_band = refl; of_scope = sym at.0; of_rank = sym at.1 };
}

-- ---- what it asks

pub shown_rules_are_put : ShownRulesArePut
shown_rules_are_put rule is values at asked =
    let Asked : What → Type 0 = IsWhat (Rule rule.band) values Put (shown_text rule) in
    let asks : Asked (what.PutRule rule) = inl ((rule, refl, shown_body rule is values at), is) in (
      λ also. one_what (Rule rule.band) values Put (shown_text rule) asked (what.PutRule rule) also asks,
      λ same. subst Asked (sym same) asks,
    )

pub shown_rules_are_rehearsed : ShownRulesAreRehearsed
shown_rules_are_rehearsed rule is values at in_range asked =
    let Asked : What → Type 0 = IsWhat (Rehearsal rule.band) values Put (shown_text rule) in
    let asks : Asked (what.RehearseRule values.day rule) = inl ((rule, refl, shown_body rule is values at), (in_range, is)) in (
      λ also. one_what (Rehearsal rule.band) values Put (shown_text rule) asked (what.RehearseRule values.day rule) also asks,
      λ same. subst Asked (sym same) asks,
    )
