-- The lists of deeds, takedowns and keys leave nothing out.
use Rattle.std.proofs.Common.{◌≡◌, ◌∙◌, ◌<◌, ◌≤◌, ◌^◌, ◌+◌, ◌==◌, ◌&&◌, inl, inr, ℕ, zero, suc, ℤ, List, [], ◌∷◌, All, Bool, true, false, cond, IfSome, Ok, Option, Result, Some, None, ap, ap₂, arith, codes, get_or, length, map, not, option_map, refl, subst, sym}
use Rattle.std.specs.FinMap.{entries, get}
use Rattle.std.specs.List.{count_by, filter}
use Rattle.std.proofs.lemmas.List.Filters.{length-filter_both}
use Rattle.std.proofs.lemmas.List.Sums.{length-filter}
use Rattle.hex.specs.Hex.{IsBytes, decode_of, encode_lower}
use Rattle.hex.specs.declared.error.FromHexError.{FromHexError}
use Rattle.hex.proofs.HexLemmas.{decode_of-encode_lower}
use Rattle.serde_json.specs.Data.{Data, null, boolean, number, unsigned, string, array, object, Items, no_items, item, Members, no_members, member}
use Rattle.serde_json.specs.View.{items_of}
use Rattle.serde_json.specs.Written.{compact_text}
use Rattle.rd_policy.specs.Audiences.{audience_word}
use Rattle.rd_policy.specs.Days.{IsDay}
use Rattle.rd_policy.specs.Rules.{IsRule, effect_word}
use Rattle.rd_policy.specs.declared.audience.Audience.{Audience}
use Rattle.rd_policy.specs.declared.audience.Audience.TheVariants.{Public, Room, Staff}
use Rattle.rd_policy.specs.declared.audience.Audiences.{Audiences}
use Rattle.rd_policy.specs.Dates.{IsDateOf}
use Rattle.rd_policy.specs.declared.rule.Band.{Band}
use Rattle.rd_policy.specs.declared.rule.Band.TheVariants.{Takedown, Deed}
use Rattle.rd_policy.specs.declared.rule.Effect.{Effect}
use Rattle.rd_policy.specs.declared.rule.Effect.TheVariants.{Deny, List as Listed, Read}
use Rattle.rd_policy.specs.declared.rule.Rule.{Rule}
use Rattle.rd_policy.specs.declared.select.Select.{Select}
use Rattle.rd_policy.specs.declared.select.Select.TheVariants.{All as AllFiles, Slot, Prefix, User, Kind as OfType}
use Rattle.rd_policy.proofs.DateLemmas.{one_day}
use Rattle.rd_protocol.specs.DayTexts.{day_text}
use Rattle.rd_protocol.specs.Texts.{audience_words, deed_data, key_data, list_data, rule_data, select_data, takedown_data, text_or_null, texts}
use Rattle.rd_protocol.specs.StaffListLaws.{StaffListsTellAll, IsListable}
use Rattle.rd_protocol.specs.ReadableData.{AreReadable, IsReadable}
use Rattle.rd_protocol.specs.StaffLists.{accessions_under, deed_line, deed_lines, has_rules, key_lines, takedown_line, takedown_lines}
use Rattle.rd_holdings.specs.State.{Desk, digest_cmp, place_of, rules_at, terms_of}
use Rattle.rd_protocol.specs.declared.response.DeedLine.{DeedLine}
use Rattle.rd_protocol.specs.declared.response.KeyLine.{KeyLine}
use Rattle.rd_protocol.specs.declared.response.Reply.{Reply}
use Rattle.rd_protocol.specs.declared.response.TakedownLine.{TakedownLine}
use Rattle.rd_holdings.specs.declared.rows.DeedRow.{DeedRow}
use Rattle.rd_holdings.specs.declared.rows.ImageRow.{ImageRow}
use Rattle.rd_protocol.proofs.DayTextLemmas.{has_text}
use Rattle.rd_holdings.proofs.KeyOrders.{digest_order, number_order}
use Rattle.rd_protocol.proofs.LineLemmas.{from_filter, same_deeds, same_keys, same_rules}
use Rattle.rd_protocol.proofs.ReadableLemmas.{one_value}
use Rattle.rd_holdings.proofs.RulesFor.{stands_here}
use Rattle.rd_protocol.proofs.RuleTextLemmas.{rule_readable}
use Rattle.std.specs.Ordering.{nat_cmp}
use Rattle.rd_holdings.proofs.Members.{Has, entry_got, from_map}

-- ---- parts of a value

nth : ℕ → Members → Data
nth n no_members = null
nth zero (member key value ms) = value
nth (suc n) (member key value ms) = nth n ms

abbrev at : ℕ → Data → Data
at n (object ms) = nth n ms
at n other = null

abbrev items_in : Items → List Data
items_in no_items = []
items_in (item value items) = value ∷ items_in items

abbrev list_in : Data → List Data
list_in (array items) = items_in items
list_in other = []

abbrev text_in : Data → List ℕ
text_in (string text) = text
text_in other = []

abbrev number_in : Data → ℕ
number_in (number (unsigned n)) = n
number_in other = 0

abbrev key_in : Data → List ℕ
key_in (object (member key value ms)) = key
key_in other = []

items_same : (values : List Data) → items_in (items_of values) ≡ values
items_same [] = refl
items_same (value ∷ values) = ap (λ more. value ∷ more) (items_same values)

words_same : (words : List (List ℕ)) → map text_in (list_in (texts words)) ≡ words
words_same [] = refl
words_same (word ∷ words) = ap (λ more. word ∷ more) (words_same words)

first_letter : List ℕ → ℕ
first_letter word = get_or word 0 0

-- ---- words

effect_in : List ℕ → Effect
effect_in word = cond (get_or word 0 0 == 100) Deny (cond (get_or word 0 0 == 108) Listed Read)

effect_back : (effect : Effect) → effect_in (effect_word effect) ≡ effect
unfolding effect_in
effect_back Deny = refl
effect_back Listed = refl
effect_back Read = refl

audience_in : List ℕ → Audience
audience_in word = cond (get_or word 0 0 == 112) Public (cond (get_or word 0 0 == 114) Room Staff)

audience_back : (audience : Audience) → audience_in (audience_word audience) ≡ audience
unfolding audience_in
audience_back Public = refl
audience_back Room = refl
audience_back Staff = refl

abbrev flag : ℕ → List (List ℕ) → Bool
flag letter [] = false
flag letter (word ∷ words) = cond (get_or word 0 0 == letter) true (flag letter words)

set_in : List (List ℕ) → Audiences
set_in words = record { public = flag 112 words; room = flag 114 words; staff = flag 115 words }

flags_back : (public room staff : Bool) → set_in (audience_words (record { public = public; room = room; staff = staff })) ≡ record { public = public; room = room; staff = staff }
unfolding set_in
flags_back true true true = refl
flags_back true true false = refl
flags_back true false true = refl
flags_back true false false = refl
flags_back false true true = refl
flags_back false true false = refl
flags_back false false true = refl
flags_back false false false = refl

set_back : (set : Audiences) → set_in (audience_words set) ≡ set
set_back set = flags_back set.public set.room set.staff

select_in : Data → Select
select_in value =
    cond (get_or (key_in value) 0 0 == 97) AllFiles
    (cond (get_or (key_in value) 0 0 == 112) (Prefix (text_in (at 0 value)))
    (cond (get_or (key_in value) 0 0 == 115) (Slot (number_in (at 0 value)))
    (cond (get_or (key_in value) 0 0 == 117) (User (number_in (at 0 value))) (OfType (text_in (at 0 value))))))

select_back : (select : Select) → select_in (select_data select) ≡ select
unfolding select_in nth
select_back AllFiles = refl
select_back (Slot slot) = refl
select_back (Prefix text) = refl
select_back (User user) = refl
select_back (OfType text) = refl

-- selectors of the same value are the same
pub select_same : (one other : Select) → select_data one ≡ select_data other → one ≡ other
select_same one other same = sym (select_back one) ∙ ap select_in same ∙ select_back other

option_in : Data → Option (List ℕ)
option_in (string text) = Some text
option_in other = None

option_back : (text : Option (List ℕ)) → option_in (text_or_null text) ≡ text
unfolding option_in
option_back None = refl
option_back (Some text) = refl

same_text_day : (one other : ℤ) → IsDay one → IsDay other → day_text one ≡ day_text other → one ≡ other
same_text_day one other first second same = one_day (day_text one) one other (has_text one first) (subst (IsDateOf other) (sym same) (has_text other second))

same_day : (one other : Option ℤ) → IfSome one IsDay → IfSome other IsDay → option_map day_text one ≡ option_map day_text other → one ≡ other
same_day None None first second same = refl
same_day None (Some day) first second same = absurd cc
same_day (Some day) None first second same = absurd cc
same_day (Some one) (Some other) first second same = let text : day_text one ≡ day_text other = cc in ap Some (same_text_day one other first second text)

-- ---- lists

map_same : {A : Type 0} (f : A → Data) (P : A → Type 0) → ((x y : A) → P x → P y → f x ≡ f y → x ≡ y) → (xs ys : List A) → ((x : A) → Has xs x → P x) → ((y : A) → Has ys y → P y)
    → map f xs ≡ map f ys → xs ≡ ys
map_same f P one [] [] first second same = refl
map_same f P one [] (y ∷ ys) first second same = absurd cc
map_same f P one (x ∷ xs) [] first second same = absurd cc
map_same f P one (x ∷ xs) (y ∷ ys) first second same =
    let here : f x ≡ f y = cc in
    let rest : map f xs ≡ map f ys = cc in
    ap₂ (λ z zs. z ∷ zs) (one x y (first x (inl refl)) (second y (inl refl)) here)
    (map_same f P one xs ys (λ z there. first z (inr there)) (λ z there. second z (inr there)) rest)

-- ---- rules

-- A rule of a band and a scope.
record IsRuleAt (band : Band) (scope : ℕ) (rule : Rule) : Type 0 where
  lawful : IsRule rule
  of_band : rule.band ≡ band
  of_scope : rule.scope ≡ scope

same_rule : (band : Band) (scope : ℕ) (one other : Rule) → IsRuleAt band scope one → IsRuleAt band scope other → rule_data one ≡ rule_data other → one ≡ other
unfolding nth
same_rule band scope one other first second same =
    let of_band : one.band ≡ other.band = first.of_band ∙ sym second.of_band in
    let of_scope : one.scope ≡ other.scope = first.of_scope ∙ sym second.of_scope in
    let words : audience_words one.audiences ≡ audience_words other.audiences =
    sym (words_same (audience_words one.audiences)) ∙ ap (λ d. map text_in (list_in (at 0 d))) same ∙ words_same (audience_words other.audiences) in
    let audiences : one.audiences ≡ other.audiences = sym (set_back one.audiences) ∙ ap set_in words ∙ set_back other.audiences in
    let effect : one.effect ≡ other.effect = sym (effect_back one.effect) ∙ ap (λ d. effect_in (text_in (at 1 d))) same ∙ effect_back other.effect in
    let from : one.from ≡ other.from = same_day one.from other.from first.lawful.from second.lawful.from
    (sym (option_back (option_map day_text one.from)) ∙ ap (λ d. option_in (at 2 d)) same ∙ option_back (option_map day_text other.from)) in
    let rank : one.rank ≡ other.rank = ap (λ d. number_in (at 3 d)) same in
    let select : one.select ≡ other.select = sym (select_back one.select) ∙ ap (λ d. select_in (at 4 d)) same ∙ select_back other.select in
    let until : one.until ≡ other.until = same_day one.until other.until first.lawful.until second.lawful.until
    (sym (option_back (option_map day_text one.until)) ∙ ap (λ d. option_in (at 5 d)) same ∙ option_back (option_map day_text other.until)) in
    λ i. record { band = of_band i; scope = of_scope i; rank = rank i; audiences = audiences i; from = from i; until = until i; select = select i; effect = effect i }

same_rules_at : (band : Band) (scope : ℕ) (rules others : List Rule) → ((rule : Rule) → Has rules rule → IsRuleAt band scope rule) → ((rule : Rule) → Has others rule → IsRuleAt band scope rule)
    → array (items_of (map rule_data rules)) ≡ array (items_of (map rule_data others)) → rules ≡ others
same_rules_at band scope rules others first second same =
    map_same rule_data (IsRuleAt band scope) (same_rule band scope) rules others first second
    (sym (items_same (map rule_data rules)) ∙ ap list_in same ∙ items_same (map rule_data others))

-- ---- lines

-- A line of a deed in its limits.
record IsDeedLine (line : DeedLine) : Type 0 where
  signed : IsDay line.signed
  rules : (rule : Rule) → Has line.rules rule → IsRuleAt Deed line.deed rule

same_deed_line : (one other : DeedLine) → IsDeedLine one → IsDeedLine other → deed_data one ≡ deed_data other → one ≡ other
unfolding nth
same_deed_line one other first second same =
    let accessions : one.accessions ≡ other.accessions = ap (λ d. number_in (at 0 d)) same in
    let deed : one.deed ≡ other.deed = ap (λ d. number_in (at 1 d)) same in
    let donor : one.donor ≡ other.donor = ap (λ d. text_in (at 2 d)) same in
    let rules : one.rules ≡ other.rules = same_rules_at Deed one.deed one.rules other.rules first.rules
    (λ rule there. subst (λ n. IsRuleAt Deed n rule) (sym deed) (second.rules rule there)) (ap (at 3) same) in
    let signed : one.signed ≡ other.signed = same_text_day one.signed other.signed first.signed second.signed (ap (λ d. text_in (at 4 d)) same) in
    λ i. record { deed = deed i; donor = donor i; signed = signed i; accessions = accessions i; rules = rules i }

abbrev IsTakedownLine : TakedownLine → Type 0
IsTakedownLine line = (rule : Rule) → Has line.rules rule → IsRuleAt Takedown line.accession rule

same_takedown_line : (one other : TakedownLine) → IsTakedownLine one → IsTakedownLine other → takedown_data one ≡ takedown_data other → one ≡ other
unfolding nth
same_takedown_line one other first second same =
    let accession : one.accession ≡ other.accession = ap (λ d. number_in (at 0 d)) same in
    let rules : one.rules ≡ other.rules = same_rules_at Takedown one.accession one.rules other.rules first
    (λ rule there. subst (λ n. IsRuleAt Takedown n rule) (sym accession) (second rule there)) (ap (at 1) same) in
    λ i. record { accession = accession i; rules = rules i }

abbrev IsKeyLine : KeyLine → Type 0
IsKeyLine line = IsBytes line.digest

same_key_line : (one other : KeyLine) → IsKeyLine one → IsKeyLine other → key_data one ≡ key_data other → one ≡ other
unfolding nth
same_key_line one other first second same =
    let audience : one.audience ≡ other.audience = sym (audience_back one.audience) ∙ ap (λ d. audience_in (text_in (at 0 d))) same ∙ audience_back other.audience in
    let hex : encode_lower one.digest ≡ encode_lower other.digest = ap (λ d. text_in (at 1 d)) same in
    let both : ◌≡◌ {A = Result (List ℕ) FromHexError} (Ok one.digest) (Ok other.digest) = sym (decode_of-encode_lower one.digest first) ∙ ap decode_of hex ∙ decode_of-encode_lower other.digest second in
    let digest : one.digest ≡ other.digest = cc in
    λ i. record { digest = digest i; audience = audience i }

-- ---- the values can be read

each_readable : {A : Type 0} (most : ℕ) (f : A → Data) (xs : List A) → ((x : A) → Has xs x → IsReadable most (f x)) → AreReadable most (items_of (map f xs))
each_readable most f [] each = tt
each_readable most f (x ∷ xs) each = (each x (inl refl), each_readable most f xs (λ y there. each y (inr there)))

few_pass : (num : ℕ) (es : List (ℕ × ImageRow)) → count_by (λ e. e.1.deed == num) es ≤ length es
few_pass num es =
    let passes : ℕ × ImageRow → Bool = λ e. e.1.deed == num in
    let all = length-filter_both passes (λ e. not (passes e)) (λ e. refl) es in
    let some = length-filter passes es in
    omega (arith, all, some)

module _ (desk : Desk) (described : IsListable desk) where
  rule_at : (band : Band) (scope : ℕ) (rule : Rule) → Has (rules_at desk band scope) rule → IsRuleAt band scope rule
  rule_at band scope rule there =
      let is = stands_here desk band scope rule there in
      record { lawful = (described.lawful.rules (place_of rule) (terms_of rule) is.0).0; of_band = is.1; of_scope = is.2 }

  deed_at : (line : DeedLine) → Has (deed_lines desk) line → IsDeedLine line × IsReadable 4 (deed_data line)
  deed_at line there =
      let it = from_map (deed_line desk) (entries desk.deeds) line there in
      let is = described.lawful.deeds it.0.0 it.0.1 (entry_got nat_cmp number_order desk.deeds it.0.0 it.0.1 it.1) in
      subst (λ (l : DeedLine). IsDeedLine l × IsReadable 4 (deed_data l)) (sym it.2) (
        record { signed = is.signed; rules = rule_at Deed it.0.0 },
        (
          refl,
          (omega (arith, described.few, few_pass it.0.0 (entries desk.images))),
          (
            refl,
            (omega (arith, is.scope)),
            (
              refl,
              tt,
              (refl, each_readable 2 rule_data (rules_at desk Deed it.0.0) (λ rule here. rule_readable rule (rule_at Deed it.0.0 rule here).lawful), (refl, tt, tt)),
            ),
          ),
        ),
      )

  takedown_at : (line : TakedownLine) → Has (takedown_lines desk) line → IsTakedownLine line × IsReadable 4 (takedown_data line)
  takedown_at line there =
      let it = from_map (takedown_line desk) (entries desk.images) line (from_filter (λ (l : TakedownLine). has_rules l.rules) (map (takedown_line desk) (entries desk.images)) line there) in
      let is = (described.lawful.images it.0.0 it.0.1 (entry_got nat_cmp number_order desk.images it.0.0 it.0.1 it.1)).0 in
      subst (λ (l : TakedownLine). IsTakedownLine l × IsReadable 4 (takedown_data l)) (sym it.2) (
        rule_at Takedown it.0.0,
        (refl, (omega (arith, is.scope)), (refl, each_readable 2 rule_data (rules_at desk Takedown it.0.0) (λ rule here. rule_readable rule (rule_at Takedown it.0.0 rule here).lawful), tt)),
      )

  key_at : (line : KeyLine) → Has (key_lines desk) line → IsKeyLine line × IsReadable 4 (key_data line)
  key_at line there =
      let it = from_map (λ e. record { digest = e.0; audience = e.1 }) (entries desk.keys) line there in
      let is = described.digests it.0.0 it.0.1 (entry_got digest_cmp digest_order desk.keys it.0.0 it.0.1 it.1) in
      subst (λ (l : KeyLine). IsKeyLine l × IsReadable 4 (key_data l)) (sym it.2) (is, (refl, tt, (refl, tt, tt)))

-- replies with one list as their text have the same list
module _ {A : Type 0} (f : A → Data) (P : A → Type 0) (one : (x y : A) → P x → P y → f x ≡ f y → x ≡ y) where
  same_list : (key : List ℕ) (xs ys : List A) → ((x : A) → Has xs x → P x × IsReadable 4 (f x)) → ((y : A) → Has ys y → P y × IsReadable 4 (f y))
      → compact_text (list_data key f xs) ≡ compact_text (list_data key f ys) → xs ≡ ys
  unfolding nth
  same_list key xs ys first second same =
      let value = one_value 6 (list_data key f xs) (list_data key f ys) (omega arith)
      (refl, each_readable 4 f xs (λ x there. (first x there).1), tt) (refl, each_readable 4 f ys (λ y there. (second y there).1), tt) same in
      map_same f P one xs ys (λ x there. (first x there).0) (λ y there. (second y there).0)
      (sym (items_same (map f xs)) ∙ ap (λ d. list_in (at 0 d)) value ∙ items_same (map f ys))

-- two desks that tell the same have the same deeds, rules and keys
pub lists_tell_all : StaffListsTellAll
lists_tell_all desk other one two same =
    let deeds : deed_lines desk ≡ deed_lines other =
    same_list deed_data IsDeedLine same_deed_line (codes "deeds") (deed_lines desk) (deed_lines other) (deed_at desk one) (deed_at other two) (ap (λ (reply : Reply). reply.body.bytes) same.deeds) in
    let takedowns : takedown_lines desk ≡ takedown_lines other =
    same_list takedown_data IsTakedownLine same_takedown_line (codes "takedowns") (takedown_lines desk) (takedown_lines other) (takedown_at desk one) (takedown_at other two) (ap (λ (reply : Reply). reply.body.bytes) same.takedowns) in
    let keys : key_lines desk ≡ key_lines other =
    same_list key_data IsKeyLine same_key_line (codes "keys") (key_lines desk) (key_lines other) (key_at desk one) (key_at other two) (ap (λ (reply : Reply). reply.body.bytes) same.keys) in
    (same_deeds desk other deeds, same_rules desk other one.lawful two.lawful deeds takedowns, same_keys desk other keys)
