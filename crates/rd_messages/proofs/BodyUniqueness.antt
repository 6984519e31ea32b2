-- A body tells at most one deed, one desk key and one rule.
use Rattle.std.proofs.Common.{◌≡◌, ◌≢◌, ◌⊎◌, ◌∙◌, inl, inr, ℕ, ℤ, List, Option, Some, None, bytes_eq, true, option_and_then, codes, refl, sym, ap, subst}
use Rattle.std.proofs.lemmas.Option.{same_Some}
use Rattle.std.proofs.lemmas.Slice.Eq.{bytes_eq-Decides}
use Rattle.serde_json.specs.Data.{Data, array, null}
use Rattle.serde_json.specs.Find.{as_str, get}
use Rattle.serde_json.specs.View.{items_of}
use Rattle.rd_policy.specs.Dates.{IsDateOf}
use Rattle.rd_policy.specs.Rules.{effect_word}
use Rattle.rd_policy.specs.declared.audience.Audience.{Audience}
use Rattle.rd_policy.specs.declared.audience.Audiences.{Audiences}
use Rattle.rd_policy.specs.declared.rule.Band.{Band}
use Rattle.rd_policy.specs.declared.rule.Effect.{Effect}
use Rattle.rd_policy.specs.declared.rule.Effect.TheVariants as effect
use Rattle.rd_policy.specs.declared.rule.Rule.{Rule}
use Rattle.rd_policy.specs.declared.select.Select.{Select}
use Rattle.rd_policy.proofs.DateLemmas.{one_day}
use Rattle.rd_protocol.proofs.StaffListLemmas.{select_same}
use Rattle.rd_messages.specs.Objects.{IsJson, text_at}
use Rattle.rd_messages.specs.RequestBodies.{HasAudiencesAt, HasDayAt, HasPlace, IsDeedBody, IsKeyBody, IsRuleBody, NameAudiences, TellsDeed, TellsRule}
use Rattle.rd_messages.proofs.AudienceWords.{one_set, word_same}
use Rattle.rd_messages.proofs.JsonValues.{items_of_same, one_member_same}

-- a body is the text of one value
pub one_value : (body : List ℕ) (one other : Data) → IsJson body one → IsJson body other → one ≡ other
one_value body one other first second = same_Some one other (sym first.reads ∙ second.reads)

-- ---- deeds

-- Two deeds are one.
pub record SameDeed (donor other_donor : List ℕ) (signed other_signed : ℤ) : Type 0 where
  pub donors : donor ≡ other_donor
  pub days : signed ≡ other_signed

-- one day is that of the text
pub day_of_text : (value : Data) (key text other : List ℕ) (one another : ℤ) → text_at key value ≡ Some text → text_at key value ≡ Some other
    → IsDateOf one text → IsDateOf another other → one ≡ another
day_of_text value key text other one another first second day other_day =
    let same : text ≡ other = same_Some text other (sym first ∙ second) in
    one_day other one another (subst (IsDateOf one) same day) other_day

told_deed : (value : Data) (donor other_donor : List ℕ) (signed other_signed : ℤ)
    → TellsDeed value donor signed → TellsDeed value other_donor other_signed → SameDeed donor other_donor signed other_signed
told_deed value donor other_donor signed other_signed first second = record {
  donors = same_Some donor other_donor (sym first.donor_text ∙ second.donor_text);
  days = day_of_text value (codes "signed") first.date second.date signed other_signed first.signed_text second.signed_text first.day second.day;
}

-- a body tells one deed
pub one_deed : (body donor other_donor : List ℕ) (signed other_signed : ℤ)
    → IsDeedBody body donor signed → IsDeedBody body other_donor other_signed → SameDeed donor other_donor signed other_signed
one_deed body donor other_donor signed other_signed first second =
    told_deed second.value donor other_donor signed other_signed
    (subst (λ value. TellsDeed value donor signed) (one_value body first.value second.value first.json second.json) first.tells) second.tells

-- ---- keys

-- a body tells the audience of one desk key
pub one_key : (body : List ℕ) (one other : Audience) → IsKeyBody body one → IsKeyBody body other → one ≡ other
one_key body one other first second =
    let values = sym first.tells.written ∙ one_value body first.value second.value first.json second.json ∙ second.tells.written in
    word_same one other (one_member_same _ _ _ _ values).1

-- ---- rules

effect_alone : (one other : Effect) → bytes_eq (effect_word one) (effect_word other) ≡ true → one ≡ other
effect_alone effect.Deny effect.Deny e = refl
effect_alone effect.List effect.List e = refl
effect_alone effect.Read effect.Read e = refl
effect_alone one other e = absurd (cc)

effect_same : (one other : Effect) → effect_word one ≡ effect_word other → one ≡ other
effect_same one other e = effect_alone one other ((bytes_eq-Decides (effect_word one) (effect_word other)).1 e)

audiences_same : (key : List ℕ) (value : Data) (one other : Audiences) → HasAudiencesAt key value one → HasAudiencesAt key value other → one ≡ other
audiences_same key value one other first second =
    let arrays = same_Some (array (items_of first.values)) (array (items_of second.values)) (sym first.listed ∙ second.listed) in
    let items : items_of first.values ≡ items_of second.values = cc in
    let values = items_of_same first.values second.values items in
    one_set second.values one other (subst (λ values. NameAudiences values one) values first.audiences) second.audiences

-- no text stands where nothing or null does
pub no_text : (key : List ℕ) (value : Data) (text : List ℕ) → (get key value ≡ None) ⊎ (get key value ≡ Some null) → text_at key value ≢ Some text
no_text key value text (inl nothing) e = absurd (cc (sym (ap (option_and_then as_str) nothing) ∙ e))
no_text key value text (inr nil) e = absurd (cc (sym (ap (option_and_then as_str) nil) ∙ e))

day_same : (key : List ℕ) (value : Data) (one other : Option ℤ) → HasDayAt key value one → HasDayAt key value other → one ≡ other
day_same key value None None first second = refl
day_same key value None (Some day) first second = absurd (no_text key value second.0 first second.1)
day_same key value (Some day) None first second = absurd (no_text key value first.0 second first.1)
day_same key value (Some one) (Some other) first second =
    ap (λ day. Some day) (day_of_text value key first.0 second.0 one other first.1 second.1 first.2 second.2)

abbrev rule_with : Band → ℕ → ℕ → Audiences → Option ℤ → Option ℤ → Select → Effect → Rule
rule_with band scope rank audiences from until select effect = record {
  band = band;
  scope = scope;
  rank = rank;
  audiences = audiences;
  from = from;
  until = until;
  select = select;
  effect = effect;
}

told_rule : (value : Data) (band : Band) (scope rank : ℕ) (one other : Rule) → TellsRule value one → TellsRule value other
    → HasPlace band scope rank one → HasPlace band scope rank other → one ≡ other
told_rule value band scope rank one other first second at other_at =
    let bands : one.band ≡ other.band = at.of_band ∙ sym other_at.of_band in
    let scopes : one.scope ≡ other.scope = at.of_scope ∙ sym other_at.of_scope in
    let ranks : one.rank ≡ other.rank = at.of_rank ∙ sym other_at.of_rank in
    let sets = audiences_same (codes "audiences") value one.audiences other.audiences first.audiences second.audiences in
    let first_days = day_same (codes "from") value one.from other.from first.from second.from in
    let ends = day_same (codes "until") value one.until other.until first.until second.until in
    let selects = select_same one.select other.select (same_Some _ _ (sym first.select ∙ second.select)) in
    let effects = effect_same one.effect other.effect (same_Some _ _ (sym first.effect ∙ second.effect)) in
    let same : rule_with one.band one.scope one.rank one.audiences one.from one.until one.select one.effect
    ≡ rule_with other.band other.scope other.rank other.audiences other.from other.until other.select other.effect =
    rw (bands, scopes, ranks, sets, first_days, ends, selects, effects) refl in
    same

-- a body tells one rule of a band, scope and rank
pub one_rule : (band : Band) (scope rank : ℕ) (body : List ℕ) (one other : Rule)
    → IsRuleBody band scope rank body one → IsRuleBody band scope rank body other → one ≡ other
one_rule band scope rank body one other first second =
    told_rule second.value band scope rank one other
    (subst (λ value. TellsRule value one) (one_value body first.value second.value first.json second.json) first.tells) second.tells
    first.at second.at
