-- An entry within its limits has a line of its own.
use Rattle.std.proofs.Common.{◌≡◌, ◌∙◌, ◌==◌, ℕ, zero, suc, ℤ, pos, negsuc, List, [], ◌∷◌, Bool, bytes_eq, codes, true, false, cond, IfSome, Ok, Option, None, Some, Result, ap, arith, get_or, map, option_map, refl, subst, sym}
use Rattle.std.specs.List.{list_any}
use Rattle.hex.specs.Hex.{decode_of, encode_lower}
use Rattle.hex.specs.declared.error.FromHexError.{FromHexError}
use Rattle.hex.proofs.HexLemmas.{decode_of-encode_lower}
use Rattle.serde_json.specs.Data.{Data, null, number, unsigned, negative, string, array, object, Items, no_items, item, Members, no_members, member}
use Rattle.serde_json.specs.Read.{read}
use Rattle.rd_geometry.specs.Kinds.{word_of}
use Rattle.rd_geometry.specs.declared.kind.Kind.{Kind}
use Rattle.rd_geometry.specs.declared.kind.Kind.TheVariants.{Cpm8, D64, D64e}
use Rattle.rd_policy.proofs.DateLemmas.{one_day}
use Rattle.rd_policy.specs.Audiences.{audience_word}
use Rattle.rd_policy.specs.Dates.{IsDateOf}
use Rattle.rd_policy.specs.Days.{IsDay}
use Rattle.rd_policy.specs.Rules.{IsRule, effect_word}
use Rattle.rd_policy.specs.declared.audience.Audience.{Audience}
use Rattle.rd_policy.specs.declared.audience.Audience.TheVariants.{Public, Room, Staff}
use Rattle.rd_policy.specs.declared.audience.Audiences.{Audiences}
use Rattle.rd_policy.specs.declared.rule.Band.{Band}
use Rattle.rd_policy.specs.declared.rule.Band.TheVariants.{Takedown, Deed as OfDeed}
use Rattle.rd_policy.specs.declared.rule.Effect.{Effect}
use Rattle.rd_policy.specs.declared.rule.Effect.TheVariants.{Deny, List as Listed, Read}
use Rattle.rd_policy.specs.declared.rule.Rule.{Rule as NewRule}
use Rattle.rd_protocol.specs.DayTexts.{day_text}
use Rattle.rd_protocol.specs.Texts.{audience_words, rule_data, text_or_null, texts}
use Rattle.rd_protocol.proofs.DayTextLemmas.{has_text}
use Rattle.rd_protocol.proofs.StaffListLemmas.{select_same}
use Rattle.rd_history.specs.Entries.{HasDigests, IsChange, IsDigest, IsEntry, TellsDigests, cause_word}
use Rattle.rd_history.specs.Laws.{LinesAreEntries}
use Rattle.rd_history.specs.Lines.{change_data, drop_data, entry_data, integer, put_data}
use Rattle.rd_history.specs.declared.entry.Cause.{Cause}
use Rattle.rd_history.specs.declared.entry.Cause.TheVariants.{NoAccession, NoDeed, WrongSize, DigestDiffers, Conflict, Unavailable, Lost}
use Rattle.rd_history.specs.declared.entry.Change.{Change}
use Rattle.rd_history.specs.declared.entry.Change.TheVariants.{Begin, Deed, Image, Rule, DropRule, Key, DropKey, Void}
use Rattle.rd_history.specs.declared.entry.Entry.{Entry}
use Rattle.rd_history.proofs.LineLemmas.{entry_read_back}

-- ---- parts of a value

nth : ℕ → Members → Data
nth n no_members = null
nth zero (member key value ms) = value
nth (suc n) (member key value ms) = nth n ms

-- the value of an object's member at a place
abbrev at : ℕ → Data → Data
at n (object ms) = nth n ms
at n other = null

-- the same of the object that is the value of an object's one member
abbrev within : ℕ → Data → Data
within n value = at n (at 0 value)

abbrev items_in : Items → List Data
items_in no_items = []
items_in (item value items) = value ∷ items_in items

abbrev list_in : Data → List Data
list_in (array items) = items_in items
list_in other = []

abbrev text_in : Data → List ℕ
text_in (string text) = text
text_in other = []

abbrev number_in : Data → ℕ
number_in (number (unsigned n)) = n
number_in other = 0

abbrev integer_in : Data → ℤ
integer_in (number (unsigned n)) = pos n
integer_in (number (negative z)) = z
integer_in other = pos 0

abbrev pub key_in : Data → List ℕ
key_in (object (member key value ms)) = key
key_in other = []

abbrev pub letter : ℕ → Data → ℕ
letter n value = get_or (key_in value) n 0

integer_back : (z : ℤ) → integer_in (integer z) ≡ z
integer_back (pos n) = refl
integer_back (negsuc n) = refl

words_back : (words : List (List ℕ)) → map text_in (list_in (texts words)) ≡ words
words_back [] = refl
words_back (word ∷ words) = ap (λ more. word ∷ more) (words_back words)

option_in : Data → Option (List ℕ)
option_in (string text) = Some text
option_in other = None

option_back : (text : Option (List ℕ)) → option_in (text_or_null text) ≡ text
unfolding option_in
option_back None = refl
option_back (Some text) = refl

-- ---- words

pub kind_in : List ℕ → Kind
kind_in word = cond (get_or word 0 0 == 99) Cpm8 (cond (get_or word 3 0 == 101) D64e D64)

pub kind_back : (kind : Kind) → kind_in (word_of kind) ≡ kind
unfolding kind_in
kind_back Cpm8 = refl
kind_back D64 = refl
kind_back D64e = refl

pub effect_in : List ℕ → Effect
effect_in word = cond (get_or word 0 0 == 100) Deny (cond (get_or word 0 0 == 108) Listed Read)

pub effect_back : (effect : Effect) → effect_in (effect_word effect) ≡ effect
unfolding effect_in
effect_back Deny = refl
effect_back Listed = refl
effect_back Read = refl

pub audience_in : List ℕ → Audience
audience_in word = cond (get_or word 0 0 == 112) Public (cond (get_or word 0 0 == 114) Room Staff)

pub audience_back : (audience : Audience) → audience_in (audience_word audience) ≡ audience
unfolding audience_in
audience_back Public = refl
audience_back Room = refl
audience_back Staff = refl

pub cause_in : List ℕ → Cause
cause_in word =
    cond (get_or word 0 0 == 119) WrongSize
    (cond (get_or word 0 0 == 100) DigestDiffers
    (cond (get_or word 0 0 == 99) Conflict
    (cond (get_or word 0 0 == 117) Unavailable (cond (get_or word 0 0 == 108) Lost (cond (get_or word 3 0 == 97) NoAccession NoDeed)))))

pub cause_back : (cause : Cause) → cause_in (cause_word cause) ≡ cause
unfolding cause_in
cause_back NoAccession = refl
cause_back NoDeed = refl
cause_back WrongSize = refl
cause_back DigestDiffers = refl
cause_back Conflict = refl
cause_back Unavailable = refl
cause_back Lost = refl

-- ---- digests and days

same_digest : (one other : List ℕ) → IsDigest one → IsDigest other → encode_lower one ≡ encode_lower other → one ≡ other
same_digest one other first second same =
    let both : ◌≡◌ {A = Result (List ℕ) FromHexError} (Ok one) (Ok other) = sym (decode_of-encode_lower one first.1) ∙ ap decode_of same ∙ decode_of-encode_lower other second.1 in
    cc

same_badge : (one other : Option (List ℕ)) → IfSome one IsDigest → IfSome other IsDigest → option_map encode_lower one ≡ option_map encode_lower other → one ≡ other
same_badge None None first second same = refl
same_badge None (Some digest) first second same = absurd cc
same_badge (Some digest) None first second same = absurd cc
same_badge (Some one) (Some other) first second same = let text : encode_lower one ≡ encode_lower other = cc in ap Some (same_digest one other first second text)

same_day : (one other : ℤ) → IsDay one → IsDay other → day_text one ≡ day_text other → one ≡ other
same_day one other first second same = one_day (day_text one) one other (has_text one first) (subst (IsDateOf other) (sym same) (has_text other second))

same_day_if : (one other : Option ℤ) → IfSome one IsDay → IfSome other IsDay → option_map day_text one ≡ option_map day_text other → one ≡ other
same_day_if None None first second same = refl
same_day_if None (Some day) first second same = absurd cc
same_day_if (Some day) None first second same = absurd cc
same_day_if (Some one) (Some other) first second same = let text : day_text one ≡ day_text other = cc in ap Some (same_day one other first second text)

-- ---- rules

-- the word is one of the words
abbrev pub has : List ℕ → List (List ℕ) → Bool
has word words = list_any (λ other. bytes_eq other word) words

abbrev pub set_in : List (List ℕ) → Audiences
set_in words = record { public = has (codes "public") words; room = has (codes "room") words; staff = has (codes "staff") words }

flags_back : (public room staff : Bool) → set_in (audience_words (record { public = public; room = room; staff = staff })) ≡ record { public = public; room = room; staff = staff }
flags_back true true true = refl
flags_back true true false = refl
flags_back true false true = refl
flags_back true false false = refl
flags_back false true true = refl
flags_back false true false = refl
flags_back false false true = refl
flags_back false false false = refl

pub set_back : (set : Audiences) → set_in (audience_words set) ≡ set
set_back set = flags_back set.public set.room set.staff

same_rule : (one other : NewRule) → IsRule one → IsRule other → one.band ≡ other.band → one.scope ≡ other.scope → rule_data one ≡ rule_data other → one ≡ other
unfolding nth
same_rule one other first second band scope same =
    let words : audience_words one.audiences ≡ audience_words other.audiences =
    sym (words_back (audience_words one.audiences)) ∙ ap (λ d. map text_in (list_in (at 0 d))) same ∙ words_back (audience_words other.audiences) in
    let audiences : one.audiences ≡ other.audiences = sym (set_back one.audiences) ∙ ap set_in words ∙ set_back other.audiences in
    let effect : one.effect ≡ other.effect = sym (effect_back one.effect) ∙ ap (λ d. effect_in (text_in (at 1 d))) same ∙ effect_back other.effect in
    let from : one.from ≡ other.from = same_day_if one.from other.from first.from second.from
    (sym (option_back (option_map day_text one.from)) ∙ ap (λ d. option_in (at 2 d)) same ∙ option_back (option_map day_text other.from)) in
    let rank : one.rank ≡ other.rank = ap (λ d. number_in (at 3 d)) same in
    let select : one.select ≡ other.select = select_same one.select other.select (ap (at 4) same) in
    let until : one.until ≡ other.until = same_day_if one.until other.until first.until second.until
    (sym (option_back (option_map day_text one.until)) ∙ ap (λ d. option_in (at 5 d)) same ∙ option_back (option_map day_text other.until)) in
    λ i. record { band = band i; scope = scope i; rank = rank i; audiences = audiences i; from = from i; until = until i; select = select i; effect = effect i }

abbrev pub band_in : ℕ → Data → Band
band_in n value = cond (letter n value == 116) Takedown OfDeed

pub put_band : (band : Band) (rule : NewRule) → band_in 0 (put_data band rule) ≡ band
put_band Takedown rule = refl
put_band OfDeed rule = refl

put_scope : (band : Band) (rule : NewRule) → number_in (within 0 (put_data band rule)) ≡ rule.scope
unfolding nth
put_scope Takedown rule = refl
put_scope OfDeed rule = refl

put_rule : (band : Band) (rule : NewRule) → within 1 (put_data band rule) ≡ rule_data rule
unfolding nth
put_rule Takedown rule = refl
put_rule OfDeed rule = refl

pub drop_band : (band : Band) (scope rank : ℕ) → band_in 5 (drop_data band scope rank) ≡ band
drop_band Takedown scope rank = refl
drop_band OfDeed scope rank = refl

drop_scope : (band : Band) (scope rank : ℕ) → number_in (within 0 (drop_data band scope rank)) ≡ scope
unfolding nth
drop_scope Takedown scope rank = refl
drop_scope OfDeed scope rank = refl

drop_rank : (band : Band) (scope rank : ℕ) → number_in (within 1 (drop_data band scope rank)) ≡ rank
unfolding nth
drop_rank Takedown scope rank = refl
drop_rank OfDeed scope rank = refl

-- ---- changes

-- a number for each variant
abbrev pub tag : Change → ℕ
tag (Begin count) = 0
tag (Deed num donor signed) = 1
tag (Image acc kind deed digest) = 2
tag (Rule rule) = 3
tag (DropRule band scope rank) = 4
tag (Key digest audience) = 5
tag (DropKey digest) = 6
tag (Void cause) = 7

-- by letters of its key
abbrev pub data_tag : Data → ℕ
data_tag value =
    cond (letter 0 value == 98) 0
    (cond (letter 0 value == 105) 2
    (cond (letter 0 value == 114) 3
    (cond (letter 0 value == 116) 3
    (cond (letter 0 value == 107) 5 (cond (letter 0 value == 118) 7 (cond (letter 1 value == 101) 1 (cond (letter 5 value == 107) 6 4)))))))

put_tag : (band : Band) (rule : NewRule) → data_tag (put_data band rule) ≡ 3
put_tag Takedown rule = refl
put_tag OfDeed rule = refl

drop_tag : (band : Band) (scope rank : ℕ) → data_tag (drop_data band scope rank) ≡ 4
drop_tag Takedown scope rank = refl
drop_tag OfDeed scope rank = refl

pub tagged : (change : Change) → data_tag (change_data change) ≡ tag change
tagged (Begin count) = refl
tagged (Deed num donor signed) = refl
tagged (Image acc kind deed digest) = refl
tagged (Rule rule) = put_tag rule.band rule
tagged (DropRule band scope rank) = drop_tag band scope rank
tagged (Key digest audience) = refl
tagged (DropKey digest) = refl
tagged (Void cause) = refl

by_tag : (a b : Change) → tag a ≡ tag b → IsChange a → IsChange b → TellsDigests a → TellsDigests b → change_data a ≡ change_data b → a ≡ b
unfolding nth
by_tag (Begin count) (Begin count2) tags one other first second same =
    ap (λ d. Begin (number_in (at 0 d))) same
by_tag (Begin count) next tags one other first second same = absurd (omega (arith, tags))
by_tag (Deed num donor signed) (Deed num2 donor2 signed2) tags one other first second same =
    let number : num ≡ num2 = ap (λ d. number_in (within 0 d)) same in
    let name : donor ≡ donor2 = ap (λ d. text_in (within 1 d)) same in
    let day : signed ≡ signed2 = same_day signed signed2 one.signed other.signed (ap (λ d. text_in (within 2 d)) same) in
    λ i. Deed (number i) (name i) (day i)
by_tag (Deed num donor signed) next tags one other first second same = absurd (omega (arith, tags))
by_tag (Image acc kind deed digest) (Image acc2 kind2 deed2 digest2) tags one other first second same =
    let number : acc ≡ acc2 = ap (λ d. number_in (within 0 d)) same in
    let under : deed ≡ deed2 = ap (λ d. number_in (within 1 d)) same in
    let bytes : digest ≡ digest2 = same_digest digest digest2 first second (ap (λ d. text_in (within 2 d)) same) in
    let of_kind : kind ≡ kind2 = sym (kind_back kind) ∙ ap (λ d. kind_in (text_in (within 3 d))) same ∙ kind_back kind2 in
    λ i. Image (number i) (of_kind i) (under i) (bytes i)
by_tag (Image acc kind deed digest) next tags one other first second same = absurd (omega (arith, tags))
by_tag (Rule rule) (Rule rule2) tags one other first second same =
    let band : rule.band ≡ rule2.band = sym (put_band rule.band rule) ∙ ap (band_in 0) same ∙ put_band rule2.band rule2 in
    let scope : rule.scope ≡ rule2.scope = sym (put_scope rule.band rule) ∙ ap (λ d. number_in (within 0 d)) same ∙ put_scope rule2.band rule2 in
    let terms : rule_data rule ≡ rule_data rule2 = sym (put_rule rule.band rule) ∙ ap (within 1) same ∙ put_rule rule2.band rule2 in
    ap Rule (same_rule rule rule2 one other band scope terms)
by_tag (Rule rule) next tags one other first second same = absurd (omega (arith, tags))
by_tag (DropRule band scope rank) (DropRule band2 scope2 rank2) tags one other first second same =
    let of_band : band ≡ band2 = sym (drop_band band scope rank) ∙ ap (band_in 5) same ∙ drop_band band2 scope2 rank2 in
    let of_scope : scope ≡ scope2 = sym (drop_scope band scope rank) ∙ ap (λ d. number_in (within 0 d)) same ∙ drop_scope band2 scope2 rank2 in
    let of_rank : rank ≡ rank2 = sym (drop_rank band scope rank) ∙ ap (λ d. number_in (within 1 d)) same ∙ drop_rank band2 scope2 rank2 in
    λ i. DropRule (of_band i) (of_scope i) (of_rank i)
by_tag (DropRule band scope rank) next tags one other first second same = absurd (omega (arith, tags))
by_tag (Key digest audience) (Key digest2 audience2) tags one other first second same =
    let of_audience : audience ≡ audience2 = sym (audience_back audience) ∙ ap (λ d. audience_in (text_in (within 0 d))) same ∙ audience_back audience2 in
    let bytes : digest ≡ digest2 = same_digest digest digest2 first second (ap (λ d. text_in (within 1 d)) same) in
    λ i. Key (bytes i) (of_audience i)
by_tag (Key digest audience) next tags one other first second same = absurd (omega (arith, tags))
by_tag (DropKey digest) (DropKey digest2) tags one other first second same =
    ap DropKey (same_digest digest digest2 first second (ap (λ d. text_in (within 0 d)) same))
by_tag (DropKey digest) next tags one other first second same = absurd (omega (arith, tags))
by_tag (Void cause) (Void cause2) tags one other first second same =
    ap Void (sym (cause_back cause) ∙ ap (λ d. cause_in (text_in (at 0 d))) same ∙ cause_back cause2)
by_tag (Void cause) next tags one other first second same = absurd (omega (arith, tags))

same_change : (a b : Change) → IsChange a → IsChange b → TellsDigests a → TellsDigests b → change_data a ≡ change_data b → a ≡ b
same_change a b one other first second same = by_tag a b (sym (tagged a) ∙ ap data_tag same ∙ tagged b) one other first second same

-- ---- entries

same_entry : (a b : Entry) → IsEntry a → IsEntry b → HasDigests a → HasDigests b → entry_data a ≡ entry_data b → a ≡ b
unfolding nth
same_entry a b one other first second same =
    let badge : a.badge ≡ b.badge = same_badge a.badge b.badge first.0 second.0
    (sym (option_back (option_map encode_lower a.badge)) ∙ ap (λ d. option_in (at 0 d)) same ∙ option_back (option_map encode_lower b.badge)) in
    let change : a.change ≡ b.change = same_change a.change b.change one.change other.change first.1 second.1 (ap (at 1) same) in
    let moment : a.moment ≡ b.moment = sym (integer_back a.moment) ∙ ap (λ d. integer_in (at 2 d)) same ∙ integer_back b.moment in
    let note : a.note ≡ b.note = ap (λ d. text_in (at 3 d)) same in
    let number : a.number ≡ b.number = ap (λ d. number_in (at 4 d)) same in
    let staff : a.staff ≡ b.staff = ap (λ d. text_in (at 5 d)) same in
    λ i. record { badge = badge i; change = change i; moment = moment i; note = note i; number = number i; staff = staff i }

abbrev data_in : Option Data → Data
data_in None = null
data_in (Some value) = value

pub lines_are_entries : LinesAreEntries
lines_are_entries one other first second of_one of_other same =
    let values : Some (entry_data one) ≡ Some (entry_data other) = sym (entry_read_back one first) ∙ ap read same ∙ entry_read_back other second in
    same_entry one other first second of_one of_other (ap data_in values)
