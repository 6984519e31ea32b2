-- Audiences by their words: a list of words read from its front.
use Rattle.std.proofs.Common.{◌≡◌, ◌≢◌, ◌↔◌, ◌⊎◌, ◌∙◌, inl, inr, ℕ, ◌<◌, List, [], ◌∷◌, ◌++◌, length, get_or, take, map, AllPairs, Bool, bytes_eq, true, false, Contains, IsTrue, refl, sym, ap, subst, arith}
use Rattle.std.proofs.Math.ListN.{get_or-map}
use Rattle.std.proofs.lemmas.List.{get_or_default, get_or-take, length-map, length-take, map-append, take-map}
use Rattle.std.proofs.lemmas.List.Elements.{Contains-append_left, Contains-push, Contains-push_cases}
use Rattle.std.proofs.lemmas.List.Quantifiers.{all_pairs_push}
use Rattle.std.proofs.lemmas.Slice.Eq.{bytes_eq-Decides}
use Rattle.serde_json.specs.Data.{Data, string}
use Rattle.rd_policy.specs.Audiences.{IsAmong, IsEmpty, audience_word}
use Rattle.rd_policy.specs.declared.audience.Audience.{Audience}
use Rattle.rd_policy.specs.declared.audience.Audience.TheVariants.{Public, Room, Staff}
use Rattle.rd_policy.specs.declared.audience.Audiences.{Audiences}
use Rattle.rd_messages.specs.RequestBodies.{NameAudiences}

-- the value that an audience is written as
abbrev pub word : Audience → Data
word audience = string (audience_word audience)

-- an audience has a word of its own
word_alone : (one other : Audience) → bytes_eq (audience_word one) (audience_word other) ≡ true → one ≡ other
word_alone Public Public e = refl
word_alone Room Room e = refl
word_alone Staff Staff e = refl
word_alone one other e = absurd (cc)

pub word_same : (one other : Audience) → word one ≡ word other → one ≡ other
word_same one other e =
    let texts : audience_word one ≡ audience_word other = cc in
    word_alone one other ((bytes_eq-Decides (audience_word one) (audience_word other)).1 texts)

-- and a list of them is known by its words
words_same : (one other : List Audience) → map word one ≡ map word other → one ≡ other
words_same [] [] e = refl
words_same [] (other ∷ others) e = absurd (cc)
words_same (one ∷ ones) [] e = absurd (cc)
words_same (one ∷ ones) (other ∷ others) e =
    let words : word one ≡ word other = cc in
    let rest : map word ones ≡ map word others = cc in
    let first = word_same one other words in
    let more = words_same ones others rest in
    cc

-- The values are the words of audiences, none twice, in any order; the set has these. There may be none.
pub record Names (values : List Data) (set : Audiences) : Type 0 where
  pub named : List Audience
  pub written : values ≡ map word named
  pub once : AllPairs ◌≢◌ named
  pub members : (audience : Audience) → IsAmong set audience ↔ Contains named audience

abbrev pub NOBODY : Audiences
NOBODY = record { public = false; room = false; staff = false }

nobody_there : (audience : Audience) → ¬ IsAmong NOBODY audience
nobody_there Public e = absurd (cc)
nobody_there Room e = absurd (cc)
nobody_there Staff e = absurd (cc)

-- no words name the empty set
pub names_none : Names [] NOBODY
names_none = record {
  named = [];
  written = refl;
  once = λ i j d before inside. absurd (omega arith);
  members = λ audience. (λ among. absurd (nobody_there audience among), λ has. absurd (omega (arith, has.1)));
}

-- one word more names one audience more
pub names_more : (values : List Data) (value : Data) (set after : Audiences) (audience : Audience)
    → Names values set → value ≡ word audience → ¬ IsAmong set audience
    → ((other : Audience) → IsAmong after other ↔ (IsAmong set other ⊎ (audience ≡ other)))
    → Names (values ++ value ∷ []) after
names_more values value set after audience so_far is fresh grows = record {
  named = so_far.named ++ audience ∷ [];
  written = rw (map-append word so_far.named (audience ∷ []), is, so_far.written) refl;
  once = all_pairs_push ◌≢◌ so_far.named audience so_far.once
      (λ k d inside same. fresh ((so_far.members audience).1 (k, inside, get_or_default so_far.named k audience d inside ∙ same)));
  members = λ other. (
    λ among. elim ((grows other).0 among) as (λ _. Contains (so_far.named ++ audience ∷ []) other) [
      | inl before ↦ Contains-append_left so_far.named (audience ∷ []) other ((so_far.members other).0 before)
      | inr same ↦ subst (Contains (so_far.named ++ audience ∷ [])) same (Contains-push so_far.named audience)
    ],
    λ has. elim (Contains-push_cases so_far.named audience other has) as (λ _. IsAmong after other) [
      | inl before ↦ (grows other).1 (inl ((so_far.members other).1 before))
      | inr same ↦ (grows other).1 (inr same)
    ],
  );
}

-- nobody is in an empty set
none_among : (set : Audiences) → IsEmpty set → (audience : Audience) → ¬ IsAmong set audience
none_among set empty Public = empty.0
none_among set empty Room = empty.1
none_among set empty Staff = empty.2

nobody_named : (named : List Audience) → ((audience : Audience) → ¬ Contains named audience) → named ≡ []
nobody_named [] none = refl
nobody_named (audience ∷ named) none = absurd (none audience (0, omega arith, refl))

-- words that name a set that is not empty name audiences
pub names_all : (values : List Data) (set : Audiences) → Names values set → ¬ IsEmpty set → NameAudiences values set
names_all values set names some = record {
  named = names.named;
  written = names.written;
  some = λ none.
      let nobody = λ (audience : Audience) (among : IsAmong set audience).
      let has : Contains names.named audience = (names.members audience).0 among in
      let gone = subst (λ named. Contains named audience) none has in
      let false_place : ⊥ = omega (arith, gone.1) in false_place in
      some (nobody Public, nobody Room, nobody Staff);
  once = names.once;
  members = names.members;
}

-- values of which one is no word name no audiences
pub no_word : (values : List Data) (i : ℕ) (value : Data) (set : Audiences) → i < length values → get_or values i value ≡ value
    → ((audience : Audience) → value ≢ word audience) → ¬ NameAudiences values set
no_word values i value set inside at not_word names =
    not_word (get_or names.named i Public)
    (sym at ∙ get_or_default values i value (word Public) inside ∙ ap (λ vs. get_or vs i (word Public)) names.written ∙ get_or-map word names.named i Public)

-- values of which one is the word of an audience that was named before name no audiences
pub named_twice : (values : List Data) (i : ℕ) (value : Data) (before set : Audiences) (audience : Audience)
    → i < length values → get_or values i value ≡ value → value ≡ word audience
    → Names (take i values) before → IsAmong before audience → ¬ NameAudiences values set
named_twice values i value before set audience inside at is so_far among names =
    let long : length values ≡ length names.named = ap length names.written ∙ length-map names.named word in
    let front : so_far.named ≡ take i names.named =
    words_same so_far.named (take i names.named) (sym so_far.written ∙ ap (take i) names.written ∙ take-map word i names.named) in
    let has : Contains (take i names.named) audience = subst (λ named. Contains named audience) front ((so_far.members audience).0 among) in
    let early : has.0 < i = omega (arith, has.1, length-take i names.named) in
    let first : get_or names.named has.0 audience ≡ audience = sym (get_or-take i names.named has.0 audience early) ∙ has.2 in
    let here : word (get_or names.named i Public) ≡ word audience =
    sym (get_or-map word names.named i Public) ∙ ap (λ vs. get_or vs i (word Public)) (sym names.written)
    ∙ get_or_default values i (word Public) value inside ∙ at ∙ is in
    let second : get_or names.named i audience ≡ audience =
    get_or_default names.named i audience Public (omega (arith, long, inside)) ∙ word_same (get_or names.named i Public) audience here in
    names.once has.0 i audience early (omega (arith, long, inside)) (first ∙ sym second)

-- values that name the empty set name no audiences
pub names_nobody : (values : List Data) (empty set : Audiences) → Names values empty → IsEmpty empty → ¬ NameAudiences values set
names_nobody values empty set so_far nobody names =
    let same : names.named ≡ so_far.named = words_same names.named so_far.named (sym names.written ∙ so_far.written) in
    names.some (same ∙ nobody_named so_far.named (λ audience has. none_among empty nobody audience ((so_far.members audience).1 has)))

-- an audience is in both sets or in neither
abbrev SameAmong : Audiences → Audiences → Type 0
SameAmong one other = (audience : Audience) → IsAmong one audience ↔ IsAmong other audience

same_bool : (a b : Bool) → (IsTrue a → IsTrue b) → (IsTrue b → IsTrue a) → a ≡ b
same_bool true b f g = sym (f refl)
same_bool false true f g = g refl
same_bool false false f g = refl

abbrev set_of : Bool → Bool → Bool → Audiences
set_of public room staff = record { public = public; room = room; staff = staff }

same_set : (one other : Audiences) → SameAmong one other → one ≡ other
same_set one other same =
    let public : one.public ≡ other.public = same_bool one.public other.public (same Public).0 (same Public).1 in
    let room : one.room ≡ other.room = same_bool one.room other.room (same Room).0 (same Room).1 in
    let staff : one.staff ≡ other.staff = same_bool one.staff other.staff (same Staff).0 (same Staff).1 in
    let parts : set_of one.public one.room one.staff ≡ set_of other.public other.room other.staff = rw (public, room, staff) refl in
    parts

-- values name one set of audiences
pub one_set : (values : List Data) (one other : Audiences) → NameAudiences values one → NameAudiences values other → one ≡ other
one_set values one other first second =
    let same : first.named ≡ second.named = words_same first.named second.named (sym first.written ∙ second.written) in
    same_set one other (λ audience. (
      λ among. (second.members audience).1 (subst (λ named. Contains named audience) same ((first.members audience).0 among)),
      λ among. (first.members audience).1 (subst (λ named. Contains named audience) (sym same) ((second.members audience).0 among)),
    ))
