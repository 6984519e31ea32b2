-- A row that shows what it may spells a lawful entry, and a lawful entry shows what it may.
use Rattle.rd_store.proofs.Common.{◌≡◌, ◌≢◌, ◌⊎◌, inl, inr, ℕ, zero, suc, ◌≤◌, pos, List, [], ◌∷◌, length, Bool, true, false, ◌&&◌, ◌||◌, get_or, refl, sym, ap, subst, ◌∙◌, arith, true≢false, Value, Null, Int, Real, Text, Blob, Row, column, bytes, Length, TypeOf, size_of, IsPlainText, IsSelect, Audience, Public, Room, Staff, Band, Takedown, Deed, Effect, Deny, Read, Select, Slot, Prefix, User, Outcome, Sound, Changed, entry_of, IsSpelled, natural, both, kind_code, kind_in, band_in, effect_code, effect_in, audiences_code, audiences_in, audience_code, audience_in, outcome_code, outcome_in, how, number, word, select_in, deed_spelling, image_spelling, marks_spelling, rule_spelling, key_spelling, check_spelling, IsDeed, IsKey, AreMarksOf, IsImageOf, IsRuleOf, IsCheckOf, StandsAmong, is_number, is_one_of, is_size_of, blob_name, is_band, HasParts, IsDeedRow, IsImageRow, IsMarksRow, IsSelectAt, IsRuleRow, IsKeyRow, IsCheckRow, image_read, band_code}
use Rattle.sqlite_sql.specs.Ops.{unary}
use Rattle.rd_policy.specs.Audiences.{IsEmpty}
use Rattle.rd_policy.specs.declared.rule.Effect.TheVariants.{List as Listed}
use Rattle.rd_policy.specs.declared.select.Select.TheVariants.{All as AllFiles, Kind as OfKind}
use Rattle.rd_store.proofs.ColumnValues.{number_spelled, number_shown, one_of_spelled, one_of_shown, day_spelled, day_shown, some_day_spelled, some_day_shown, digest_spelled, digest_shown, donor_spelled, word_spelled}

either : (a b : Bool) → (a || b) ≡ true → (a ≡ true) ⊎ (b ≡ true)
either true b is = inl refl
either false b is = inr is

all_of : (a b c : Bool) → (a && b && c) ≡ true → (a ≡ true) × (b ≡ true) × (c ≡ true)
all_of true true c is = (refl, refl, is)
all_of true false c is = absurd (true≢false (sym is))
all_of false b c is = absurd (true≢false (sym is))

-- ---- deeds

pub deed_to : (row : Row) → IsDeedRow (column row 0 ∷ column row 2 ∷ column row 3 ∷ []) → IsSpelled deed_spelling row × IsDeed (entry_of deed_spelling row).0 (entry_of deed_spelling row).1
deed_to row q =
    let num = number_spelled 1 999_999 (column row 0) q.num in
    let donor = donor_spelled (column row 2) q.donor in
    let signed = day_spelled (column row 3) q.signed in
    (λ i. num.0 i ∷ donor.0 i ∷ signed.0 i ∷ [], record { scope = (num.1, num.2); donor = donor.1; signed = signed.1 })

pub deed_from : (row : Row) → IsSpelled deed_spelling row → IsDeed (entry_of deed_spelling row).0 (entry_of deed_spelling row).1 → IsDeedRow (column row 0 ∷ column row 2 ∷ column row 3 ∷ [])
deed_from row is lawful =
    subst IsDeedRow (sym is) (record { num = number_shown 1 999_999 (entry_of deed_spelling row).0 lawful.scope.0 lawful.scope.1; donor = lawful.donor; signed = day_shown (entry_of deed_spelling row).1.signed lawful.signed })

-- ---- images

letter : Value → ℕ
letter v = get_or (bytes v) 0 0

-- the names of the types begin with different letters
blob_spelled : (v : Value) → unary TypeOf v ≡ Text blob_name → v ≡ Blob (bytes v)
unfolding unary letter
blob_spelled (Blob b) is = refl
blob_spelled Null is = let e : 110 ≡ 98 = ap letter is in absurd (omega (arith, e))
blob_spelled (Int n) is = let e : 105 ≡ 98 = ap letter is in absurd (omega (arith, e))
blob_spelled (Real x) is = let e : 114 ≡ 98 = ap letter is in absurd (omega (arith, e))
blob_spelled (Text t) is = let e : 116 ≡ 98 = ap letter is in absurd (omega (arith, e))

type_of_blob : (b : List ℕ) → unary TypeOf (Blob b) ≡ Text blob_name
unfolding unary
type_of_blob b = refl

length_of_blob : (b : List ℕ) → unary Length (Blob b) ≡ Int (pos (length b))
unfolding unary
length_of_blob b = refl

kind_back : (code : ℕ) → code ≤ 1 → kind_code (kind_in code) ≡ code
kind_back zero low = refl
kind_back (suc zero) low = refl
kind_back (suc (suc code)) low = absurd (omega (arith, low))

size_is : (kind : Value) (n : ℕ) → is_size_of kind (Int (pos n)) ≡ true → (kind ≡ Int (pos (kind_code (kind_in (natural kind))))) × (n ≡ size_of (kind_in (natural kind)))
size_is kind n is = elim (either (is_number 0 0 kind && is_number 256_256 256_256 (Int (pos n))) (is_number 1 1 kind && is_number 174_848 174_848 (Int (pos n))) is) [
  | inl first ↦
      let parts = both (is_number 0 0 kind) (is_number 256_256 256_256 (Int (pos n))) first in
      let code = number_spelled 0 0 kind parts.0 in
      let size = number_spelled 256_256 256_256 (Int (pos n)) parts.1 in
      let zero_code : natural kind ≡ 0 = omega (arith, code.2) in
      (code.0 ∙ ap (λ c. Int (pos c)) (sym (kind_back (natural kind) (omega (arith, code.2)))), subst (λ c. n ≡ size_of (kind_in c)) (sym zero_code) (omega (arith, size.1, size.2)))
  | inr second ↦
      let parts = both (is_number 1 1 kind) (is_number 174_848 174_848 (Int (pos n))) second in
      let code = number_spelled 1 1 kind parts.0 in
      let size = number_spelled 174_848 174_848 (Int (pos n)) parts.1 in
      let one_code : natural kind ≡ 1 = omega (arith, code.1, code.2) in
      (code.0 ∙ ap (λ c. Int (pos c)) (sym (kind_back (natural kind) (omega (arith, code.2)))), subst (λ c. n ≡ size_of (kind_in c)) (sym one_code) (omega (arith, size.1, size.2)))
]

is_size : (code n : ℕ) → n ≡ size_of (kind_in code) → is_size_of (Int (pos (kind_code (kind_in code)))) (Int (pos n)) ≡ true
is_size zero n is = rw is refl
is_size (suc code) n is = rw is refl

pub image_to : (deeds : List ℕ) (row : Row) → IsImageRow deeds (image_read row) → IsSpelled image_spelling row × IsImageOf deeds (entry_of image_spelling row)
image_to deeds row q =
    let acc = number_spelled 1 999_999 (column row 0) q.acc in
    let deed = one_of_spelled deeds (column row 3) q.deed in
    let digest = digest_spelled (column row 4) q.digest in
    let blob = blob_spelled (column row 5) q.kind_of in
    let size = size_is (column row 2) (length (bytes (column row 5))) (subst (λ v. is_size_of (column row 2) v ≡ true) (ap (unary Length) blob ∙ length_of_blob (bytes (column row 5))) q.size) in
    (λ i. acc.0 i ∷ size.0 i ∷ deed.0 i ∷ digest.0 i ∷ blob i ∷ [], (record { scope = (acc.1, acc.2); digest = digest.1; bytes = size.1 }, deed.1))

pub image_from : (deeds : List ℕ) (row : Row) → IsSpelled image_spelling row → IsImageOf deeds (entry_of image_spelling row) → IsImageRow deeds (image_read row)
image_from deeds row is lawful =
    let e = entry_of image_spelling row in
    subst (λ s. IsImageRow deeds (column s 0 ∷ column s 1 ∷ column s 2 ∷ column s 3 ∷ unary Length (column s 4) ∷ unary TypeOf (column s 4) ∷ column s 4 ∷ [])) (sym is) (record {
      acc = number_shown 1 999_999 e.0 lawful.0.scope.0 lawful.0.scope.1;
      deed = one_of_shown deeds e.1.deed lawful.1;
      digest = digest_shown e.1.digest lawful.0.digest;
      size = subst (λ v. is_size_of (Int (pos (kind_code e.1.kind))) v ≡ true) (sym (length_of_blob e.1.bytes)) (is_size (natural (column row 2)) (length e.1.bytes) lawful.0.bytes);
      kind_of = type_of_blob e.1.bytes;
    })

-- ---- error bytes

-- what a listing shows of error bytes
abbrev pub marks_listed : Row → Row
marks_listed row = column row 0 ∷ unary Length (column row 2) ∷ unary TypeOf (column row 2) ∷ []

pub marks_to : (accessions : List ℕ) (row : Row) → IsMarksRow accessions (marks_listed row) → IsSpelled marks_spelling row × AreMarksOf accessions (entry_of marks_spelling row)
marks_to accessions row q =
    let acc = one_of_spelled accessions (column row 0) q.acc in
    let blob = blob_spelled (column row 2) q.kind_of in
    let count = number_spelled 683 683 (Int (pos (length (bytes (column row 2))))) (subst (λ v. is_number 683 683 v ≡ true) (ap (unary Length) blob ∙ length_of_blob (bytes (column row 2))) q.count) in
    (λ i. acc.0 i ∷ blob i ∷ [], (omega (arith, count.1, count.2), acc.1))

pub marks_from : (accessions : List ℕ) (row : Row) → IsSpelled marks_spelling row → AreMarksOf accessions (entry_of marks_spelling row) → IsMarksRow accessions (marks_listed row)
marks_from accessions row is lawful =
    let e = entry_of marks_spelling row in
    subst (λ s. IsMarksRow accessions (column s 0 ∷ unary Length (column s 1) ∷ unary TypeOf (column s 1) ∷ [])) (sym is) (record {
      acc = one_of_shown accessions e.0 lawful.1;
      count = subst (λ v. is_number 683 683 v ≡ true) (sym (length_of_blob e.1)) (number_shown 683 683 (length e.1) (omega (arith, lawful.0)) (omega (arith, lawful.0)));
      kind_of = type_of_blob e.1;
    })

-- ---- rules

band_back : (code : ℕ) → code ≤ 1 → band_code (band_in code) ≡ code
band_back zero low = refl
band_back (suc zero) low = refl
band_back (suc (suc code)) low = absurd (omega (arith, low))

effect_back : (code : ℕ) → code ≤ 2 → effect_code (effect_in code) ≡ code
effect_back zero low = refl
effect_back (suc zero) low = refl
effect_back (suc (suc zero)) low = refl
effect_back (suc (suc (suc code))) low = absurd (omega (arith, low))

audiences_back : (code : ℕ) → 1 ≤ code → code ≤ 7 → (audiences_code (audiences_in code) ≡ code) × ¬ IsEmpty (audiences_in code)
audiences_back zero some low = absurd (omega (arith, some))
audiences_back (suc zero) some low = (refl, λ empty. empty.0 refl)
audiences_back (suc (suc zero)) some low = (refl, λ empty. empty.1 refl)
audiences_back (suc (suc (suc zero))) some low = (refl, λ empty. empty.0 refl)
audiences_back (suc (suc (suc (suc zero)))) some low = (refl, λ empty. empty.2 refl)
audiences_back (suc (suc (suc (suc (suc zero))))) some low = (refl, λ empty. empty.0 refl)
audiences_back (suc (suc (suc (suc (suc (suc zero)))))) some low = (refl, λ empty. empty.1 refl)
audiences_back (suc (suc (suc (suc (suc (suc (suc zero))))))) some low = (refl, λ empty. empty.0 refl)
audiences_back (suc (suc (suc (suc (suc (suc (suc (suc code)))))))) some low = absurd (omega (arith, low))

audiences_shown : (public room staff : Bool) → ¬ IsEmpty (record { public = public; room = room; staff = staff }) → is_number 1 7 (Int (pos (audiences_code (record { public = public; room = room; staff = staff })))) ≡ true
audiences_shown true true true some = refl
audiences_shown true true false some = refl
audiences_shown true false true some = refl
audiences_shown true false false some = refl
audiences_shown false true true some = refl
audiences_shown false true false some = refl
audiences_shown false false true some = refl
audiences_shown false false false some = absurd (some (λ here. true≢false (sym here), λ here. true≢false (sym here), λ here. true≢false (sym here)))

no_word : (text : List ℕ) → length text ≤ 0 → text ≡ []
no_word [] low = refl
no_word (x ∷ text) low = absurd (omega (arith, low))

-- a selector is spelled by three columns
pub record IsSelectSpelled (h n w : Value) : Type 0 where
  pub how_is : h ≡ Int (pos (how (select_in (natural h) (natural n) (bytes w))))
  pub number_is : n ≡ Int (pos (number (select_in (natural h) (natural n) (bytes w))))
  pub word_is : w ≡ Text (word (select_in (natural h) (natural n) (bytes w)))
  pub lawful : IsSelect (select_in (natural h) (natural n) (bytes w))

-- what one of its sorts says of the three columns
pub record IsPartsSpelled (sort most longest : ℕ) (h n w : Value) : Type 0 where
  pub how_is : h ≡ Int (pos sort)
  pub number_is : n ≡ Int (pos (natural n))
  pub few : natural n ≤ most
  pub word_is : w ≡ Text (bytes w)
  pub plain : IsPlainText longest (bytes w)

parts_spelled : (sort most longest : ℕ) (h n w : Value) → HasParts sort most longest h n w → IsPartsSpelled sort most longest h n w
parts_spelled sort most longest h n w parts =
    let first = number_spelled sort sort h parts.0 in
    let second = number_spelled 0 most n parts.1 in
    let third = word_spelled longest w parts.2 in
    let code : natural h ≡ sort = omega (arith, first.1, first.2) in
    record { how_is = first.0 ∙ ap (λ c. Int (pos c)) code; number_is = second.0; few = second.2; word_is = third.0; plain = third.1 }

module _ (h n w : Value) where
  abbrev no_number : {most longest sort : ℕ} → IsPartsSpelled sort most longest h n w → natural n ≡ 0 → n ≡ Int (pos 0)
  no_number parts none = parts.number_is ∙ ap (λ c. Int (pos c)) none

  abbrev empty_word : {most sort : ℕ} → IsPartsSpelled sort most 0 h n w → w ≡ Text []
  empty_word parts = parts.word_is ∙ ap Text (no_word (bytes w) parts.plain.few)

  is_all : IsPartsSpelled 0 0 0 h n w → IsSelectSpelled h n w
  is_all parts = subst (λ v. IsSelectSpelled v n w) (sym parts.how_is) (record { how_is = refl; number_is = no_number parts (omega (arith, parts.few)); word_is = empty_word parts; lawful = tt })

  is_slot : IsPartsSpelled 1 9_999 0 h n w → IsSelectSpelled h n w
  is_slot parts = subst (λ v. IsSelectSpelled v n w) (sym parts.how_is) (record { how_is = refl; number_is = parts.number_is; word_is = empty_word parts; lawful = parts.few })

  is_prefix : IsPartsSpelled 2 0 64 h n w → IsSelectSpelled h n w
  is_prefix parts = subst (λ v. IsSelectSpelled v n w) (sym parts.how_is) (record { how_is = refl; number_is = no_number parts (omega (arith, parts.few)); word_is = parts.word_is; lawful = parts.plain })

  is_user : IsPartsSpelled 3 15 0 h n w → IsSelectSpelled h n w
  is_user parts = subst (λ v. IsSelectSpelled v n w) (sym parts.how_is) (record { how_is = refl; number_is = parts.number_is; word_is = empty_word parts; lawful = parts.few })

  is_kind : IsPartsSpelled 4 0 16 h n w → IsSelectSpelled h n w
  is_kind parts = subst (λ v. IsSelectSpelled v n w) (sym parts.how_is) (record { how_is = refl; number_is = no_number parts (omega (arith, parts.few)); word_is = parts.word_is; lawful = parts.plain })

  select_spelled : IsSelectAt h n w → IsSelectSpelled h n w
  select_spelled (inl parts) = is_all (parts_spelled 0 0 0 h n w parts)
  select_spelled (inr (inl parts)) = is_slot (parts_spelled 1 9_999 0 h n w parts)
  select_spelled (inr (inr (inl parts))) = is_prefix (parts_spelled 2 0 64 h n w parts)
  select_spelled (inr (inr (inr (inl parts)))) = is_user (parts_spelled 3 15 0 h n w parts)
  select_spelled (inr (inr (inr (inr parts)))) = is_kind (parts_spelled 4 0 16 h n w parts)

no_text : IsPlainText 0 []
no_text = record { few = omega arith; plain = λ k d low. absurd (omega (arith, low)) }

select_shown : (select : Select) → IsSelect select → IsSelectAt (Int (pos (how select))) (Int (pos (number select))) (Text (word select))
select_shown AllFiles lawful = inl (refl, refl, no_text)
select_shown (Slot slot) lawful = inr (inl (refl, number_shown 0 9_999 slot (omega arith) lawful, no_text))
select_shown (Prefix text) lawful = inr (inr (inl (refl, refl, lawful)))
select_shown (User user) lawful = inr (inr (inr (inl (refl, number_shown 0 15 user (omega arith) lawful, no_text))))
select_shown (OfKind text) lawful = inr (inr (inr (inr (refl, refl, lawful))))

-- a band, the number for which a rule stands in it, and an effect that it may have
pub record IsBandSpelled (accessions deeds : List ℕ) (band scope effect : Value) : Type 0 where
  pub band_is : band ≡ Int (pos (band_code (band_in (natural band))))
  pub scope_is : scope ≡ Int (pos (natural scope))
  pub effect_is : effect ≡ Int (pos (effect_code (effect_in (natural effect))))
  pub stands : StandsAmong accessions deeds (band_in (natural band)) (natural scope)
  pub takedown : band_in (natural band) ≡ Takedown → effect_in (natural effect) ≢ Read

denies : (code : ℕ) → code ≤ 1 → effect_in code ≢ Read
denies zero low is = absurd cc
denies (suc zero) low is = absurd cc
denies (suc (suc code)) low is = absurd (omega (arith, low))

band_spelled : (accessions deeds : List ℕ) (band scope effect : Value) → is_band accessions deeds band scope effect ≡ true → IsBandSpelled accessions deeds band scope effect
band_spelled accessions deeds band scope effect is = elim (either (is_number 0 0 band && is_one_of accessions scope && is_number 0 1 effect) (is_number 1 1 band && is_one_of deeds scope && is_number 0 2 effect) is) [
  | inl first ↦
      let parts = all_of (is_number 0 0 band) (is_one_of accessions scope) (is_number 0 1 effect) first in
      let code = number_spelled 0 0 band parts.0 in
      let one = one_of_spelled accessions scope parts.1 in
      let low = number_spelled 0 1 effect parts.2 in
      let is_zero : natural band ≡ 0 = omega (arith, code.2) in
      record {
        band_is = code.0 ∙ ap (λ c. Int (pos c)) (sym (band_back (natural band) (omega (arith, code.2))));
        scope_is = one.0;
        effect_is = low.0 ∙ ap (λ c. Int (pos c)) (sym (effect_back (natural effect) (omega (arith, low.2))));
        stands = subst (λ c. StandsAmong accessions deeds (band_in c) (natural scope)) (sym is_zero) one.1;
        takedown = λ _. denies (natural effect) low.2;
      }
  | inr second ↦
      let parts = all_of (is_number 1 1 band) (is_one_of deeds scope) (is_number 0 2 effect) second in
      let code = number_spelled 1 1 band parts.0 in
      let one = one_of_spelled deeds scope parts.1 in
      let low = number_spelled 0 2 effect parts.2 in
      let is_one : natural band ≡ 1 = omega (arith, code.1, code.2) in
      record {
        band_is = code.0 ∙ ap (λ c. Int (pos c)) (sym (band_back (natural band) (omega (arith, code.2))));
        scope_is = one.0;
        effect_is = low.0 ∙ ap (λ c. Int (pos c)) (sym (effect_back (natural effect) low.2));
        stands = subst (λ c. StandsAmong accessions deeds (band_in c) (natural scope)) (sym is_one) one.1;
        takedown = λ takes. absurd (no_takedown (natural band) is_one takes);
      }
]
  where
    no_takedown : (code : ℕ) → code ≡ 1 → band_in code ≡ Takedown → ⊥
    no_takedown zero is takes = absurd (omega (arith, is))
    no_takedown (suc code) is takes = absurd cc

band_shown : (accessions deeds : List ℕ) (band : Band) (scope : ℕ) (effect : Effect) → StandsAmong accessions deeds band scope → (band ≡ Takedown → effect ≢ Read) → is_band accessions deeds (Int (pos (band_code band))) (Int (pos scope)) (Int (pos (effect_code effect))) ≡ true
band_shown accessions deeds Takedown scope Deny stands takedown = rw (one_of_shown accessions scope stands) refl
band_shown accessions deeds Takedown scope Listed stands takedown = rw (one_of_shown accessions scope stands) refl
band_shown accessions deeds Takedown scope Read stands takedown = absurd (takedown refl refl)
band_shown accessions deeds Deed scope Deny stands takedown = rw (one_of_shown deeds scope stands) refl
band_shown accessions deeds Deed scope Listed stands takedown = rw (one_of_shown deeds scope stands) refl
band_shown accessions deeds Deed scope Read stands takedown = rw (one_of_shown deeds scope stands) refl

-- what a listing shows of a rule
abbrev pub rule_listed : Row → Row
rule_listed row = column row 0 ∷ column row 1 ∷ column row 2 ∷ column row 3 ∷ column row 4 ∷ column row 5 ∷ column row 6 ∷ column row 7 ∷ column row 8 ∷ column row 9 ∷ column row 10 ∷ []

pub rule_to : (accessions deeds : List ℕ) (row : Row) → IsRuleRow accessions deeds (rule_listed row) → IsSpelled rule_spelling row × IsRuleOf accessions deeds (entry_of rule_spelling row)
rule_to accessions deeds row q =
    let band = band_spelled accessions deeds (column row 1) (column row 2) (column row 10) q.band in
    let scope = number_spelled 1 999_999 (column row 2) q.scope in
    let rank = number_spelled 1 9_999 (column row 3) q.rank in
    let set = number_spelled 1 7 (column row 4) q.audiences in
    let audiences = audiences_back (natural (column row 4)) set.1 set.2 in
    let from = some_day_spelled (column row 5) q.from in
    let until = some_day_spelled (column row 6) q.until in
    let select = select_spelled (column row 7) (column row 8) (column row 9) q.select in
    let set_is = set.0 ∙ ap (λ c. Int (pos c)) (sym audiences.0) in (
      λ i. band.band_is i ∷ scope.0 i ∷ rank.0 i ∷ set_is i ∷ from.0 i ∷ until.0 i ∷ select.how_is i ∷ select.number_is i ∷ select.word_is i ∷ band.effect_is i ∷ [],
      (
        record { scope = (scope.1, scope.2); rank = (rank.1, rank.2); audiences = audiences.1; from = from.1; until = until.1; select = select.lawful; takedown = band.takedown },
        band.stands,
      ),
    )

pub rule_from : (accessions deeds : List ℕ) (row : Row) → IsSpelled rule_spelling row → IsRuleOf accessions deeds (entry_of rule_spelling row) → IsRuleRow accessions deeds (rule_listed row)
rule_from accessions deeds row is lawful =
    let e = entry_of rule_spelling row in
    subst (λ s. IsRuleRow accessions deeds (column row 0 ∷ s)) (sym is) (record {
      band = band_shown accessions deeds e.0.band e.0.scope e.1.effect lawful.1 lawful.0.takedown;
      scope = number_shown 1 999_999 e.0.scope lawful.0.scope.0 lawful.0.scope.1;
      rank = number_shown 1 9_999 e.0.rank lawful.0.rank.0 lawful.0.rank.1;
      audiences = audiences_shown e.1.audiences.public e.1.audiences.room e.1.audiences.staff lawful.0.audiences;
      from = some_day_shown e.1.from lawful.0.from;
      until = some_day_shown e.1.until lawful.0.until;
      select = select_shown e.1.select lawful.0.select;
    })

-- ---- desk keys

audience_back : (code : ℕ) → 1 ≤ code → code ≤ 2 → (audience_code (audience_in code) ≡ code) × (audience_in code ≢ Public)
audience_back zero some low = absurd (omega (arith, some))
audience_back (suc zero) some low = (refl, λ is. absurd cc)
audience_back (suc (suc zero)) some low = (refl, λ is. absurd cc)
audience_back (suc (suc (suc code))) some low = absurd (omega (arith, low))

audience_shown : (audience : Audience) → audience ≢ Public → is_number 1 2 (Int (pos (audience_code audience))) ≡ true
audience_shown Public some = absurd (some refl)
audience_shown Room some = refl
audience_shown Staff some = refl

-- what a listing shows of a key
abbrev pub key_listed : Row → Row
key_listed row = column row 0 ∷ column row 1 ∷ column row 2 ∷ []

pub key_to : (row : Row) → IsKeyRow (key_listed row) → IsSpelled key_spelling row × IsKey (entry_of key_spelling row).0 (entry_of key_spelling row).1
key_to row q =
    let digest = digest_spelled (column row 1) q.digest in
    let code = number_spelled 1 2 (column row 2) q.audience in
    let audience = audience_back (natural (column row 2)) code.1 code.2 in
    let audience_is = code.0 ∙ ap (λ c. Int (pos c)) (sym audience.0) in
    (λ i. digest.0 i ∷ audience_is i ∷ [], record { length_is = digest.1; not_public = audience.1 })

pub key_from : (row : Row) → IsSpelled key_spelling row → IsKey (entry_of key_spelling row).0 (entry_of key_spelling row).1 → IsKeyRow (key_listed row)
key_from row is lawful =
    subst (λ s. IsKeyRow (column row 0 ∷ s)) (sym is) (record { digest = digest_shown (entry_of key_spelling row).0 lawful.length_is; audience = audience_shown (entry_of key_spelling row).1 lawful.not_public })

-- ---- checks

outcome_back : (code : ℕ) → code ≤ 1 → outcome_code (outcome_in code) ≡ code
outcome_back zero low = refl
outcome_back (suc zero) low = refl
outcome_back (suc (suc code)) low = absurd (omega (arith, low))

outcome_shown : (outcome : Outcome) → is_number 0 1 (Int (pos (outcome_code outcome))) ≡ true
outcome_shown Sound = refl
outcome_shown Changed = refl

-- what a listing shows of a check
abbrev pub check_listed : Row → Row
check_listed row = column row 0 ∷ column row 1 ∷ column row 2 ∷ column row 3 ∷ []

pub check_to : (accessions : List ℕ) (row : Row) → IsCheckRow accessions (check_listed row) → IsSpelled check_spelling row × IsCheckOf accessions (entry_of check_spelling row)
check_to accessions row q =
    let acc = one_of_spelled accessions (column row 1) q.acc in
    let day = day_spelled (column row 2) q.day in
    let code = number_spelled 0 1 (column row 3) q.outcome in
    let outcome_is = code.0 ∙ ap (λ c. Int (pos c)) (sym (outcome_back (natural (column row 3)) code.2)) in
    (λ i. acc.0 i ∷ day.0 i ∷ outcome_is i ∷ [], (day.1, acc.1))

pub check_from : (accessions : List ℕ) (row : Row) → IsSpelled check_spelling row → IsCheckOf accessions (entry_of check_spelling row) → IsCheckRow accessions (check_listed row)
check_from accessions row is lawful =
    let e = entry_of check_spelling row in
    subst (λ s. IsCheckRow accessions (column row 0 ∷ s)) (sym is) (record { acc = one_of_shown accessions e.0.acc lawful.1; day = day_shown e.0.day lawful.0; outcome = outcome_shown e.1 })
