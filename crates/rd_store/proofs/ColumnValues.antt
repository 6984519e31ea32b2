-- What a column shows, and the value that it spells.
use Rattle.rd_store.proofs.Common.{◌≡◌, inl, inr, ℕ, ℤ, ◌≤◌, pos, negsuc, List, [], ◌∷◌, length, true, false, not, ◌&&◌, ◌||◌, int_lt, Some, None, Option, refl, arith, IfSome, cases_Bool, nat_tests, Value, Null, Int, Real, Text, Blob, or_null, bytes, id_in, Has, IsPlainText, natural, day_in, IsDonor, is_number, is_one_of, is_day, is_some_day, is_digest, IsDonorAt, IsWordAt}
use Rattle.rd_policy.specs.Days.{IsDay}

pub number_spelled : (low high : ℕ) (v : Value) → is_number low high v ≡ true → (v ≡ Int (pos (natural v))) × (low ≤ natural v) × (natural v ≤ high)
number_spelled low high (Int (pos n)) is = (refl, grind (arith, nat_tests, is), grind (arith, nat_tests, is))
number_spelled low high (Int (negsuc n)) is = absurd cc
number_spelled low high Null is = absurd cc
number_spelled low high (Real x) is = absurd cc
number_spelled low high (Text t) is = absurd cc
number_spelled low high (Blob b) is = absurd cc

pub number_shown : (low high n : ℕ) → low ≤ n → n ≤ high → is_number low high (Int (pos n)) ≡ true
number_shown low high n above below = grind (arith, nat_tests)

pub one_of_spelled : (numbers : List ℕ) (v : Value) → is_one_of numbers v ≡ true → (v ≡ Int (pos (natural v))) × Has numbers (natural v)
one_of_spelled [] v is = absurd cc
one_of_spelled (one ∷ numbers) v is = elim (cases_Bool (is_number one one v)) [
  | inl here ↦ let it = number_spelled one one v here in (it.0, inl (omega (arith, it.1, it.2)))
  | inr other ↦ let it = one_of_spelled numbers v (rw other at is) in (it.0, inr it.1)
]

pub one_of_shown : (numbers : List ℕ) (n : ℕ) → Has numbers n → is_one_of numbers (Int (pos n)) ≡ true
one_of_shown [] n here = absurd here
one_of_shown (one ∷ numbers) n (inl is) = rw (number_shown one one n (omega (arith, is)) (omega (arith, is))) refl
one_of_shown (one ∷ numbers) n (inr there) = elim (is_number one one (Int (pos n))) as (λ b. (b || is_one_of numbers (Int (pos n))) ≡ true) [ true ↦ refl | false ↦ one_of_shown numbers n there ]

day_bounds : (day : ℤ) → (not (int_lt day (negsuc 719_161)) && not (int_lt (pos 2_932_896) day)) ≡ true → IsDay day
day_bounds day is = (grind (arith, nat_tests, is), grind (arith, nat_tests, is))

bounds_day : (day : ℤ) → IsDay day → (not (int_lt day (negsuc 719_161)) && not (int_lt (pos 2_932_896) day)) ≡ true
bounds_day day is = grind (arith, nat_tests, is)

pub day_spelled : (v : Value) → is_day v ≡ true → (v ≡ Int (id_in v)) × IsDay (id_in v)
day_spelled (Int day) is = (refl, day_bounds day is)
day_spelled Null is = absurd cc
day_spelled (Real x) is = absurd cc
day_spelled (Text t) is = absurd cc
day_spelled (Blob b) is = absurd cc

pub day_shown : (day : ℤ) → IsDay day → is_day (Int day) ≡ true
day_shown day is = bounds_day day is

pub some_day_spelled : (v : Value) → is_some_day v ≡ true → (v ≡ or_null Int (day_in v)) × IfSome (day_in v) IsDay
some_day_spelled Null is = (refl, tt)
some_day_spelled (Int day) is = (refl, day_bounds day is)
some_day_spelled (Real x) is = absurd cc
some_day_spelled (Text t) is = absurd cc
some_day_spelled (Blob b) is = absurd cc

pub some_day_shown : (day : Option ℤ) → IfSome day IsDay → is_some_day (or_null Int day) ≡ true
some_day_shown None is = refl
some_day_shown (Some day) is = bounds_day day is

pub digest_spelled : (v : Value) → is_digest v ≡ true → (v ≡ Blob (bytes v)) × (length (bytes v) ≡ 32)
digest_spelled (Blob b) is = (refl, grind (arith, nat_tests, is))
digest_spelled Null is = absurd cc
digest_spelled (Int n) is = absurd cc
digest_spelled (Real x) is = absurd cc
digest_spelled (Text t) is = absurd cc

pub digest_shown : (b : List ℕ) → length b ≡ 32 → is_digest (Blob b) ≡ true
digest_shown b is = rw is refl

pub donor_spelled : (v : Value) → IsDonorAt v → (v ≡ Text (bytes v)) × IsDonor (bytes v)
donor_spelled (Text t) is = (refl, is)
donor_spelled Null is = absurd is
donor_spelled (Int n) is = absurd is
donor_spelled (Real x) is = absurd is
donor_spelled (Blob b) is = absurd is

pub word_spelled : (most : ℕ) (v : Value) → IsWordAt most v → (v ≡ Text (bytes v)) × IsPlainText most (bytes v)
word_spelled most (Text t) is = (refl, is)
word_spelled most Null is = absurd is
word_spelled most (Int n) is = absurd is
word_spelled most (Real x) is = absurd is
word_spelled most (Blob b) is = absurd is
