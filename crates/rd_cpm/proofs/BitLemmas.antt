-- The bits of a number below 128 that is a sum of weights.
use Rattle.std.proofs.Common.{◌≡◌, ◌≢◌, ◌∙◌, ◌↔◌, ◌+◌, ◌*◌, ◌/◌, ◌%◌, ◌<◌, ◌≤◌, ℕ, Bool, true, false, IsTrue, cond, eqb, eq-eqb, eqb-true, bit_and, arith, refl, sym}
use Rattle.std.proofs.Common.{List, Any, IsBitSet, inl, inr}
use Rattle.std.proofs.lemmas.Bool.{agree_below_at, cases_eq}
use Rattle.std.specs.Int.Bits.{and_zero_l}
use Rattle.rd_cpm.specs.Entries.{rc_of}
use Rattle.rd_cpm.specs.Gathered.{LacksPredecessor, EndsEarly, AreTwice, IsHole, SomePlace, IsOffDiskIn, IsCrossedIn}
use Rattle.rd_cpm.specs.EntryTests.{AreFaultBits}

-- the digit of a flag
pub digit : Bool → ℕ
digit true = 1
digit false = 0

digit-bound : (b : Bool) → digit b ≤ 1
unfolding digit
digit-bound true = omega arith
digit-bound false = omega arith

-- a weight where the flag is set is the weight times the digit
pub weighed : (b : Bool) (m w : ℕ) → w ≡ cond b m 0 → w ≡ m * digit b
unfolding digit
weighed true m w is = omega arith
weighed false m w is = omega arith

digit_test : (b : Bool) → IsTrue b ↔ (digit b ≢ 0)
unfolding digit
digit_test true = (λ _ none. let z : 1 ≡ 0 = none in absurd (omega arith), λ _. refl)
digit_test false = (λ t. let wrong : false ≡ true = t in absurd (cc), λ some. absurd (some refl))

-- two tests that agree tell of the same
same_zero : (x y : ℕ) → eqb x 0 ≡ eqb y 0 → (x ≢ 0) ↔ (y ≢ 0)
same_zero x y same = (
  λ some none. some (eqb-true _ _ (same ∙ eq-eqb y 0 none)),
  λ some none. some (eqb-true _ _ (sym same ∙ eq-eqb x 0 none)),
)

-- the bit of weight m is set exactly where the flag of its digit is
told_bit : {P : Type 0} (n m : ℕ) (b : Bool) → eqb (bit_and n m) 0 ≡ eqb (n / m % 2) 0 → n / m % 2 ≡ digit b → IsTrue b ↔ P → (bit_and n m ≢ 0) ↔ P
told_bit n m b agree is test =
    let same = same_zero (bit_and n m) (n / m % 2) agree in (
      λ set. test.0 ((digit_test b).1 (λ none. same.0 set (is ∙ none))),
      λ fact. same.1 (λ none. (digit_test b).0 (test.1 fact) (sym is ∙ none)),
    )

-- The bits of a number tell of seven facts, and it has no others.
pub record TellSeven (A B C D E F G : Type 0) (n : ℕ) : Type 0 where
  pub bit_0 : IsBitSet n 0 ↔ A
  pub bit_1 : IsBitSet n 1 ↔ B
  pub bit_2 : IsBitSet n 2 ↔ C
  pub bit_3 : IsBitSet n 3 ↔ D
  pub bit_4 : IsBitSet n 4 ↔ E
  pub bit_5 : IsBitSet n 5 ↔ F
  pub bit_6 : IsBitSet n 6 ↔ G
  pub no_other : n < 128

-- What seven tests tell is told by the sum of the weights of those that answer true.
pub seven : {A B C D E F G : Type 0} (a b c d e f g : Bool) (n : ℕ)
    → n ≡ digit a + 2 * digit b + 4 * digit c + 8 * digit d + 16 * digit e + 32 * digit f + 64 * digit g
    → IsTrue a ↔ A → IsTrue b ↔ B → IsTrue c ↔ C → IsTrue d ↔ D → IsTrue e ↔ E → IsTrue f ↔ F → IsTrue g ↔ G → TellSeven A B C D E F G n
seven a b c d e f g n is test_a test_b test_c test_d test_e test_f test_g =
    let a1 : digit a ≤ 1 = digit-bound a in let b1 : digit b ≤ 1 = digit-bound b in let c1 : digit c ≤ 1 = digit-bound c in
    let d1 : digit d ≤ 1 = digit-bound d in let e1 : digit e ≤ 1 = digit-bound e in let f1 : digit f ≤ 1 = digit-bound f in
    let g1 : digit g ≤ 1 = digit-bound g in
    let low : n < 128 = omega arith in
    record {
      bit_0 = told_bit n 1 a (agree_below_at (λ k. eqb (bit_and k 1) 0) (λ k. eqb (k / 1 % 2) 0) 128 n refl low) (omega arith) test_a;
      bit_1 = told_bit n 2 b (agree_below_at (λ k. eqb (bit_and k 2) 0) (λ k. eqb (k / 2 % 2) 0) 128 n refl low) (omega arith) test_b;
      bit_2 = told_bit n 4 c (agree_below_at (λ k. eqb (bit_and k 4) 0) (λ k. eqb (k / 4 % 2) 0) 128 n refl low) (omega arith) test_c;
      bit_3 = told_bit n 8 d (agree_below_at (λ k. eqb (bit_and k 8) 0) (λ k. eqb (k / 8 % 2) 0) 128 n refl low) (omega arith) test_d;
      bit_4 = told_bit n 16 e (agree_below_at (λ k. eqb (bit_and k 16) 0) (λ k. eqb (k / 16 % 2) 0) 128 n refl low) (omega arith) test_e;
      bit_5 = told_bit n 32 f (agree_below_at (λ k. eqb (bit_and k 32) 0) (λ k. eqb (k / 32 % 2) 0) 128 n refl low) (omega arith) test_f;
      bit_6 = told_bit n 64 g (agree_below_at (λ k. eqb (bit_and k 64) 0) (λ k. eqb (k / 64 % 2) 0) 128 n refl low) (omega arith) test_g;
      no_other = low;
    }

-- and so of what the tests of the entries tell
pub bits_of_tests : (shared : List Bool) (entries : List (List ℕ)) (a b c d e f g : Bool) (n : ℕ)
    → n ≡ digit a + 2 * digit b + 4 * digit c + 8 * digit d + 16 * digit e + 32 * digit f + 64 * digit g
    → IsTrue a ↔ Any (λ entry. 128 < rc_of entry) entries → IsTrue b ↔ AreTwice entries → IsTrue c ↔ Any (LacksPredecessor entries) entries
    → IsTrue d ↔ Any (EndsEarly entries) entries → IsTrue e ↔ Any (λ entry. SomePlace (IsHole entry)) entries
    → IsTrue f ↔ Any IsOffDiskIn entries → IsTrue g ↔ Any (IsCrossedIn shared) entries → AreFaultBits shared entries n
bits_of_tests shared entries a b c d e f g n is test_a test_b test_c test_d test_e test_f test_g =
    let bits = seven a b c d e f g n is test_a test_b test_c test_d test_e test_f test_g in record {
      bad_count = bits.bit_0;
      duplicate = bits.bit_1;
      gap = bits.bit_2;
      short = bits.bit_3;
      hole = bits.bit_4;
      off_disk = bits.bit_5;
      crossed = bits.bit_6;
      no_other = bits.no_other;
    }

-- no bit of 0 is set
pub no_bit : (m : ℕ) → (bit_and 0 m ≢ 0) → ⊥
no_bit m set = set (and_zero_l m)

clear : (n m : ℕ) → eqb (bit_and n m) 0 ≡ eqb (n / m % 2) 0 → ¬ (bit_and n m ≢ 0) → n / m % 2 ≡ 0
clear n m agree none = elim (cases_eq (n / m % 2) 0) [ inl zero ↦ zero | inr some ↦ absurd (none ((same_zero (bit_and n m) (n / m % 2) agree).1 some)) ]

-- a number below 128 with none of its seven bits set is 0
pub no_bits : (n : ℕ) → n < 128 → ¬ (bit_and n 1 ≢ 0) → ¬ (bit_and n 2 ≢ 0) → ¬ (bit_and n 4 ≢ 0) → ¬ (bit_and n 8 ≢ 0)
    → ¬ (bit_and n 16 ≢ 0) → ¬ (bit_and n 32 ≢ 0) → ¬ (bit_and n 64 ≢ 0) → n ≡ 0
no_bits n low a b c d e f g =
    let a0 : n / 1 % 2 ≡ 0 = clear n 1 (agree_below_at (λ k. eqb (bit_and k 1) 0) (λ k. eqb (k / 1 % 2) 0) 128 n refl low) a in
    let b0 : n / 2 % 2 ≡ 0 = clear n 2 (agree_below_at (λ k. eqb (bit_and k 2) 0) (λ k. eqb (k / 2 % 2) 0) 128 n refl low) b in
    let c0 : n / 4 % 2 ≡ 0 = clear n 4 (agree_below_at (λ k. eqb (bit_and k 4) 0) (λ k. eqb (k / 4 % 2) 0) 128 n refl low) c in
    let d0 : n / 8 % 2 ≡ 0 = clear n 8 (agree_below_at (λ k. eqb (bit_and k 8) 0) (λ k. eqb (k / 8 % 2) 0) 128 n refl low) d in
    let e0 : n / 16 % 2 ≡ 0 = clear n 16 (agree_below_at (λ k. eqb (bit_and k 16) 0) (λ k. eqb (k / 16 % 2) 0) 128 n refl low) e in
    let f0 : n / 32 % 2 ≡ 0 = clear n 32 (agree_below_at (λ k. eqb (bit_and k 32) 0) (λ k. eqb (k / 32 % 2) 0) 128 n refl low) f in
    let g0 : n / 64 % 2 ≡ 0 = clear n 64 (agree_below_at (λ k. eqb (bit_and k 64) 0) (λ k. eqb (k / 64 % 2) 0) 128 n refl low) g in
    omega arith
