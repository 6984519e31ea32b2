-- The bits of a number below 32 that is a sum of weights.
use Rattle.std.proofs.Common.{◌≡◌, ◌≢◌, ◌∙◌, ◌⊎◌, inl, inr, ◌↔◌, ◌+◌, ◌*◌, ◌/◌, ◌%◌, ◌<◌, ◌≤◌, ℕ, Bool, true, false, IsBitSet, IsTrue, List, cond, eqb, eq-eqb, eqb-true, bit_and, arith, refl, sym}
use Rattle.std.proofs.lemmas.Bool.{agree_below_at, cases_eq}
use Rattle.std.specs.Int.Bits.{and_zero_l}
use Rattle.rd_cbm.specs.declared.chains.Chain.{Chain}
use Rattle.rd_cbm.specs.declared.chains.End.TheVariants as end
use Rattle.rd_cbm.specs.Entries.{IsClosed}
use Rattle.rd_cbm.specs.Marked.{AreFaultBits, SomeError, SomeShared}

-- the digit of a flag
pub digit : Bool → ℕ
digit true = 1
digit false = 0

digit-bound : (b : Bool) → digit b ≤ 1
unfolding digit
digit-bound true = omega arith
digit-bound false = omega arith

-- a weight where the flag is set is the weight times the digit
pub weighed : (b : Bool) (m w : ℕ) → w ≡ cond b m 0 → w ≡ m * digit b
unfolding digit
weighed true m w is = omega arith
weighed false m w is = omega arith

digit_test : (b : Bool) → IsTrue b ↔ (digit b ≢ 0)
unfolding digit
digit_test true = (λ _ none. let z : 1 ≡ 0 = none in absurd (omega arith), λ _. refl)
digit_test false = (λ t. let wrong : false ≡ true = t in absurd (cc), λ some. absurd (some refl))

-- two tests that agree tell of the same
same_zero : (x y : ℕ) → eqb x 0 ≡ eqb y 0 → (x ≢ 0) ↔ (y ≢ 0)
same_zero x y same = (
  λ some none. some (eqb-true _ _ (same ∙ eq-eqb y 0 none)),
  λ some none. some (eqb-true _ _ (sym same ∙ eq-eqb x 0 none)),
)

-- the bit of weight m is set exactly where the flag of its digit is
told_bit : {P : Type 0} (n m : ℕ) (b : Bool) → eqb (bit_and n m) 0 ≡ eqb (n / m % 2) 0 → n / m % 2 ≡ digit b → IsTrue b ↔ P → (bit_and n m ≢ 0) ↔ P
told_bit n m b agree is test =
    let same = same_zero (bit_and n m) (n / m % 2) agree in (
      λ set. test.0 ((digit_test b).1 (λ none. same.0 set (is ∙ none))),
      λ fact. same.1 (λ none. (digit_test b).0 (test.1 fact) (sym is ∙ none)),
    )

-- The bits of a number tell of five facts, and it has no others.
pub record TellFive (A B C D E : Type 0) (n : ℕ) : Type 0 where
  pub bit_0 : IsBitSet n 0 ↔ A
  pub bit_1 : IsBitSet n 1 ↔ B
  pub bit_2 : IsBitSet n 2 ↔ C
  pub bit_3 : IsBitSet n 3 ↔ D
  pub bit_4 : IsBitSet n 4 ↔ E
  pub no_other : n < 32

-- What five tests tell is told by the sum of the weights of those that answer true.
pub five : {A B C D E : Type 0} (a b c d e : Bool) (n : ℕ) → n ≡ digit a + 2 * digit b + 4 * digit c + 8 * digit d + 16 * digit e
    → IsTrue a ↔ A → IsTrue b ↔ B → IsTrue c ↔ C → IsTrue d ↔ D → IsTrue e ↔ E → TellFive A B C D E n
five a b c d e n is test_a test_b test_c test_d test_e =
    let a1 : digit a ≤ 1 = digit-bound a in let b1 : digit b ≤ 1 = digit-bound b in
    let c1 : digit c ≤ 1 = digit-bound c in let d1 : digit d ≤ 1 = digit-bound d in
    let e1 : digit e ≤ 1 = digit-bound e in
    let low : n < 32 = omega arith in
    record {
      bit_0 = told_bit n 1 a (agree_below_at (λ k. eqb (bit_and k 1) 0) (λ k. eqb (k / 1 % 2) 0) 32 n refl low) (omega arith) test_a;
      bit_1 = told_bit n 2 b (agree_below_at (λ k. eqb (bit_and k 2) 0) (λ k. eqb (k / 2 % 2) 0) 32 n refl low) (omega arith) test_b;
      bit_2 = told_bit n 4 c (agree_below_at (λ k. eqb (bit_and k 4) 0) (λ k. eqb (k / 4 % 2) 0) 32 n refl low) (omega arith) test_c;
      bit_3 = told_bit n 8 d (agree_below_at (λ k. eqb (bit_and k 8) 0) (λ k. eqb (k / 8 % 2) 0) 32 n refl low) (omega arith) test_d;
      bit_4 = told_bit n 16 e (agree_below_at (λ k. eqb (bit_and k 16) 0) (λ k. eqb (k / 16 % 2) 0) 32 n refl low) (omega arith) test_e;
      no_other = low;
    }

-- and so of what the tests of a file tell
pub bits_of_tests : (image : List ℕ) (shared : List Bool) (type : ℕ) (contents sides : Chain) (a b c d e : Bool) (n : ℕ)
    → n ≡ digit a + 2 * digit b + 4 * digit c + 8 * digit d + 16 * digit e → IsTrue a ↔ (¬ IsClosed type)
    → IsTrue b ↔ ((contents.end ≡ end.Off) ⊎ (sides.end ≡ end.Off)) → IsTrue c ↔ ((contents.end ≡ end.Loop) ⊎ (sides.end ≡ end.Loop))
    → IsTrue d ↔ (SomeShared shared contents.blocks ⊎ SomeShared shared sides.blocks)
    → IsTrue e ↔ (SomeError image contents.blocks ⊎ SomeError image sides.blocks) → AreFaultBits image shared type contents sides n
bits_of_tests image shared type contents sides a b c d e n is test_a test_b test_c test_d test_e =
    let bits = five a b c d e n is test_a test_b test_c test_d test_e in record {
      not_closed = bits.bit_0;
      off_disk = bits.bit_1;
      loop = bits.bit_2;
      crossed = bits.bit_3;
      read_error = bits.bit_4;
      no_other = bits.no_other;
    }

-- no bit of 0 is set
pub no_bit : (m : ℕ) → (bit_and 0 m ≢ 0) → ⊥
no_bit m set = set (and_zero_l m)

clear : (n m : ℕ) → eqb (bit_and n m) 0 ≡ eqb (n / m % 2) 0 → ¬ (bit_and n m ≢ 0) → n / m % 2 ≡ 0
clear n m agree none = elim (cases_eq (n / m % 2) 0) [ inl zero ↦ zero | inr some ↦ absurd (none ((same_zero (bit_and n m) (n / m % 2) agree).1 some)) ]

-- a number below 32 with none of its five bits set is 0
pub no_bits : (n : ℕ) → n < 32 → ¬ (bit_and n 1 ≢ 0) → ¬ (bit_and n 2 ≢ 0) → ¬ (bit_and n 4 ≢ 0) → ¬ (bit_and n 8 ≢ 0) → ¬ (bit_and n 16 ≢ 0) → n ≡ 0
no_bits n low a b c d e =
    let a0 : n / 1 % 2 ≡ 0 = clear n 1 (agree_below_at (λ k. eqb (bit_and k 1) 0) (λ k. eqb (k / 1 % 2) 0) 32 n refl low) a in
    let b0 : n / 2 % 2 ≡ 0 = clear n 2 (agree_below_at (λ k. eqb (bit_and k 2) 0) (λ k. eqb (k / 2 % 2) 0) 32 n refl low) b in
    let c0 : n / 4 % 2 ≡ 0 = clear n 4 (agree_below_at (λ k. eqb (bit_and k 4) 0) (λ k. eqb (k / 4 % 2) 0) 32 n refl low) c in
    let d0 : n / 8 % 2 ≡ 0 = clear n 8 (agree_below_at (λ k. eqb (bit_and k 8) 0) (λ k. eqb (k / 8 % 2) 0) 32 n refl low) d in
    let e0 : n / 16 % 2 ≡ 0 = clear n 16 (agree_below_at (λ k. eqb (bit_and k 16) 0) (λ k. eqb (k / 16 % 2) 0) 32 n refl low) e in
    omega arith
