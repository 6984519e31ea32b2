-- The faults of a file are one number.
use Rattle.std.proofs.Common.{◌≡◌, ◌≢◌, ◌∙◌, ◌↔◌, inl, inr, ◌*◌, ◌^◌, ◌<◌, ℕ, zero, suc, List, arith, ap, sym}
use Rattle.std.specs.Int.{IsBitSet, bit_at}
use Rattle.std.proofs.lemmas.Bool.{cases_eq}
use Rattle.std.proofs.lemmas.Nat.{pow_pos}
use Rattle.std.proofs.lemmas.Nat.Bits.{and_pow, same_from_bits_below}
use Rattle.rd_cbm.specs.Faults as cbm
use Rattle.rd_cpm.specs.Faults as cpm
use Rattle.rd_cpm.specs.Files.{Directory}

-- a bit that is clear in a number is clear in one that has no more bits set
clear_too : (a b k : ℕ) → (IsBitSet a k → IsBitSet b k) → bit_at b k ≡ 0 → bit_at a k ≡ 0
clear_too a b k too clear = elim (cases_eq (bit_at a k) 0) [
  | inl none ↦ none
  | inr some ↦ absurd (too (λ none.
      let high : 0 < 2 ^ k = pow_pos k in
      let one : bit_at a k ≡ 1 = omega arith in
      let product : 1 * 2 ^ k ≡ 0 = ap (λ n. n * 2 ^ k) (sym one) ∙ sym (and_pow a k) ∙ none in omega arith)
      (and_pow b k ∙ ap (λ n. n * 2 ^ k) clear ∙ omega arith))
]

bit_same : (a b k : ℕ) → IsBitSet a k ↔ IsBitSet b k → bit_at a k ≡ bit_at b k
bit_same a b k described = elim (cases_eq (bit_at b k) 0) [
  | inl clear ↦ clear_too a b k described.0 clear ∙ sym clear
  | inr some ↦ (let other : bit_at a k ≢ 0 = λ clear. some (clear_too b a k described.1 clear) in omega arith)
]

-- numbers below a power of two of which the same bits are set are one
same_number : (w a b : ℕ) → a < 2 ^ w → b < 2 ^ w → ((k : ℕ) → k < w → IsBitSet a k ↔ IsBitSet b k) → a ≡ b
same_number w a b low_a low_b described = same_from_bits_below w a b low_a low_b (λ k inside. bit_same a b k (described k inside))

both : {P Q R : Type 0} → P ↔ Q → R ↔ Q → P ↔ R
both one other = (λ p. other.1 (one.0 p), λ r. one.1 (other.0 r))

cpm_bits : (d : Directory) (slot a b : ℕ) → cpm.AreFaults d slot a → cpm.AreFaults d slot b → (k : ℕ) → k < 7 → IsBitSet a k ↔ IsBitSet b k
cpm_bits d slot a b one other zero low = both one.bad_count other.bad_count
cpm_bits d slot a b one other (suc zero) low = both one.duplicate other.duplicate
cpm_bits d slot a b one other (suc (suc zero)) low = both one.gap other.gap
cpm_bits d slot a b one other (suc (suc (suc zero))) low = both one.short other.short
cpm_bits d slot a b one other (suc (suc (suc (suc zero)))) low = both one.hole other.hole
cpm_bits d slot a b one other (suc (suc (suc (suc (suc zero))))) low = both one.off_disk other.off_disk
cpm_bits d slot a b one other (suc (suc (suc (suc (suc (suc zero)))))) low = both one.crossed other.crossed
cpm_bits d slot a b one other (suc (suc (suc (suc (suc (suc (suc k))))))) low = absurd (omega arith)

-- the faults of a file of a CP/M image are one number
pub one_cpm_faults : (d : Directory) (slot a b : ℕ) → cpm.AreFaults d slot a → cpm.AreFaults d slot b → a ≡ b
one_cpm_faults d slot a b one other = same_number 7 a b one.no_other other.no_other (cpm_bits d slot a b one other)

cbm_bits : (image blocks : List ℕ) (slot a b : ℕ) → cbm.AreFaults image blocks slot a → cbm.AreFaults image blocks slot b
    → (k : ℕ) → k < 5 → IsBitSet a k ↔ IsBitSet b k
cbm_bits image blocks slot a b one other zero low = both one.not_closed other.not_closed
cbm_bits image blocks slot a b one other (suc zero) low = both one.off_disk other.off_disk
cbm_bits image blocks slot a b one other (suc (suc zero)) low = both one.loop other.loop
cbm_bits image blocks slot a b one other (suc (suc (suc zero))) low = both one.crossed other.crossed
cbm_bits image blocks slot a b one other (suc (suc (suc (suc zero)))) low = both one.read_error other.read_error
cbm_bits image blocks slot a b one other (suc (suc (suc (suc (suc k))))) low = absurd (omega arith)

-- the faults of a file of a 1541 image are one number
pub one_cbm_faults : (image blocks : List ℕ) (slot a b : ℕ) → cbm.AreFaults image blocks slot a → cbm.AreFaults image blocks slot b → a ≡ b
one_cbm_faults image blocks slot a b one other = same_number 5 a b one.no_other other.no_other (cbm_bits image blocks slot a b one other)
