-- The words of faults, from the lowest bit that is set on.
use Rattle.std.proofs.Common.{◌≡◌, ◌∙◌, ◌-◌, ◌<◌, ◌≤◌, ℕ, zero, suc, List, [], ◌∷◌, true, Some, None, ap, arith, bit_and, cond, length, map, nat_lt, refl, slice_get, slice_index_or}
use Rattle.std.specs.Iterator.{MakesProgress, item_count}
use Rattle.std.specs.Int.Count.{count_trailing_zeros}
use Rattle.std.specs.Str.{bytes_eq}
use Rattle.std.proofs.lemmas.Bool.{agree_below_at, cond-false, cond-true, le-ltb, lt-ltb}
use Rattle.std.proofs.lemmas.Slice.Eq.{bytes_eq-Decides}
use Rattle.rd_geometry.specs.declared.kind.Kind.{Kind}
use Rattle.rd_geometry.specs.declared.kind.Kind.TheVariants.{Cpm8}
use Rattle.rd_volume.specs.Words.{fault_names, set_bits, words_of}

-- the bits that are set, from the lowest on
from_lowest : ℕ → ℕ → List ℕ
from_lowest count n = cond (nat_lt (count_trailing_zeros 8 n) count) (count_trailing_zeros 8 n ∷ set_bits count (bit_and n (n - 1))) []

bits_of_seven : (n : ℕ) → n < 256 → set_bits 7 n ≡ from_lowest 7 n
unfolding from_lowest count_trailing_zeros
bits_of_seven n low = (bytes_eq-Decides (set_bits 7 n) (from_lowest 7 n)).0 (agree_below_at (λ n. bytes_eq (set_bits 7 n) (from_lowest 7 n)) (λ _. true) 256 n refl low)

bits_of_five : (n : ℕ) → n < 256 → set_bits 5 n ≡ from_lowest 5 n
unfolding from_lowest count_trailing_zeros
bits_of_five n low = (bytes_eq-Decides (set_bits 5 n) (from_lowest 5 n)).0 (agree_below_at (λ n. bytes_eq (set_bits 5 n) (from_lowest 5 n)) (λ _. true) 256 n refl low)

bits_of : (kind : Kind) (n : ℕ) → n < 256 → set_bits (length (fault_names kind)) n ≡ from_lowest (length (fault_names kind)) n
bits_of Cpm8 n low = bits_of_seven n low
bits_of _ n low = bits_of_five n low

-- what a list has at a place
got : {X : Type 0} (xs : List X) (i : ℕ) (x d : X) → slice_get xs i ≡ Some x → (i < length xs) × (slice_index_or xs i d ≡ x)
got [] i x d is = absurd (cc)
got (y ∷ ys) zero x d is = (omega arith, cc)
got (y ∷ ys) (suc i) x d is = let rest = got ys i x d is in (omega (arith, rest.0), rest.1)

not_got : {X : Type 0} (xs : List X) (i : ℕ) → slice_get xs i ≡ None → length xs ≤ i
not_got [] i is = omega arith
not_got (y ∷ ys) zero is = absurd (cc)
not_got (y ∷ ys) (suc i) is = let rest = not_got ys i is in omega arith

-- the word of the lowest bit that is set comes first
pub word_first : (kind : Kind) (n : ℕ) (word : List ℕ) → n < 256 → slice_get (fault_names kind) (count_trailing_zeros 8 n) ≡ Some word
    → words_of kind n ≡ word ∷ words_of kind (bit_and n (n - 1))
unfolding from_lowest
word_first kind n word low is =
    let there = got (fault_names kind) (count_trailing_zeros 8 n) word [] is in
    let bits : set_bits (length (fault_names kind)) n ≡ count_trailing_zeros 8 n ∷ set_bits (length (fault_names kind)) (bit_and n (n - 1)) =
    bits_of kind n low ∙ cond-true _ _ _ (lt-ltb _ _ there.0) in
    ap (map (λ bit. slice_index_or (fault_names kind) bit [])) bits ∙ ap (λ w. w ∷ words_of kind (bit_and n (n - 1))) there.1

-- no word is left where no bit of a word is set
pub no_word : (kind : Kind) (n : ℕ) → n < 256 → slice_get (fault_names kind) (count_trailing_zeros 8 n) ≡ None → words_of kind n ≡ []
unfolding from_lowest
no_word kind n low is =
    ap (map (λ bit. slice_index_or (fault_names kind) bit [])) (bits_of kind n low ∙ cond-false _ _ _ (le-ltb _ _ (not_got (fault_names kind) (count_trailing_zeros 8 n) is)))

-- a number with a word has a bit that is set
pub some_bit : (kind : Kind) (n : ℕ) (word : List ℕ) → slice_get (fault_names kind) (count_trailing_zeros 8 n) ≡ Some word → 1 ≤ n
unfolding count_trailing_zeros
some_bit Cpm8 zero word is = absurd (cc)
some_bit Cpm8 (suc n) word is = omega arith
some_bit _ zero word is = absurd (cc)
some_bit _ (suc n) word is = omega arith

-- a call that gives a word leaves one word less
pub fewer_words : {S A : Type 0} (can : S → Type 0) (left : S → List (List ℕ)) (old new : S) (item : A) (word : List ℕ) → can new → left old ≡ word ∷ left new
    → MakesProgress can (item_count left) old (Some item) new
fewer_words can left old new item word may is = record {
  on = λ _. (may, tt, let shorter : length (left old) ≡ suc (length (left new)) = ap length is in omega arith);
  keeps = may;
  rests = λ _. tt;
}
