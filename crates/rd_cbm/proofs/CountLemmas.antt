-- Counting the numbers below a limit that have a property, one by one.
use Rattle.std.proofs.Common.{◌≡◌, ◌≢◌, inl, inr, ◌↔◌, ◌+◌, ◌<◌, ◌≤◌, ℕ, [], ◌∷◌, ◌++◌, length, slice_index_or, Contains, arith, refl, sym, subst, length-append}
use Rattle.std.proofs.lemmas.Bool.{cases_eq}
use Rattle.std.proofs.lemmas.List.Elements.{Contains-append_left, Contains-get_or, Contains-push, Contains-push_cases}
use Rattle.std.proofs.lemmas.List.Quantifiers.{all_pairs_push}
use Rattle.rd_cbm.specs.Counts.{IsCount}

-- So many numbers below n have the property.
pub record IsCountBelow (P : ℕ → Type 0) (n count : ℕ) : Type 0 where
  pub counted : IsCount (λ m. (m < n) × P m) count
  pub few : count ≤ n

pub count_none : (P : ℕ → Type 0) → IsCountBelow P 0 0
count_none P = record {
  counted = record {
    numbers = [];
    each = λ m. (λ there. absurd (let inside : there.0 < 0 = there.1 in omega arith), λ both. absurd (let low : m < 0 = both.0 in omega arith));
    once = λ i j d before inside. absurd (let low : j < 0 = inside in omega arith);
    many = refl;
  };
  few = omega arith;
}

-- n has not the property
pub count_skip : (P : ℕ → Type 0) (n count : ℕ) → IsCountBelow P n count → ¬ P n → IsCountBelow P (n + 1) count
count_skip P n count is lacks = record {
  counted = record {
    numbers = is.counted.numbers;
    each = λ m. (
      λ there. let both = (is.counted.each m).0 there in let low : m < n = both.0 in (omega arith, both.1),
      λ both. elim (cases_eq m n) [
        | inl same ↦ absurd (lacks (subst P same both.1))
        | inr other ↦ (is.counted.each m).1 (let low : m < n + 1 = both.0 in omega arith, both.1)
      ],
    );
    once = is.counted.once;
    many = is.counted.many;
  };
  few = let high : count ≤ n = is.few in omega arith;
}

-- n has the property
pub count_more : (P : ℕ → Type 0) (n count : ℕ) → IsCountBelow P n count → P n → IsCountBelow P (n + 1) (count + 1)
count_more P n count is has = record {
  counted = record {
    numbers = is.counted.numbers ++ n ∷ [];
    each = λ m. (
      λ there. elim (Contains-push_cases is.counted.numbers n m there) [
        | inl before ↦ (let both = (is.counted.each m).0 before in let low : m < n = both.0 in (omega arith, both.1))
        | inr last ↦ (omega arith, subst P last has)
      ],
      λ both. elim (cases_eq m n) [
        | inl same ↦ subst (Contains (is.counted.numbers ++ n ∷ [])) (sym same) (Contains-push is.counted.numbers n)
        | inr other ↦ Contains-append_left is.counted.numbers (n ∷ []) m ((is.counted.each m).1 (let low : m < n + 1 = both.0 in omega arith, both.1))
      ],
    );
    once = all_pairs_push (λ a b. a ≢ b) is.counted.numbers n is.counted.once
        (λ k d inside same. let low : slice_index_or is.counted.numbers k d < n = ((is.counted.each (slice_index_or is.counted.numbers k d)).0 (Contains-get_or is.counted.numbers k d inside)).0 in omega arith);
    many = let many : length is.counted.numbers ≡ count = is.counted.many in omega (arith, length-append is.counted.numbers (n ∷ []));
  };
  few = let high : count ≤ n = is.few in omega arith;
}

-- the count of a property is that of one that holds of the same numbers
pub count_as : (P Q : ℕ → Type 0) (count : ℕ) → IsCount P count → ((n : ℕ) → P n ↔ Q n) → IsCount Q count
count_as P Q count is same = record {
  numbers = is.numbers;
  each = λ n. (λ there. (same n).0 ((is.each n).0 there), λ q. (is.each n).1 ((same n).1 q));
  once = is.once;
  many = is.many;
}
