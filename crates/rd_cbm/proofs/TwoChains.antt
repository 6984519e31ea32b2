-- Counting the blocks of two chains: all of one, and those of the other that the one does not have.
use Rattle.std.proofs.Common.{◌≡◌, ◌≢◌, ◌⊎◌, inl, inr, ◌+◌, ◌≤◌, ℕ, List, [], ◌∷◌, ◌++◌, length, slice_index, AllPairs, Contains, arith, refl, subst, length-append}
use Rattle.std.proofs.lemmas.List.Elements.{Contains-append_left, Contains-get_or, Contains-push, Contains-push_cases}
use Rattle.std.proofs.lemmas.List.Quantifiers.{all_pairs_push}
use Rattle.rd_cbm.specs.Counts.{IsCount}
use Rattle.rd_cbm.proofs.CountLemmas.{count_as}
use Rattle.rd_cbm.proofs.UseLemmas.{IsAmong, all_among, among_all, among_cases, among_later, among_none}

-- the block is on the one chain, or among the first n of the other
abbrev pub IsPassed : List ℕ → List ℕ → ℕ → ℕ → Type 0
IsPassed one two n b = Contains one b ⊎ IsAmong two n b

-- So many blocks are on the one chain or among the first n of the other.
pub record IsCountPassed (one two : List ℕ) (n count : ℕ) : Type 0 where
  pub counted : IsCount (IsPassed one two n) count
  pub few : count ≤ length one + n

pub none_passed : (one two : List ℕ) → AllPairs (λ m n. m ≢ n) one → IsCountPassed one two 0 (length one)
none_passed one two once = record {
  counted = record {
    numbers = one;
    each = λ b. (λ there. inl there, λ passed. elim passed [ inl there ↦ there | inr among ↦ absurd (among_none two b among) ]);
    once = once;
    many = refl;
  };
  few = omega arith;
}

one_more : (one two : List ℕ) (n b : ℕ) → IsPassed one two n b → IsPassed one two (n + 1) b
one_more one two n b passed = elim passed [ inl there ↦ inl there | inr among ↦ inr (among_later two n b among) ]

-- the next block of the other chain is on the one
pub passed_skip : (one two : List ℕ) (n count : ℕ) → IsCountPassed one two n count → Contains one (slice_index two n) → IsCountPassed one two (n + 1) count
passed_skip one two n count is has = record {
  counted = count_as (IsPassed one two n) (IsPassed one two (n + 1)) count is.counted (λ b. (
    one_more one two n b,
    λ passed. elim passed [
      | inl there ↦ inl there
      | inr among ↦ elim (among_cases two n b among) [ inl before ↦ inr before | inr last ↦ inl (subst (Contains one) last has) ]
    ],
  ));
  few = let high : count ≤ length one + n = is.few in omega arith;
}

-- it is not
pub passed_more : (one two : List ℕ) (n count : ℕ) → IsCountPassed one two n count → ¬ Contains one (slice_index two n) → ¬ IsAmong two n (slice_index two n)
    → IsCountPassed one two (n + 1) (count + 1)
passed_more one two n count is lacks other = record {
  counted = record {
    numbers = is.counted.numbers ++ slice_index two n ∷ [];
    each = λ b. (
      λ there. elim (Contains-push_cases is.counted.numbers (slice_index two n) b there) [
        | inl before ↦ one_more one two n b ((is.counted.each b).0 before)
        | inr last ↦ inr (record { place = n; before = omega arith; is = last })
      ],
      λ passed. elim passed [
        | inl there ↦ before b (inl there)
        | inr among ↦ elim (among_cases two n b among) [
          | inl early ↦ before b (inr early)
          | inr last ↦ subst (Contains (is.counted.numbers ++ slice_index two n ∷ [])) last (Contains-push is.counted.numbers (slice_index two n))
        ]
      ],
    );
    once = all_pairs_push (λ a b. a ≢ b) is.counted.numbers (slice_index two n) is.counted.once
        (λ k d inside same. new (subst (Contains is.counted.numbers) same (Contains-get_or is.counted.numbers k d inside)));
    many = let many : length is.counted.numbers ≡ count = is.counted.many in omega (arith, length-append is.counted.numbers (slice_index two n ∷ []));
  };
  few = let high : count ≤ length one + n = is.few in omega arith;
}
  where
    before : (b : ℕ) → IsPassed one two n b → Contains (is.counted.numbers ++ slice_index two n ∷ []) b
    before b passed = Contains-append_left is.counted.numbers (slice_index two n ∷ []) b ((is.counted.each b).1 passed)

    new : Contains is.counted.numbers (slice_index two n) → ⊥
    new there = elim ((is.counted.each (slice_index two n)).0 there) [ inl has ↦ lacks has | inr among ↦ other among ]

-- all blocks of the other chain are passed
pub all_passed : (one two : List ℕ) (n count : ℕ) → n ≡ length two → IsCountPassed one two n count → IsCount (λ b. Contains one b ⊎ Contains two b) count
all_passed one two n count whole is =
    let counted : IsCount (IsPassed one two (length two)) count = subst (λ k. IsCount (IsPassed one two k) count) whole is.counted in
    count_as (IsPassed one two (length two)) (λ b. Contains one b ⊎ Contains two b) count counted (λ b. (
      λ passed. elim passed [ inl there ↦ inl there | inr among ↦ inr (among_all two b among) ],
      λ either. elim either [ inl there ↦ inl there | inr there ↦ inr (all_among two b there) ],
    ))

-- no blocks are on the other chain
pub count_one : (one two : List ℕ) → AllPairs (λ m n. m ≢ n) one → length two ≡ 0 → IsCount (λ b. Contains one b ⊎ Contains two b) (length one)
count_one one two once none = all_passed one two 0 (length one) (omega arith) (none_passed one two once)
