-- What a binary search of ascending numbers finds.
use Rattle.rd_store.proofs.Common.{◌≡◌, ◌⊎◌, inl, inr, ℕ, ℤ, ◌+◌, ◌<◌, ◌≤◌, pos, negsuc, List, map, length, get_or, true, false, int_lt, int_cmp, Result, Ok, Err, is_ok, Less, Equal, Greater, [], refl, sym, arith, ordering_index, IsBinarySearchResult, IsNonDecreasing, IsSearchInRange, cases_order, nat_tests, length-map, get_or-map, IsNonDecreasingBy-from_all_adjacent, Value, Null, Int, Real, Text, Blob, Row, column, id_in, AreRising, natural, natural_of, is_number, is_one_of, is_int}
use Rattle.std.proofs.lemmas.List.Folds.{list_any_at, list_any_none}

-- ---- the first columns of rising rows ascend

natural_rises : (a b : ℤ) → int_lt a b ≡ true → natural_of a ≤ natural_of b
natural_rises (pos m) (pos n) low = grind (arith, nat_tests)
natural_rises (pos m) (negsuc n) low = absurd cc
natural_rises (negsuc m) b low = omega arith

abbrev first_number : Row → ℕ
first_number row = natural (column row 0)

module _ (rows : List Row) (rising : AreRising rows) where
  number_at : (k d : ℕ) → k < length rows → get_or (map first_number rows) k d ≡ first_number (get_or rows k [])
  number_at k d low = get_or-map first_number rows k [] d low

  next_number : (k d : ℕ) → k + 1 < length (map first_number rows) → get_or (map first_number rows) k d ≤ get_or (map first_number rows) (k + 1) d
  next_number k d low =
      let within : k + 1 < length rows = omega (arith, low, length-map rows first_number) in
      rw (number_at k d (omega (arith, within)), number_at (k + 1) d within) (natural_rises (id_in (column (get_or rows k []) 0)) (id_in (column (get_or rows (k + 1) []) 0)) (rising.rise k within))

  pub numbers_ascend : IsNonDecreasing (map (λ row. natural (column row 0)) rows)
  numbers_ascend = IsNonDecreasingBy-from_all_adjacent (λ n. n) (map first_number rows) next_number

-- ---- the search

module _ (numbers : List ℕ) where
  none_else : (v : Value) → ((one : ℕ) → is_number one one v ≡ false) → is_one_of numbers v ≡ false
  none_else v other = list_any_none (λ one. is_number one one v) numbers (λ k d low. other (get_or numbers k d))

  pub other_isnt : (v : Value) → is_int v ≡ false → is_one_of numbers v ≡ false
  other_isnt Null other = none_else Null (λ one. refl)
  other_isnt (Int number) other = absurd cc
  other_isnt (Real x) other = none_else (Real x) (λ one. refl)
  other_isnt (Text text) other = none_else (Text text) (λ one. refl)
  other_isnt (Blob bytes) other = none_else (Blob bytes) (λ one. refl)

  equal_is : (one : ℕ) (number : ℤ) → int_cmp (pos one) number ≡ Equal → is_number one one (Int number) ≡ true
  equal_is one (pos n) same = grind (arith, nat_tests)
  equal_is one (negsuc n) same = absurd cc

  less_isnt : (one : ℕ) (number : ℤ) → int_cmp (pos one) number ≡ Less → is_number one one (Int number) ≡ false
  less_isnt one (pos n) low = grind (arith, nat_tests)
  less_isnt one (negsuc n) low = refl

  greater_isnt : (one : ℕ) (number : ℤ) → int_cmp (pos one) number ≡ Greater → is_number one one (Int number) ≡ false
  greater_isnt one (pos n) high = grind (arith, nat_tests)
  greater_isnt one (negsuc n) high = refl

  index_rises : (one other : ℕ) (number : ℤ) → one ≤ other → ordering_index (int_cmp (pos one) number) ≤ ordering_index (int_cmp (pos other) number)
  index_rises one other (pos n) low = grind (arith, nat_tests)
  index_rises one other (negsuc n) low = omega arith

  below_or_from : (k i : ℕ) → (k < i) ⊎ (i ≤ k)
  below_or_from k i = elim (cases_order k i) [
    | inl same ↦ inr (omega arith)
    | inr differ ↦ elim differ [
      | inl before ↦ inl before
      | inr after ↦ inr (omega arith)
    ]
  ]

  pub searched : (number : ℤ) (found : Result ℕ ℕ) → IsNonDecreasing numbers → IsSearchInRange found (length numbers) → IsBinarySearchResult (λ one. int_cmp (pos one) number) numbers found → is_ok found ≡ is_one_of numbers (Int number)
  searched number (Ok i) ascend low equal = sym (list_any_at (λ one. is_number one one (Int number)) numbers i 0 low (equal_is _ number (equal 0)))
  searched number (Err i) ascend low parted =
      let split = parted (λ j k d low within. index_rises _ _ number (ascend j k d low within)) in
      sym (list_any_none (λ one. is_number one one (Int number)) numbers (λ k d within. elim (below_or_from k i) [
        | inl before ↦ less_isnt _ number (split.0 k d (omega arith) before)
        | inr after ↦ greater_isnt _ number (split.1 k d after within)
      ]))
