-- Rows that a query shows one after the other are walked in the order of their rowids.
use Rattle.rd_tables.proofs.Common.{◌≡◌, ◌⊎◌, inl, inr, ℕ, ℤ, zero, suc, ◌+◌, ◌<◌, List, [], ◌∷◌, ◌++◌, map, filter, take, length, get_or, true, false, Option, Some, None, refl, sym, ap, ap₂, subst, ◌∙◌, arith, cond, int_lt, int_cmp, is_lt, Ordering, Less, Equal, Greater, AllByRecursion, list_all, IsPermutation, IsSorted, is_gt, ordering_reverse, cases_order, nat_tests, append-nil, get_or_append_left, get_or_push, length-map, length_push, take-take, IsPermutation-cons, IsPermutation-map, IsPermutation-pop_more, IsPermutation-refl, IsPermutation-sym, IsPermutation-trans, length_permutation, Value, Null, Int, Real, Text, Blob, Row, value_cmp, Query, Output, output, output_cmp, rowid, col, holds, then-Equal, value_cmp_total, value_cmp-Int, id_in, Has, has_filtered, is_int, IsPermutation-filter, filter-filter, filter_all, AreRising, IsListed, IsStart, asks_of, rising}
use Rattle.std.proofs.lemmas.List.{get_or-map}
use Rattle.sqlite.specs.Order.{column}
use Rattle.sqlite_sql.specs.Term.{Term}
use Rattle.rd_tables.specs.Walks.{AreNext, ComesNext, IsWalked, is_after}
use Rattle.rd_tables.proofs.TestedRows.{to_permuted}
use Rattle.rd_tables.proofs.ListLemmas.{empty_by_length, filter_same, filter_true, map_map, permuted_images}

-- ---- rowids in order

less_turned : (a b : Value) → value_cmp a b ≡ Less → is_gt (value_cmp b a) ≡ true
less_turned a b low = ap is_gt (value_cmp_total.antisymm b a) ∙ ap (λ o. is_gt (ordering_reverse o)) low

greater : (o : Ordering) → is_gt o ≡ true → o ≡ Greater
greater Less is = absurd cc
greater Equal is = absurd cc
greater Greater is = refl

greater_turned : (a b : Value) → is_gt (value_cmp b a) ≡ true → value_cmp a b ≡ Less
greater_turned a b up = value_cmp_total.antisymm a b ∙ ap ordering_reverse (greater (value_cmp b a) up)

-- what is above a number is above one below it
above_both : (v : Value) (m n : ℤ) → is_gt (value_cmp (Int n) (Int m)) ≡ true → is_gt (value_cmp v (Int n)) ≡ true → is_gt (value_cmp v (Int m)) ≡ true
above_both v m n low up = less_turned (Int m) v (value_cmp_total.trans (Int m) (Int n) v (greater_turned (Int m) (Int n) low) (greater_turned (Int n) v up))

-- what is not below a value above a number is above that number
not_below : (n : ℤ) (a b : Value) → is_gt (value_cmp a (Int n)) ≡ true → is_lt (value_cmp b a) ≡ false → is_gt (value_cmp b (Int n)) ≡ true
not_below n a b up late = go (value_cmp b a) refl
  where
    low : value_cmp (Int n) a ≡ Less
    low = greater_turned (Int n) a up

    go : (o : Ordering) → value_cmp b a ≡ o → is_gt (value_cmp b (Int n)) ≡ true
    go Less is = absurd (let wrong : true ≡ false = sym (ap is_lt is) ∙ late in cc)
    go Equal is = ap is_gt (value_cmp_total.congr b a (Int n) is) ∙ up
    go Greater is = less_turned (Int n) b (value_cmp_total.trans (Int n) a b low (greater_turned a b (ap is_gt is)))

number_is : (v : Value) → is_int v ≡ true → v ≡ Int (id_in v)
number_is (Int n) is = refl
number_is Null is = absurd cc
number_is (Real x) is = absurd cc
number_is (Text t) is = absurd cc
number_is (Blob b) is = absurd cc

greater_number : (id n : ℤ) → is_gt (int_cmp n id) ≡ true → int_lt id n ≡ true
greater_number id n up = grind (arith, nat_tests, up)

number_greater : (id n : ℤ) → int_lt id n ≡ true → is_gt (int_cmp n id) ≡ true
number_greater id n up = grind (arith, nat_tests, up)

above_lt : (v : Value) (id : ℤ) → is_int v ≡ true → is_gt (value_cmp v (Int id)) ≡ true → int_lt id (id_in v) ≡ true
above_lt v id number up = greater_number id (id_in v) (sym (ap is_gt (ap (λ w. value_cmp w (Int id)) (number_is v number) ∙ value_cmp-Int (id_in v) id)) ∙ up)

lt_above : (v : Value) (id : ℤ) → is_int v ≡ true → int_lt id (id_in v) ≡ true → is_gt (value_cmp v (Int id)) ≡ true
lt_above v id number up = ap is_gt (ap (λ w. value_cmp w (Int id)) (number_is v number) ∙ value_cmp-Int (id_in v) id) ∙ number_greater id (id_in v) up

-- none is above itself
not_above : (v : Value) → is_int v ≡ true → is_gt (value_cmp v (Int (id_in v))) ≡ false
not_above v number = ap is_gt (ap (λ w. value_cmp w (Int (id_in v))) (number_is v number) ∙ value_cmp-Int (id_in v) (id_in v)) ∙ same (id_in v)
  where
    same : (n : ℤ) → is_gt (int_cmp n n) ≡ false
    same n = grind (arith, nat_tests)

-- the rows after a later place are after an earlier one
later_after : (place : Option ℤ) (row other : Row) → is_int (rowid row) ≡ true → is_after place row ≡ true → is_after (Some (id_in (rowid row))) other ≡ true → is_after place other ≡ true
later_after None row other number above up = refl
later_after (Some id) row other number above up =
    above_both (rowid other) id (id_in (rowid row)) (subst (λ v. is_gt (value_cmp v (Int id)) ≡ true) (number_is (rowid row) number) above) up

-- ---- the walk

all_after : (rows : List Row) → filter (is_after None) rows ≡ rows
all_after [] = refl
all_after (r ∷ rows) = ap (λ more. r ∷ more) (all_after rows)

pub walk_starts : (table : List Row) → IsWalked table [] None
walk_starts table = record {
  all = subst (IsPermutation table) (sym (all_after table)) (IsPermutation-refl table);
  rising = record { numbers = λ k d low. absurd (omega (arith, low)); rise = λ k low. absurd (omega (arith, low)) };
  last = λ k is. absurd (omega (arith, is));
}

-- a row that comes next is one of the table
pub comes_from : (table : List Row) (place : Option ℤ) (row : Row) → ComesNext table place row → Has table row
comes_from table place row next =
    let left = filter (is_after place) table in
    let rest = row ∷ filter (is_after (Some (id_in (rowid row)))) table in
    (has_filtered (is_after place) table row (to_permuted rest left row (IsPermutation-sym _ _ next.rest) (inl refl))).0

below_or_last : (k n : ℕ) → k < n + 1 → (k < n) ⊎ (n ≡ k)
below_or_last k n low = elim (cases_order k n) [
  | inl same ↦ inr (sym same)
  | inr differ ↦ elim differ [
    | inl before ↦ inl before
    | inr after ↦ absurd (omega (arith, low, after))
  ]
]

module _ (table done : List Row) (place : Option ℤ) (row : Row) (walked : IsWalked table done place) (next : ComesNext table place row) where
  abbrev more : List Row
  more = done ++ row ∷ []

  earlier : (k : ℕ) (d : Row) → k < length done → get_or more k d ≡ get_or done k d
  earlier k d low = get_or_append_left done (row ∷ []) d k low

  newest : (k : ℕ) (d : Row) → length done ≡ k → get_or more k d ≡ row
  newest k d is = get_or_push done row d k is

  number_at : (k : ℕ) (d : Row) → k < length more → is_int (column (get_or more k d) 0) ≡ true
  number_at k d low = elim (below_or_last k (length done) (omega (arith, low, length_push done row))) [
    | inl before ↦ ap (λ (r : Row). is_int (column r 0)) (earlier k d before) ∙ walked.rising.numbers k d before
    | inr last ↦ ap (λ (r : Row). is_int (column r 0)) (newest k d last) ∙ next.number
  ]

  rise_at : (k : ℕ) → k + 1 < length more → int_lt (id_in (column (get_or more k []) 0)) (id_in (column (get_or more (k + 1) []) 0)) ≡ true
  rise_at k low = elim (below_or_last (k + 1) (length done) (omega (arith, low, length_push done row))) [
    | inl before ↦ ap₂ (λ (r s : Row). int_lt (id_in (column r 0)) (id_in (column s 0))) (earlier k [] (omega (arith, before))) (earlier (k + 1) [] before) ∙ walked.rising.rise k before
    | inr last ↦
        let at = walked.last k (sym last) in
        let up : is_after (Some (id_in (rowid (get_or done k [])))) row ≡ true = subst (λ p. is_after p row ≡ true) at next.above in
        ap₂ (λ (r s : Row). int_lt (id_in (column r 0)) (id_in (column s 0))) (earlier k [] (omega (arith, last))) (newest (k + 1) [] last) ∙ above_lt (rowid row) (id_in (rowid (get_or done k []))) next.number up
  ]

  pub walk_goes_on : IsWalked table more (Some (id_in (rowid row)))
  walk_goes_on = record {
    all = IsPermutation-pop_more table done (filter (is_after place) table) (filter (is_after (Some (id_in (rowid row)))) table) row walked.all next.rest;
    rising = record { numbers = number_at; rise = rise_at };
    last = λ k is. ap (λ (r : Row). Some (id_in (rowid r))) (sym (newest k [] (omega (arith, is, length_push done row))));
  }

-- ---- once all rows are walked, they are listed

later_not_less : (u v : Value) → is_int u ≡ true → is_int v ≡ true → int_lt (id_in u) (id_in v) ≡ true → is_lt (value_cmp v u) ≡ false
later_not_less u v first second up = ap is_lt (ap (λ w. value_cmp w u) (number_is v second) ∙ ap (value_cmp (Int (id_in v))) (number_is u first) ∙ value_cmp-Int (id_in v) (id_in u)) ∙ not_less (id_in u) (id_in v) up
  where
    not_less : (m n : ℤ) → int_lt m n ≡ true → is_lt (int_cmp n m) ≡ false
    not_less m n low = grind (arith, nat_tests, low)

module _ (tree : ℕ) (shown : List Term) (table done : List Row) (place : Option ℤ) (walked : IsWalked table done place) (none : filter (is_after place) table ≡ []) where
  abbrev query : Query
  query = asks_of tree [] (col 1 0 ∷ shown) ((col 1 0, rising) ∷ [])

  abbrev out : Row → Output
  out row = output query ([] ∷ row ∷ [])

  abbrev shows : Row → Row
  shows row = (out row).1

  pub whole : IsPermutation table done
  whole = subst (IsPermutation table) (ap (λ l. done ++ l) none ∙ append-nil done) walked.all

  in_order : IsSorted (output_cmp query) (map out done)
  in_order k d low high =
      let within : k + 1 < length done = omega (arith, high, length-map done out) in
      let a = get_or done k [] in
      let b = get_or done (k + 1) [] in
      let first : get_or (map out done) k d ≡ out a = get_or-map out done k [] d (omega (arith, within)) in
      let second : get_or (map out done) (k + 1) d ≡ out b = get_or-map out done (k + 1) [] d within in
      ap₂ (λ (x y : Output). is_lt (output_cmp query x y)) second first ∙ ap is_lt (then-Equal (value_cmp (rowid b) (rowid a)))
      ∙ later_not_less (rowid a) (rowid b) (walked.rising.numbers k [] (omega (arith, within))) (walked.rising.numbers (k + 1) [] within) (walked.rising.rise k within)

  shown_at : (k : ℕ) (d : Row) → k < length done → get_or (map shows done) k d ≡ shows (get_or done k [])
  shown_at k d low = get_or-map shows done k [] d low

  pub all_walked : IsListed query table (map shows done)
  all_walked = record {
    picks = record {
      ordered = map out done;
      same = subst (λ l. IsPermutation (map out l) (map out done)) (sym (filter_true table)) (IsPermutation-map out table done whole);
      sorted = in_order;
      shown = sym (map_map (λ (o : Output). o.1) out done);
    };
    rising = record {
      numbers = λ k d low. let within : k < length done = omega (arith, low, length-map done shows) in ap (λ (r : Row). is_int (column r 0)) (shown_at k d within) ∙ walked.rising.numbers k [] within;
      rise = λ k low. let within : k + 1 < length done = omega (arith, low, length-map done shows) in ap₂ (λ (r s : Row). int_lt (id_in (column r 0)) (id_in (column s 0))) (shown_at k [] (omega (arith, within))) (shown_at (k + 1) [] within) ∙ walked.rising.rise k within;
    };
  }

-- ---- the next rows, from the first of all that follow

-- rows that rise still do without the first
later_rising : (row : Row) (rows : List Row) → AreRising (row ∷ rows) → AreRising rows
later_rising row rows rises = record {
  numbers = λ k d low. rises.numbers (suc k) d (omega (arith, low));
  rise = λ k low.
      let shifted : suc k + 1 ≡ suc (k + 1) = omega arith in
      let up = rises.rise (suc k) (omega (arith, low)) in
      subst (λ n. int_lt (id_in (column (get_or rows k []) 0)) (id_in (column (get_or (row ∷ rows) n []) 0)) ≡ true) shifted up;
}

module _ (tree : ℕ) (tests shown : List Term) (params : Row) (place : Option ℤ) (same : (row : Row) → list_all (holds (params ∷ row ∷ [])) tests ≡ is_after place row) (most : ℕ) (table rows : List Row)
    (starts : IsStart (asks_of tree tests (col 1 0 ∷ shown) ((col 1 0, rising) ∷ [])) (suc most) params table rows) where
  abbrev asked : Query
  asked = asks_of tree tests (col 1 0 ∷ shown) ((col 1 0, rising) ∷ [])

  abbrev tells : Row → Output
  tells row = output asked (params ∷ row ∷ [])

  abbrev shown_of : Row → Row
  shown_of row = (tells row).1

  abbrev left : List Row
  left = filter (is_after place) table

  kept : filter (λ row. list_all (holds (params ∷ row ∷ [])) tests) table ≡ left
  kept = filter_same (λ row. list_all (holds (params ∷ row ∷ [])) tests) (is_after place) table (λ row here. same row)

  moved : IsPermutation (map tells left) starts.picks.ordered
  moved = subst (λ l. IsPermutation (map tells l) starts.picks.ordered) kept starts.picks.same

  shown_first : rows ≡ take (suc most) (map (λ (o : Output). o.1) starts.picks.ordered)
  shown_first = starts.first ∙ ap (take (suc most)) starts.picks.shown

  pub none_next : rows ≡ [] → left ≡ []
  none_next none = go starts.picks.ordered moved shown_first
    where
      go : (ordered : List Output) → IsPermutation (map tells left) ordered → rows ≡ take (suc most) (map (λ (o : Output). o.1) ordered) → left ≡ []
      go [] h is = empty_by_length left (omega (arith, length_permutation (map tells left) [] h, length-map left tells))
      go (o ∷ ordered) h is = absurd (let wrong : [] ≡ o.1 ∷ take most (map (λ (p : Output). p.1) ordered) = sym none ∙ is in cc)

  later_sorted : (row : Row) (others : List Row) → IsSorted (output_cmp asked) (map tells (row ∷ others)) → IsSorted (output_cmp asked) (map tells others)
  later_sorted row others sorted k d low high =
      let shifted : suc k + 1 ≡ suc (k + 1) = omega arith in
      let late = sorted (suc k) d (omega arith) (omega (arith, high, length-map others tells, length-map (row ∷ others) tells)) in
      subst (λ n. is_lt (output_cmp asked (get_or (map tells (row ∷ others)) n d) (get_or (map tells others) k d)) ≡ false) shifted late

  -- what comes after the second row is above the first too
  all_above : (n : ℤ) (row : Row) (others : List Row) → is_after (Some n) row ≡ true → IsSorted (output_cmp asked) (map tells (row ∷ others)) → AllByRecursion (λ other. is_after (Some n) other ≡ true) (row ∷ others)
  all_above n row [] up sorted = (up, tt)
  all_above n row (other ∷ others) up sorted =
      let within : 0 + 1 < length (tells row ∷ tells other ∷ map tells others) = omega arith in
      let late : is_lt (value_cmp (rowid other) (rowid row)) ≡ false = sym (ap is_lt (then-Equal (value_cmp (rowid other) (rowid row)))) ∙ sorted 0 (tells row) (omega arith) within in
      (up, all_above n other others (not_below n (rowid row) (rowid other) up late) (later_sorted row (other ∷ others) sorted))

  -- the rows after the first, of which one more is shown
  above_first : (n : ℕ) (row : Row) (others : List Row) → AreRising (take (suc (suc n)) (map shown_of (row ∷ others))) → IsSorted (output_cmp asked) (map tells (row ∷ others)) → is_int (rowid row) ≡ true
      → AllByRecursion (λ other. is_after (Some (id_in (rowid row))) other ≡ true) others
  above_first n row [] rises sorted number = tt
  above_first n row (other ∷ others) rises sorted number =
      all_above (id_in (rowid row)) other others (lt_above (rowid other) (id_in (rowid row)) (rises.numbers 1 [] (omega arith)) (rises.rise 0 (omega arith))) (later_sorted row (other ∷ others) sorted)

  -- of rows that rise each but the first shows that the one before it is alone
  one_by_one : (n : ℕ) (at : Option ℤ) (others : List Row) → IsPermutation (filter (is_after at) table) others → IsSorted (output_cmp asked) (map tells others) → AreRising (take (suc n) (map shown_of others))
      → AreNext shown_of table at (take n (map shown_of others))
  one_by_one zero at others h sorted rises = tt
  one_by_one (suc n) at [] h sorted rises = tt
  one_by_one (suc n) at (row ∷ others) h sorted rises =
      let here = filter (is_after at) table in
      let number : is_int (rowid row) ≡ true = rises.numbers 0 [] (omega arith) in
      let id = id_in (rowid row) in
      let stood = has_filtered (is_after at) table row (to_permuted (row ∷ others) here row (IsPermutation-sym _ _ h) (inl refl)) in
      let above = above_first n row others rises sorted number in
      let fewer : filter (is_after (Some id)) here ≡ filter (is_after (Some id)) table = filter-filter (is_after (Some id)) (is_after at) (λ other up. later_after at row other number stood.1 up) table in
      let alone : filter (is_after (Some id)) (row ∷ others) ≡ others = ap (λ b. cond b (row ∷ filter (is_after (Some id)) others) (filter (is_after (Some id)) others)) (not_above (rowid row) number) ∙ filter_all (is_after (Some id)) others above in
      let rest : IsPermutation (filter (is_after (Some id)) table) others = subst (IsPermutation (filter (is_after (Some id)) table)) alone (subst (λ l. IsPermutation l (filter (is_after (Some id)) (row ∷ others))) fewer (IsPermutation-filter (is_after (Some id)) here (row ∷ others) h)) in
      let next : ComesNext table at row = record { number = number; above = stood.1; rest = IsPermutation-trans here (row ∷ others) _ h (IsPermutation-cons row others _ (IsPermutation-sym _ _ rest)) } in
      (row, next, refl, one_by_one n (Some id) others rest (later_sorted row others sorted) (later_rising (shown_of row) (take (suc n) (map shown_of others)) rises))

  pub each_next : AreRising rows → AreNext shown_of table place (take most rows)
  each_next rises =
      let found = permuted_images tells left starts.picks.ordered moved in
      let shows : rows ≡ take (suc most) (map shown_of found.0) = shown_first ∙ ap (λ l. take (suc most) (map (λ (o : Output). o.1) l)) found.2 ∙ ap (take (suc most)) (map_map (λ (o : Output). o.1) tells found.0) in
      let first : take most rows ≡ take most (map shown_of found.0) = ap (take most) shows ∙ take-take most (suc most) (map shown_of found.0) (omega arith) in
      subst (AreNext shown_of table place) (sym first) (one_by_one most place found.0 found.1 (subst (IsSorted (output_cmp asked)) found.2 starts.picks.sorted) (subst AreRising shows rises))
