-- The rows of lines: their order, and what a line more makes of them.
use Rattle.rd_chain.proofs.Common.{◌≡◌, ◌∙◌, ◌+◌, ◌++◌, ◌<◌, ◌≤◌, ℕ, pos, Bool, false, List, [], ◌∷◌, length, length-append, map, refl, sym, ap, subst, arith, nat_tests, Less, is_eq, is_gt, AllByRecursion, IsPermutation, IsPermutation-map, IsPermutation-refl, IsPermutation-sym, IsSorted, Row, Trees, Int, put_row, column, value_cmp-Int, value_cmp_total, FIRST_SUM, next_sum, last_sum, End, end_of, by_number, columns_after, columns_of, line_columns, lines_of, end_with, next_end, seen}
use Rattle.std.specs.Cmp.{IsTotalOrder}
use Rattle.std.specs.List.{IsDistinct}
use Rattle.std.proofs.lemmas.Cmp.{eq_by_cmp_equiv, on_total}
use Rattle.std.proofs.lemmas.List.Sorted.{IsPermutation-push_more}
use Rattle.std.proofs.lemmas.Map.Keys.{IsDistinct-IsPermutation}
use Rattle.sqlite.specs.Order.{value_cmp}
use Rattle.sqlite_exec.proofs.PartitionLemmas.{sorted_from_ascending}
use Rattle.sqlite_keyed.proofs.ListLemmas.{all_weaker, ascending_weaker}
use Rattle.sqlite_keyed.proofs.SortLemmas.{sorted_is-sort_by}
use Rattle.sqlite_keyed.specs.Lists.{sort_by}
use Rattle.sqlite_trees.specs.Tree.{IsAscending}
use Rattle.sqlite_value.specs.Order.{bytes}
use Rattle.rd_tables.proofs.Common.{is_taken}
use Rattle.rd_tables.proofs.MapChanges.{put_permutes}

-- ---- the order of the rows

pub number_total : IsTotalOrder by_number
number_total = on_total (λ (row : Row). column row 0) value_cmp_total

lower : (m n : ℕ) → m < n → value_cmp (Int (pos m)) (Int (pos n)) ≡ Less
lower m n low = value_cmp-Int (pos m) (pos n) ∙ grind (arith, nat_tests, low)

all_above : (row : Row) (low number : ℕ) (sum : List ℕ) (lines : List (List ℕ)) → column row 0 ≡ Int (pos low) → low ≤ number → AllByRecursion (λ other. by_number row other ≡ Less) (columns_after number sum lines)
all_above row low number sum [] is below = tt
all_above row low number sum (line ∷ lines) is below =
    (ap (λ v. value_cmp v (Int (pos (number + 1)))) is ∙ lower low (number + 1) (omega arith), all_above row low (number + 1) (next_sum sum line) lines is (omega arith))

-- the numbers rise
pub rising_after : (number : ℕ) (sum : List ℕ) (lines : List (List ℕ)) → IsAscending (λ row other. by_number row other ≡ Less) (columns_after number sum lines)
rising_after number sum [] = tt
rising_after number sum (line ∷ lines) =
    (all_above (line_columns (number + 1) line (next_sum sum line)) (number + 1) (number + 1) (next_sum sum line) lines refl (omega arith), rising_after (number + 1) (next_sum sum line) lines)

abbrev same_number : Row → Row → Bool
same_number row other = is_eq (by_number row other)

apart : (rows : List Row) → IsAscending (λ row other. by_number row other ≡ Less) rows → IsDistinct same_number rows
unfolding IsDistinct
apart [] up = tt
apart (row ∷ rows) up = (all_weaker _ _ (λ other less. ap is_eq less) rows up.0, apart rows up.1)

no_ties : (rows : List Row) → IsDistinct same_number rows → IsAscending (λ row other. is_eq (by_number row other) ≡ false) rows
unfolding IsDistinct
no_ties [] apart = tt
no_ties (row ∷ rows) apart = (apart.0, no_ties rows apart.1)

-- rows whose numbers rise are the only ones in order
pub rising_alone : (ups rows : List Row) → IsAscending (λ row other. by_number row other ≡ Less) ups → IsPermutation ups rows → IsSorted by_number rows → rows ≡ ups
rising_alone ups rows up same sorted =
    let free = no_ties ups (apart ups up) in
    sorted_is-sort_by by_number number_total ups rows free same sorted
    ∙ sym (sorted_is-sort_by by_number number_total ups ups free (IsPermutation-refl ups) (sorted_from_ascending by_number number_total ups (ascending_weaker _ _ (λ row other less. ap is_gt less) ups up)))

by_number_sorted : (these : List (List ℕ)) (rows : List Row) → IsPermutation (columns_of these) rows → columns_of these ≡ sort_by by_number rows
by_number_sorted these rows same =
    let up = rising_after 0 FIRST_SUM these in
    sorted_is-sort_by by_number number_total rows (columns_of these)
    (no_ties rows (IsDistinct-IsPermutation same_number (eq_by_cmp_equiv number_total).symm _ _ same (apart (columns_of these) up)))
    (IsPermutation-sym _ _ same)
    (sorted_from_ascending by_number number_total (columns_of these) (ascending_weaker _ _ (λ row other less. ap is_gt less) (columns_of these) up))

-- what the rows of lines hold
pub lines_back : (number : ℕ) (sum : List ℕ) (these : List (List ℕ)) → map (λ row. bytes (column row 1)) (columns_after number sum these) ≡ these
lines_back number sum [] = refl
lines_back number sum (line ∷ these) = ap (λ more. line ∷ more) (lines_back (number + 1) (next_sum sum line) these)

-- whatever the order of the rows, their lines are these
pub lines_are : (these : List (List ℕ)) (trees : Trees) → IsPermutation (columns_of these) (map seen (trees 0)) → lines_of trees ≡ these
lines_are these trees same = ap (map (λ row. bytes (column row 1))) (sym (by_number_sorted these (map seen (trees 0)) same)) ∙ lines_back 0 FIRST_SUM these

-- ---- a line more

last_push : (sum : List ℕ) (before : List (List ℕ)) (line : List ℕ) → last_sum sum (before ++ line ∷ []) ≡ next_sum (last_sum sum before) line
last_push sum [] line = refl
last_push sum (first ∷ before) line = last_push (next_sum sum first) before line

length_more : (before : List (List ℕ)) (line : List ℕ) → length (before ++ line ∷ []) ≡ length before + 1
length_more before line = grind (arith, length-append {A = List ℕ})

pub end_more : (end : End) (before : List (List ℕ)) (line : List ℕ) → end ≡ end_of before → next_end end line ≡ end_of (before ++ line ∷ [])
end_more end before line is = ap (λ (e : End). next_end e line) is ∙ (λ i. record { number = sym (length_more before line) i; sum = sym (last_push FIRST_SUM before line) i })

-- where they end with so many and one more
pub end_push : (end : End) (more : List (List ℕ)) (line : List ℕ) → next_end (end_with end more) line ≡ end_with end (more ++ line ∷ [])
end_push end more line =
    let count : (end.number + length more) + 1 ≡ end.number + length (more ++ line ∷ []) = omega (arith, length_more more line) in
    λ i. record { number = count i; sum = sym (last_push end.sum more line) i }

columns_push : (number : ℕ) (sum : List ℕ) (before : List (List ℕ)) (line : List ℕ)
    → columns_after number sum (before ++ line ∷ []) ≡ columns_after number sum before ++ line_columns (number + length (before ++ line ∷ [])) line (last_sum sum (before ++ line ∷ [])) ∷ []
columns_push number sum [] line = refl
columns_push number sum (first ∷ before) line =
    let shifted : (number + 1) + length (before ++ line ∷ []) ≡ number + length (first ∷ before ++ line ∷ []) = omega arith in
    ap (λ more. line_columns (number + 1) first (next_sum sum first) ∷ more)
    (columns_push (number + 1) (next_sum sum first) before line ∙ ap (λ n. columns_after (number + 1) (next_sum sum first) before ++ line_columns n line (last_sum (next_sum sum first) (before ++ line ∷ [])) ∷ []) shifted)

-- the row of the next line goes among those of the lines before
pub columns_put : (before : List (List ℕ)) (line : List ℕ) (end : End) (new : Row) (rows : List Row) → end ≡ end_of (before ++ line ∷ []) → seen new ≡ line_columns end.number line end.sum → is_taken rows new ≡ false
    → IsPermutation (columns_of before) (map seen rows) → IsPermutation (columns_of (before ++ line ∷ [])) (map seen (put_row new rows))
columns_put before line end new rows is shows free same =
    let put : IsPermutation (seen new ∷ map seen rows) (map seen (put_row new rows)) = IsPermutation-map seen (new ∷ rows) (put_row new rows) (put_permutes new rows free) in
    let column_is : seen new ≡ line_columns (0 + length (before ++ line ∷ [])) line (last_sum FIRST_SUM (before ++ line ∷ [])) =
    shows ∙ ap (λ (e : End). line_columns e.number line e.sum) is ∙ ap (λ n. line_columns n line (last_sum FIRST_SUM (before ++ line ∷ []))) (omega arith) in
    let all : IsPermutation (columns_of before ++ seen new ∷ []) (map seen (put_row new rows)) = IsPermutation-push_more (columns_of before) (map seen rows) _ (seen new) same put in
    subst (λ l. IsPermutation l (map seen (put_row new rows))) (ap (λ row. columns_of before ++ row ∷ []) column_is ∙ sym (columns_push 0 FIRST_SUM before line)) all
