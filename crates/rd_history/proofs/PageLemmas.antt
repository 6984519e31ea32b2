-- Pages: texts with commas between them, and which lines a page has, with their sums.
use Rattle.std.proofs.Common.{◌≡◌, ◌∙◌, ◌+◌, ◌-◌, ℕ, zero, suc, List, [], ◌∷◌, ◌++◌, ap, arith, drop, length, map, min, refl, sym, take}
use Rattle.std.specs.List.{flat_map, join_by}
use Rattle.std.proofs.lemmas.List.{drop-map, length-take, take-map, take_min}
use Rattle.sqlite.specs.declared.types.Value.TheVariants.{Int, Text, Blob}
use Rattle.sqlite.specs.Order.{Row}
use Rattle.rd_chain.specs.Chains.{FIRST_SUM, next_sum}
use Rattle.rd_chain.specs.Rows.{MOST_READ, columns_after, columns_of, row_of}
use Rattle.rd_chain.specs.declared.read.SummedLine.{SummedLine}
use Rattle.rd_history.specs.Pages.{page_of, page_text, shown, summed, summed_after}

-- ---- commas

flat_map-map : {X A : Type 0} (f : X → List A) (sep : List A) (xs : List X) → flat_map (λ x. sep ++ f x) xs ≡ flat_map (λ text. sep ++ text) (map f xs)
flat_map-map f sep [] = refl
flat_map-map f sep (x ∷ xs) = ap (λ more. (sep ++ f x) ++ more) (flat_map-map f sep xs)

pub join_by-map : {X A : Type 0} (f : X → List A) (sep : List A) (xs : List X) → join_by f sep xs ≡ join_by (λ text. text) sep (map f xs)
join_by-map f sep [] = refl
join_by-map f sep (x ∷ xs) = ap (λ more. f x ++ more) (flat_map-map f sep xs)

-- ---- front parts

take-nil : {X : Type 0} (n : ℕ) → take {A = X} n [] ≡ []
take-nil zero = refl
take-nil (suc n) = refl

take-swap : {X : Type 0} (m n : ℕ) (xs : List X) → take m (take n xs) ≡ take n (take m xs)
take-swap zero n xs = sym (take-nil n)
take-swap (suc m) zero xs = refl
take-swap (suc m) (suc n) [] = refl
take-swap (suc m) (suc n) (x ∷ xs) = ap (λ more. x ∷ more) (take-swap m n xs)

less_zero : (n : ℕ) → n ≡ n - 0
less_zero n = omega arith

zero_less : (n : ℕ) → 0 ≡ 0 - n
zero_less n = omega arith

suc_less : (m n : ℕ) → m - n ≡ suc m - suc n
suc_less m n = omega arith

drop-take-less : {X : Type 0} (after last : ℕ) (xs : List X) → drop after (take last xs) ≡ take (last - after) (drop after xs)
drop-take-less zero last xs = ap (λ n. take n xs) (less_zero last)
drop-take-less (suc after) zero xs = ap (λ n. take n (drop (suc after) xs)) (zero_less (suc after))
drop-take-less (suc after) (suc last) [] = sym (take-nil (suc last - suc after))
drop-take-less (suc after) (suc last) (x ∷ xs) = drop-take-less after last xs ∙ ap (λ n. take n (drop after xs)) (suc_less last after)

-- ---- lines with their sums

abbrev text_in : Row → List ℕ
text_in (Int number ∷ Text line ∷ Blob sum ∷ []) = summed line sum
text_in other = []

rows_shown : (found : List SummedLine) → map text_in (map row_of found) ≡ map shown found
rows_shown [] = refl
rows_shown (line ∷ found) = ap (λ more. shown line ∷ more) (rows_shown found)

columns_shown : (number : ℕ) (sum : List ℕ) (lines : List (List ℕ)) → map text_in (columns_after number sum lines) ≡ summed_after sum lines
columns_shown number sum [] = refl
columns_shown number sum (line ∷ lines) = ap (λ more. summed line (next_sum sum line) ∷ more) (columns_shown (number + 1) (next_sum sum line) lines)

summed_after-take : (n : ℕ) (sum : List ℕ) (lines : List (List ℕ)) → summed_after sum (take n lines) ≡ take n (summed_after sum lines)
summed_after-take zero sum lines = refl
summed_after-take (suc n) sum [] = refl
summed_after-take (suc n) sum (line ∷ lines) = ap (λ more. summed line (next_sum sum line) ∷ more) (summed_after-take n (next_sum sum line) lines)

found_shown : (after : ℕ) (lines : List (List ℕ)) (found : List SummedLine) → map row_of found ≡ take MOST_READ (drop after (columns_of lines)) → map shown found ≡ take MOST_READ (drop after (summed_after FIRST_SUM lines))
found_shown after lines found read =
    sym (rows_shown found) ∙ ap (map text_in) read ∙ sym (take-map text_in MOST_READ (drop after (columns_of lines)))
    ∙ ap (take MOST_READ) (sym (drop-map text_in after (columns_of lines)) ∙ ap (drop after) (columns_shown 0 FIRST_SUM lines))

texts_of : (after last : ℕ) (lines : List (List ℕ)) (found : List SummedLine) → map row_of found ≡ take MOST_READ (drop after (columns_of lines))
    → map shown (take (last - after) found) ≡ take MOST_READ (drop after (summed_after FIRST_SUM (take last lines)))
texts_of after last lines found read =
    sym (take-map shown (last - after) found) ∙ ap (take (last - after)) (found_shown after lines found read)
    ∙ take-swap (last - after) MOST_READ (drop after (summed_after FIRST_SUM lines))
    ∙ ap (take MOST_READ) (sym (drop-take-less after last (summed_after FIRST_SUM lines)) ∙ ap (drop after) (sym (summed_after-take last FIRST_SUM lines)))

pub is_page : (after last through count : ℕ) (lines : List (List ℕ)) (found : List SummedLine)
    → map row_of found ≡ take MOST_READ (drop after (columns_of lines))
    → through ≡ min last (length lines) → count ≡ min (through - after) (length found)
    → page_of (map shown (take count found)) through ≡ page_text after (take last lines)
is_page after last through count lines found read most few =
    let part : take count found ≡ take (through - after) found = ap (λ n. take n found) few ∙ take_min (through - after) found in
    let same : take through lines ≡ take last lines = ap (λ n. take n lines) most ∙ take_min last lines in
    ap (λ texts. page_of texts through) (ap (map shown) part ∙ texts_of after through lines found read
    ∙ ap (λ these. take MOST_READ (drop after (summed_after FIRST_SUM these))) same)
    ∙ ap (λ n. page_of (take MOST_READ (drop after (summed_after FIRST_SUM (take last lines)))) n) (most ∙ sym (length-take last lines))
