-- The text that asks for the latest check of an accession, and what it shows.
use Rattle.rd_store.proofs.Common.{◌≡◌, ℕ, ℤ, pos, List, [], ◌∷◌, ◌∙◌, ◌&&◌, ◌==◌, true, false, Ordering, Less, Equal, Greater, ap, arith, codes, int_cmp, is_eq, is_lt, map, nat_cmp, option_to_list, refl, sym, entries, retain_keys, eq_by_cmp, ordering_then, ordering_reverse, nat_tests, int_cmp_total, Int, Row, column, Query, Binary, col, is_true, Compare, Eq, value_cmp-Int, then-Equal, IsPicked, IsStart, asks_of, equals, rising, desk_schema, Spells, entry_of, map_of, and_true, equal_numbers, in_order, AsksStart, check_shown, is_of, check_spelling}
use Rattle.sqlite.specs.Listing.{understood}
use Rattle.sqlite_sql.specs.Ops.{binary}
use Rattle.sqlite_tied.specs.Compute.{everything}
use Rattle.rd_tables.proofs.ReversedOrder.{last_picked, turned}
use Rattle.rd_holdings.specs.Findings.{last_of}
use Rattle.rd_store.proofs.Orders.{checkup_order}

-- the latest check of an accession
abbrev pub latest_text : List ℕ
latest_text = codes "SELECT day, outcome FROM checked WHERE acc = ?1 ORDER BY day DESC LIMIT 1"

-- the query for all checks of an accession, by day
abbrev pub checks_query : Query
checks_query = asks_of 7 (equals 1 0 ∷ []) (col 1 2 ∷ col 1 3 ∷ []) ((col 1 2, rising) ∷ [])

-- the text asks for the first row of that query, turned round
pub latest_asks : AsksStart desk_schema latest_text 1 7 checks_query.filter checks_query.project (turned checks_query).order
unfolding understood everything
latest_asks = record { names = codes "day" ∷ codes "outcome" ∷ []; means = refl; plain = (refl, refl); stored = refl; here = λ trees. refl }

-- of one accession the days decide
same_number : (a b acc : ℕ) → (a == acc) ≡ true → (b == acc) ≡ true → nat_cmp a b ≡ Equal
same_number a b acc here there = grind (arith, nat_tests)

days_rise : (a b acc : ℕ) (d e : ℤ) → (a == acc) ≡ true → (b == acc) ≡ true → is_lt (int_cmp e d) ≡ false
    → is_eq (ordering_then (nat_cmp a b) (int_cmp d e)) ≡ false → ordering_then (nat_cmp a b) (int_cmp d e) ≡ Less
days_rise a b acc d e here there up apart =
    let alike : ordering_then (nat_cmp a b) (int_cmp d e) ≡ int_cmp d e = ap (λ o. ordering_then o (int_cmp d e)) (same_number a b acc here there) in
    alike ∙ go (int_cmp d e) (sym (ap is_eq alike) ∙ apart) (sym (ap is_lt (int_cmp_total.antisymm e d)) ∙ up)
  where
    go : (o : Ordering) → is_eq o ≡ false → is_lt (ordering_reverse o) ≡ false → o ≡ Less
    go Less e f = refl
    go Equal e f = absurd cc
    go Greater e f = absurd cc

-- all checks of an accession, by day, show its entries
checks_found : (acc : ℕ) (table rows : List Row) → Spells check_spelling table → IsPicked checks_query (Int (pos acc) ∷ []) table rows
    → rows ≡ map check_shown (entries (retain_keys (map_of check_spelling table) (is_of acc)))
checks_found acc table rows spells picks =
    in_order check_spelling checkup_order checks_query (Int (pos acc) ∷ []) table rows spells picks (is_of acc) check_shown (λ checkup. Int checkup.day ∷ [])
    (λ row is. ap (λ s. is_true (binary (Compare Eq Binary) (column s 0) (Int (pos acc))) && true) is ∙ and_true _ ∙ equal_numbers (entry_of check_spelling row).0.acc acc ∙ either_way (entry_of check_spelling row).0.acc)
    (λ row is. ap (λ s. (column s 1 ∷ [], column s 1 ∷ column s 2 ∷ [])) is)
    (λ a b at bt up apart. days_rise a.acc b.acc acc a.day b.day at bt (sym (ap is_lt (then-Equal _ ∙ value_cmp-Int b.day a.day)) ∙ up) apart)
  where
    either_way : (n : ℕ) → eq_by_cmp nat_cmp acc n ≡ (n == acc)
    either_way n = grind (arith, nat_tests)

-- the row of the latest check is that of the last entry
pub latest_found : (acc : ℕ) (table rows : List Row) → Spells check_spelling table → IsStart (turned checks_query) 1 (Int (pos acc) ∷ []) table rows
    → rows ≡ map check_shown (option_to_list (last_of (entries (retain_keys (map_of check_spelling table) (is_of acc)))))
latest_found acc table rows spells start =
    last_picked checks_query (Int (pos acc) ∷ []) table rows check_shown (entries (retain_keys (map_of check_spelling table) (is_of acc))) (λ all picks. checks_found acc table all spells picks) start
