-- The text that asks for all checks, and what it shows.
use Rattle.rd_store.proofs.Common.{◌≡◌, ◌∙◌, ℕ, pos, List, [], ◌∷◌, true, ap, codes, is_lt, map, refl, sym, entries, Int, Row, column, Query, col, IsPicked, asks_of, rising, Spells, map_of, retain_all, in_order, AsksBy, Checkup, checkup_cmp, Outcome, numbered_check, check_spelling}
use Rattle.rd_store.proofs.LaterCheckQuery.{checks_rise, two_keys}
use Rattle.sqlite.specs.Listing.{understood}
use Rattle.sqlite_tied.specs.Compute.{everything}
use Rattle.rd_store.proofs.Orders.{checkup_order, outcome_back}

-- all checks, by accession and day
abbrev pub check_list_text : List ℕ
check_list_text = codes "SELECT acc, day, outcome FROM checked ORDER BY acc, day"

abbrev pub check_list_query : Query
check_list_query = asks_of 7 [] (col 1 1 ∷ col 1 2 ∷ col 1 3 ∷ []) ((col 1 1, rising) ∷ (col 1 2, rising) ∷ [])

pub check_list_asks : AsksBy check_list_text 7 check_list_query
unfolding understood everything
check_list_asks = record { names = codes "acc" ∷ codes "day" ∷ codes "outcome" ∷ []; means = refl; plain = (refl, refl); stored = refl; here = λ trees. refl }

pub checks_listed : (table rows : List Row) → Spells check_spelling table → IsPicked check_list_query [] table rows → rows ≡ map check_spelling.columns (entries (map_of check_spelling table))
checks_listed table rows spells picks =
    in_order check_spelling checkup_order check_list_query [] table rows spells picks (λ _. true) check_spelling.columns (λ checkup. Int (pos checkup.acc) ∷ Int checkup.day ∷ [])
    (λ row is. refl)
    (λ row is. ap (λ s. (column s 0 ∷ column s 1 ∷ [], s)) is)
    (λ a b at bt up apart. checks_rise a.acc b.acc a.day b.day (sym (ap is_lt (two_keys b.acc a.acc b.day a.day)) ∙ up) apart)
    ∙ ap (λ m. map check_spelling.columns (entries m)) (retain_all checkup_cmp checkup_order (map_of check_spelling table))

-- the checks that columns spell
pub check_back : (e : Checkup × Outcome) → check_spelling.entry (check_spelling.columns e) ≡ e
check_back e = λ i. (e.0, outcome_back e.1 i)

pub checks_back : (es : List (Checkup × Outcome)) → map (λ row. numbered_check (check_spelling.entry row)) (map check_spelling.columns es) ≡ map numbered_check es
checks_back [] = refl
checks_back (e ∷ es) = λ i. numbered_check (check_back e i) ∷ checks_back es i
