-- The text that asks for the checks after a day, and what it shows.
use Rattle.rd_store.proofs.Common.{take, ◌≡◌, ◌∙◌, ◌&&◌, ◌==◌, ℕ, ℤ, pos, Bool, List, [], ◌∷◌, false, Less, ap, ap₂, arith, codes, eqb-true, int_cmp, int_lt, is_eq, is_gt, is_lt, length, map, nat_cmp, not, refl, subst, sym, true, ◌≢◌, MatchBool, IsStart, IsPicked, asks_of, greater, rising, desk_schema, AsksStart, Checkup, Outcome, entries, retain_keys, ordering_then, nat_tests, Int, Row, column, Query, key_cmp, Binary, col, is_true, Compare, Gt, value_cmp-Int, then-Equal, Spells, entry_of, map_of, and_true, empty_by_length, in_order, truth_kept, checkup_shown, check_spelling}
use Rattle.sqlite.specs.Listing.{understood}
use Rattle.sqlite_sql.specs.Ops.{binary}
use Rattle.sqlite_tied.specs.Compute.{everything}
use Rattle.rd_store.specs.Latest.{is_after}
use Rattle.rd_store.proofs.Orders.{checkup_order}

-- the first of the checks of later days than a parameter, by accession and day
abbrev pub later_text : List ℕ
later_text = codes "SELECT acc, day FROM checked WHERE day > ?1 ORDER BY acc, day LIMIT 1"

-- the query for all of them
abbrev pub later_query : Query
later_query = asks_of 7 (greater 2 0 ∷ []) (col 1 1 ∷ col 1 2 ∷ []) ((col 1 1, rising) ∷ (col 1 2, rising) ∷ [])

pub later_asks : AsksStart desk_schema later_text 1 7 later_query.filter later_query.project later_query.order
unfolding understood everything
later_asks = record { names = codes "acc" ∷ codes "day" ∷ []; means = refl; plain = (refl, refl); stored = refl; here = λ trees. refl }

-- a number is greater than another
greater_integers : (a b : ℤ) → is_true (binary (Compare Gt Binary) (Int a) (Int b)) ≡ int_lt b a
unfolding binary
greater_integers a b = truth_kept _ ∙ ap is_gt (value_cmp-Int a b) ∙ grind (arith, nat_tests)

-- ORDER BY the accession and the day, as checks rise
pub two_keys : (a b : ℕ) (d e : ℤ) → key_cmp 0 (rising ∷ rising ∷ []) (Int (pos a) ∷ Int d ∷ []) (Int (pos b) ∷ Int e ∷ []) ≡ ordering_then (int_cmp (pos a) (pos b)) (int_cmp d e)
two_keys a b d e = ap₂ ordering_then (value_cmp-Int (pos a) (pos b)) (then-Equal _ ∙ value_cmp-Int d e)

pub checks_rise : (a b : ℕ) (d e : ℤ) → is_lt (ordering_then (int_cmp (pos b) (pos a)) (int_cmp e d)) ≡ false → is_eq (ordering_then (nat_cmp a b) (int_cmp d e)) ≡ false
    → ordering_then (nat_cmp a b) (int_cmp d e) ≡ Less
checks_rise a b d e up apart = grind (arith, nat_tests)

later_all : (day : ℤ) (table rows : List Row) → Spells check_spelling table → IsPicked later_query (Int day ∷ []) table rows
    → rows ≡ map checkup_shown (entries (retain_keys (map_of check_spelling table) (is_after day)))
later_all day table rows spells picks =
    in_order check_spelling checkup_order later_query (Int day ∷ []) table rows spells picks (is_after day) checkup_shown (λ checkup. Int (pos checkup.acc) ∷ Int checkup.day ∷ [])
    (λ row is. ap (λ s. is_true (binary (Compare Gt Binary) (column s 1) (Int day)) && true) is ∙ and_true _ ∙ greater_integers (entry_of check_spelling row).0.day day)
    (λ row is. ap (λ s. (column s 0 ∷ column s 1 ∷ [], column s 0 ∷ column s 1 ∷ [])) is)
    (λ a b at bt up apart. checks_rise a.acc b.acc a.day b.day (sym (ap is_lt (two_keys b.acc a.acc b.day a.day)) ∙ up) apart)

-- the row that is shown is that of the first of them
pub later_found : (day : ℤ) (table rows : List Row) → Spells check_spelling table → IsStart later_query 1 (Int day ∷ []) table rows
    → rows ≡ map checkup_shown (take 1 (entries (retain_keys (map_of check_spelling table) (is_after day))))
later_found day table rows spells start = start.first ∙ ap (take 1) (later_all day table start.all spells start.picks) ∙ first_map (entries (retain_keys (map_of check_spelling table) (is_after day)))
  where
    first_map : (all : List (Checkup × Outcome)) → take 1 (map checkup_shown all) ≡ map checkup_shown (take 1 all)
    first_map [] = refl
    first_map (one ∷ more) = refl

-- rows show something exactly where there is something
none_shown : {A : Type 0} (f : A → Row) (all : List A) (rows : List Row) → rows ≡ map f all → rows ≡ [] → all ≡ []
none_shown f [] rows shown none = refl
none_shown f (one ∷ more) rows shown none = absurd (let both : [] ≡ f one ∷ map f more = sym none ∙ shown in cc both)

some_shown : {A : Type 0} (f : A → Row) (all : List A) (rows : List Row) → rows ≡ map f all → rows ≢ [] → all ≢ []
some_shown f all rows shown some none = some (shown ∙ ap (map f) none)

none_first : {A : Type 0} (all : List A) → take 1 all ≡ [] → all ≡ []
none_first [] none = refl
none_first (one ∷ more) none = absurd cc

-- so whether there are rows for the first tells whether there is something
pub later_told : {A : Type 0} (f : A → Row) (all : List A) (rows : List Row) (count : ℕ) (none : Bool) → rows ≡ map f (take 1 all) → count ≡ length rows → none ≡ (count == 0)
    → MatchBool (not none) (all ≢ []) (all ≡ [])
later_told f all rows count true shown len is = none_first all (none_shown f (take 1 all) rows shown (empty_by_length rows (sym len ∙ eqb-true count 0 (sym is))))
later_told f all rows count false shown len is = λ nothing. some_shown f (take 1 all) rows shown (λ none.
    let zero : count ≡ 0 = len ∙ ap length none in
    let both : false ≡ true = is ∙ subst (λ n. (n == 0) ≡ true) (sym zero) refl in cc both) (ap (take 1) nothing)
