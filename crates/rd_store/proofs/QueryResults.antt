-- What the queries show of a desk.
use Rattle.rd_store.proofs.Common.{◌≡◌, inl, inr, ℕ, zero, suc, ap₂, ◌<◌, slice_index_or, pos, List, [], ◌∷◌, map, Bool, true, false, Option, Some, None, option_map, refl, sym, ap, ◌∙◌, arith, nat_cmp, int_cmp, is_lt, is_eq, Less, Equal, Greater, Ordering, ◌&&◌, ◌==◌, All, subst, length, MatchBool, option_to_list, Any, nat_list_cmp_total, recursion_from_All, Has, all_has, value_cmp-Blob, value_cmp-Int, then-Equal, Audience, Staff, eq_by_cmp, ordering_then, ordering_reverse, get, entries, retain_keys, nat_tests, Int, Blob, Row, column, key_cmp, Binary, is_true, Length, TypeOf, Compare, Eq, IsPicked, rising, all_deeds_query, all_images_query, deed_query, image_query, marks_query, audience_query, rules_query, placed_rules_query, keys_query, Spells, entry_of, map_of, natural, seen, and_true, both, in_map, from_map, equal_numbers, equal_blobs, retain_all, entry_got, got_entry, looked_up, in_order, got_row, Band, image_columns, Desk, Place, Terms, digest_cmp, place_cmp, rule_of, HasOtherStaff, band_code, is_at, DeedRow, ImageRow, as_row, deed_shown, image_shown, marks_shown, audience_shown, ShowsOther, IsOtherKey, deed_spelling, image_spelling, key_spelling, marks_spelling, rule_spelling}
use Rattle.sqlite_sql.specs.Ops.{binary, unary}
use Rattle.rd_store.proofs.Orders.{number_order, digest_order, place_order, kind_back, rule_back, key_back}

-- the first column equals the parameter
first_is : (n : ℕ) (k : ℕ) → (is_true (binary (Compare Eq Binary) (Int (pos k)) (Int (pos n))) && true) ≡ eq_by_cmp nat_cmp n k
first_is n k = and_true _ ∙ equal_numbers k n

module _ (n : ℕ) (table rows : List Row) where
  pub deed_found : Spells deed_spelling table → IsPicked deed_query (Int (pos n) ∷ []) table rows → rows ≡ map deed_shown (option_to_list (get (map_of deed_spelling table) n))
  deed_found spells picks = looked_up deed_spelling number_order deed_query (Int (pos n) ∷ []) table rows spells picks n deed_shown
      (λ row is. ap (λ s. is_true (binary (Compare Eq Binary) (column s 0) (Int (pos n))) && true) is ∙ first_is n _) (λ row is. ap (λ s. ([], column s 1 ∷ column s 2 ∷ [])) is)

  pub image_found : Spells image_spelling table → IsPicked image_query (Int (pos n) ∷ []) table rows → rows ≡ map image_shown (option_to_list (get (map_of image_spelling table) n))
  image_found spells picks = looked_up image_spelling number_order image_query (Int (pos n) ∷ []) table rows spells picks n image_shown
      (λ row is. ap (λ s. is_true (binary (Compare Eq Binary) (column s 0) (Int (pos n))) && true) is ∙ first_is n _) (λ row is. ap (λ s. ([], column s 1 ∷ column s 2 ∷ column s 3 ∷ column s 4 ∷ [])) is)

  -- the error bytes of an accession
  pub marks_found : Spells marks_spelling table → IsPicked marks_query (Int (pos n) ∷ []) table rows → rows ≡ map marks_shown (option_to_list (get (map_of marks_spelling table) n))
  marks_found spells picks = looked_up marks_spelling number_order marks_query (Int (pos n) ∷ []) table rows spells picks n marks_shown
      (λ row is. ap (λ s. is_true (binary (Compare Eq Binary) (column s 0) (Int (pos n))) && true) is ∙ first_is n _) (λ row is. ap (λ s. ([], column s 1 ∷ [])) is)

-- ORDER BY a number, whose numbers differ
numbers_rise : (a b : ℕ) → true ≡ true → true ≡ true → is_lt (key_cmp 0 (rising ∷ []) (Int (pos b) ∷ []) (Int (pos a) ∷ [])) ≡ false → eq_by_cmp nat_cmp a b ≡ false → nat_cmp a b ≡ Less
numbers_rise a b here there up apart =
    let late : is_lt (int_cmp (pos b) (pos a)) ≡ false = sym (ap is_lt (then-Equal _ ∙ value_cmp-Int (pos b) (pos a))) ∙ up in
    grind (arith, nat_tests)

-- what is shown of all images
pub images_listed : (table rows : List Row) → Spells image_spelling table → IsPicked all_images_query [] table rows → rows ≡ map image_columns (entries (map_of image_spelling table))
images_listed table rows spells picks =
    in_order image_spelling number_order all_images_query [] table rows spells picks (λ _. true) image_columns (λ acc. Int (pos acc) ∷ []) (λ row is. refl)
    (λ row is. ap (λ s. (column s 0 ∷ [], column s 0 ∷ column s 1 ∷ column s 2 ∷ column s 3 ∷ unary Length (column s 4) ∷ unary TypeOf (column s 4) ∷ column s 4 ∷ [])) is) numbers_rise
    ∙ ap (λ m. map image_columns (entries m)) (retain_all nat_cmp number_order (map_of image_spelling table))

-- what is shown of all deeds
pub deeds_listed : (table rows : List Row) → Spells deed_spelling table → IsPicked all_deeds_query [] table rows → rows ≡ map deed_spelling.columns (entries (map_of deed_spelling table))
deeds_listed table rows spells picks =
    in_order deed_spelling number_order all_deeds_query [] table rows spells picks (λ _. true) deed_spelling.columns (λ num. Int (pos num) ∷ []) (λ row is. refl)
    (λ row is. ap (λ s. (column s 0 ∷ [], s)) is) numbers_rise
    ∙ ap (λ m. map deed_spelling.columns (entries m)) (retain_all nat_cmp number_order (map_of deed_spelling table))

-- the deeds that columns spell
pub deeds_back : (es : List (ℕ × DeedRow)) → map deed_spelling.entry (map deed_spelling.columns es) ≡ es
deeds_back [] = refl
deeds_back (e ∷ es) = λ i. e ∷ deeds_back es i

-- each image of the table is as its row tells it
pub row_back : (table : List Row) → (acc : ℕ) (image : ImageRow) → get (map_of image_spelling table) acc ≡ Some image → as_row image ≡ image
row_back table acc image found =
    let row = got_row image_spelling number_order table acc image found in
    subst (λ (i : ImageRow). as_row i ≡ i) (ap (λ (e : ℕ × ImageRow). e.1) (sym row.2)) (λ i. record (entry_of image_spelling row.0).1 { kind = kind_back (natural (column row.0 2)) i })

pub rows_back : (table : List Row) (acc : ℕ) → option_map as_row (get (map_of image_spelling table) acc) ≡ get (map_of image_spelling table) acc
rows_back table acc = go (get (map_of image_spelling table) acc) refl
  where
    go : (found : Option ImageRow) → get (map_of image_spelling table) acc ≡ found → option_map as_row found ≡ found
    go None is = refl
    go (Some image) is = ap Some (row_back table acc image is)

module _ (digest : List ℕ) (table rows : List Row) where
  pub audience_found : Spells key_spelling table → IsPicked audience_query (Blob digest ∷ []) table rows → rows ≡ map audience_shown (option_to_list (get (map_of key_spelling table) digest))
  audience_found spells picks = looked_up key_spelling digest_order audience_query (Blob digest ∷ []) table rows spells picks digest audience_shown
      (λ row is. ap (λ s. is_true (binary (Compare Eq Binary) (column s 0) (Blob digest)) && true) is ∙ and_true _ ∙ equal_blobs _ digest) (λ row is. ap (λ s. ([], column s 1 ∷ [])) is)

-- in one band and for one number the ranks decide
ranks_rise : (x y s t m n band scope : ℕ) → ((x == band) && (s == scope)) ≡ true → ((y == band) && (t == scope)) ≡ true → is_lt (int_cmp (pos n) (pos m)) ≡ false
    → is_eq (ordering_then (nat_cmp x y) (ordering_then (nat_cmp s t) (nat_cmp m n))) ≡ false → ordering_then (nat_cmp x y) (ordering_then (nat_cmp s t) (nat_cmp m n)) ≡ Less
ranks_rise x y s t m n band scope here there up apart =
    let h : (x == band) ≡ true = (both (x == band) (s == scope) here).0 in
    let i : (s == scope) ≡ true = (both (x == band) (s == scope) here).1 in
    let j : (y == band) ≡ true = (both (y == band) (t == scope) there).0 in
    let k : (t == scope) ≡ true = (both (y == band) (t == scope) there).1 in
    grind (arith, nat_tests)

module _ (band : Band) (scope : ℕ) (table rows : List Row) where
  abbrev here : Place → Bool
  here place = is_at band scope place.band place.scope

  pub rules_found : Spells rule_spelling table → IsPicked rules_query (Int (pos (band_code band)) ∷ Int (pos scope) ∷ []) table rows → rows ≡ map rule_spelling.columns (entries (retain_keys (map_of rule_spelling table) here))
  rules_found spells picks =
      in_order rule_spelling place_order rules_query (Int (pos (band_code band)) ∷ Int (pos scope) ∷ []) table rows spells picks here rule_spelling.columns (λ place. Int (pos place.rank) ∷ [])
      (λ row is. ap (λ s. is_true (binary (Compare Eq Binary) (column s 0) (Int (pos (band_code band)))) && (is_true (binary (Compare Eq Binary) (column s 1) (Int (pos scope))) && true)) is
      ∙ rw (equal_numbers (band_code (rule_spelling.entry (seen rule_spelling.places row)).0.band) (band_code band), equal_numbers (rule_spelling.entry (seen rule_spelling.places row)).0.scope scope, and_true) (grind (arith, nat_tests)))
      (λ row is. ap (λ s. (column s 2 ∷ [], s)) is)
      (λ a b at bt up apart. ranks_rise (band_code a.band) (band_code b.band) a.scope b.scope a.rank b.rank (band_code band) scope at bt (sym (ap is_lt (then-Equal _ ∙ value_cmp-Int (pos b.rank) (pos a.rank))) ∙ up) apart)

-- ORDER BY the band, the number and the rank, as the places of rules rise
three_keys : (x y s t m n : ℕ) → key_cmp 0 (rising ∷ rising ∷ rising ∷ []) (Int (pos x) ∷ Int (pos s) ∷ Int (pos m) ∷ []) (Int (pos y) ∷ Int (pos t) ∷ Int (pos n) ∷ []) ≡ ordering_then (int_cmp (pos x) (pos y)) (ordering_then (int_cmp (pos s) (pos t)) (int_cmp (pos m) (pos n)))
three_keys x y s t m n = ap₂ ordering_then (value_cmp-Int (pos x) (pos y)) (ap₂ ordering_then (value_cmp-Int (pos s) (pos t)) (then-Equal _ ∙ value_cmp-Int (pos m) (pos n)))

places_rise : (x y s t m n : ℕ) → is_lt (ordering_then (int_cmp (pos y) (pos x)) (ordering_then (int_cmp (pos t) (pos s)) (int_cmp (pos n) (pos m)))) ≡ false
    → is_eq (ordering_then (nat_cmp x y) (ordering_then (nat_cmp s t) (nat_cmp m n))) ≡ false → ordering_then (nat_cmp x y) (ordering_then (nat_cmp s t) (nat_cmp m n)) ≡ Less
places_rise x y s t m n up apart = grind (arith, nat_tests)

pub rules_placed : (table rows : List Row) → Spells rule_spelling table → IsPicked placed_rules_query [] table rows → rows ≡ map rule_spelling.columns (entries (map_of rule_spelling table))
rules_placed table rows spells picks =
    in_order rule_spelling place_order placed_rules_query [] table rows spells picks (λ _. true) rule_spelling.columns (λ place. Int (pos (band_code place.band)) ∷ Int (pos place.scope) ∷ Int (pos place.rank) ∷ [])
    (λ row is. refl)
    (λ row is. ap (λ s. (column s 0 ∷ column s 1 ∷ column s 2 ∷ [], s)) is)
    (λ a b here there up apart. places_rise (band_code a.band) (band_code b.band) a.scope b.scope a.rank b.rank (sym (ap is_lt (three_keys (band_code b.band) (band_code a.band) b.scope a.scope b.rank a.rank)) ∙ up) apart)
    ∙ ap (λ m. map rule_spelling.columns (entries m)) (retain_all place_cmp place_order (map_of rule_spelling table))

-- the rules that columns spell
pub rules_back : (es : List (Place × Terms)) → map (λ row. rule_of (rule_spelling.entry row)) (map rule_spelling.columns es) ≡ map rule_of es
rules_back [] = refl
rules_back (e ∷ es) = λ i. rule_of (rule_back e i) ∷ rules_back es i

-- ---- all desk keys

-- ORDER BY a digest, whose digests differ
digests_rise : (a b : List ℕ) → true ≡ true → true ≡ true → is_lt (key_cmp 0 (rising ∷ []) (Blob b ∷ []) (Blob a ∷ [])) ≡ false → eq_by_cmp digest_cmp a b ≡ false → digest_cmp a b ≡ Less
digests_rise a b first second up apart = go (digest_cmp a b) apart (sym (ap is_lt (nat_list_cmp_total.antisymm b a)) ∙ sym (ap is_lt (then-Equal _ ∙ value_cmp-Blob b a)) ∙ up)
  where
    go : (o : Ordering) → is_eq o ≡ false → is_lt (ordering_reverse o) ≡ false → o ≡ Less
    go Less e f = refl
    go Equal e f = absurd cc
    go Greater e f = absurd cc

pub keys_found : (table rows : List Row) → Spells key_spelling table → IsPicked keys_query [] table rows → rows ≡ map key_spelling.columns (entries (map_of key_spelling table))
keys_found table rows spells picks =
    in_order key_spelling digest_order keys_query [] table rows spells picks (λ _. true) key_spelling.columns (λ digest. Blob digest ∷ []) (λ row is. refl) (λ row is. ap (λ s. (column s 0 ∷ [], s)) is) digests_rise
    ∙ ap (λ m. map key_spelling.columns (entries m)) (retain_all digest_cmp digest_order (map_of key_spelling table))

-- the keys that columns spell
pub keys_back : (es : List (List ℕ × Audience)) → map key_spelling.entry (map key_spelling.columns es) ≡ es
keys_back [] = refl
keys_back (e ∷ es) = λ i. key_back e i ∷ keys_back es i

pub any_has : (P : Row → Type 0) (rows : List Row) → Any P rows → (row : Row) × Has rows row × P row
any_has P rows any = (any.1, at rows any.0 any.1 any.2 any.3, any.4)
  where
    at : (rs : List Row) (k : ℕ) (row : Row) → k < length rs → slice_index_or rs k row ≡ row → Has rs row
    at [] k row low is = absurd (omega (arith, low))
    at (r ∷ rs) zero row low is = inl (sym is)
    at (r ∷ rs) (suc k) row low is = inr (at rs k row (omega (arith, low)) is)

-- the rows that show all keys tell whether another staff key stands
module _ (desk : Desk) (digest : List ℕ) (rows : List Row) (are : rows ≡ map key_spelling.columns (entries desk.keys)) where
  pub other_shown : Any (ShowsOther digest) rows → HasOtherStaff desk digest
  other_shown any =
      let it = any_has (ShowsOther digest) rows any in
      let e = from_map key_spelling.columns (entries desk.keys) it.0 (subst (λ l. Has l it.0) are it.1) in
      let is : IsOtherKey digest e.0 = subst (IsOtherKey digest) (ap key_spelling.entry e.2 ∙ key_back e.0) it.2 in
      (e.0.0, is.0, entry_got digest_cmp digest_order desk.keys e.0.0 e.0.1 e.1 ∙ ap Some is.1)

  pub none_shown : All (λ row. ¬ ShowsOther digest row) rows → ¬ HasOtherStaff desk digest
  none_shown none other =
      let e : List ℕ × Audience = (other.0, Staff) in
      let here : Has rows (key_spelling.columns e) = subst (λ l. Has l (key_spelling.columns e)) (sym are) (in_map key_spelling.columns (entries desk.keys) e (got_entry digest_cmp digest_order desk.keys other.0 Staff other.2)) in
      all_has (λ row. ¬ ShowsOther digest row) rows (key_spelling.columns e) (recursion_from_All (λ row. ¬ ShowsOther digest row) rows none) here (subst (IsOtherKey digest) (sym (key_back e)) (other.1, refl))

  pub other_told : (b : Bool) → MatchBool b (Any (ShowsOther digest) rows) (All (λ row. ¬ ShowsOther digest row) rows) → MatchBool b (HasOtherStaff desk digest) (¬ HasOtherStaff desk digest)
  other_told true shown = other_shown shown
  other_told false none = none_shown none
