-- What the texts that ask for all rows of a table show.
use Rattle.rd_store.proofs.Common.{Ok, Err, ◌≤◌, All, Bool, true, false, MatchBool, ap₂, int_lt, true≢false, ◌≡◌, ◌⊎◌, inl, inr, ℕ, zero, suc, ◌+◌, ◌<◌, List, [], ◌∷◌, length, slice_index_or, refl, sym, ap, ◌∙◌, IsTrue, arith, Ghosts, Held, state, Trees, OpenFault, Inconsistent, Asks, IsOpen, IsReadable, TestsPart, HoldsListed, listing_text, listing_query, listing_tree, Has, id_in, is_int, column, Row, all_has, recursion_from_All, AreRising, IsPicked, comes_before, IsNonDecreasing, State, Shown, desk_schema, all_deeds_asks, all_rules_asks, all_keys_asks, all_checks_asks, all_files_asks, all_marks_asks, shown_picks}
use Rattle.rd_store.specs.declared.opening.TableListing.{TableListing}
use Rattle.rd_store.specs.declared.opening.TableListing.TheVariants.{Deeds, Rules, Keys, Checks, Files, Marks}

pub listing_reads : (table : TableListing) (s : State) → HoldsListed table s → IsTrue s.is_open → IsReadable (listing_text table) s
listing_reads Deeds s held is_open = let at = held is_open in record { over = _; rests = at.rests; plain = (all_deeds_asks at.more).plain }
listing_reads Rules s held is_open = let at = held is_open in record { over = _; rests = at.rests; plain = (all_rules_asks at.more).plain }
listing_reads Keys s held is_open = let at = held is_open in record { over = _; rests = at.rests; plain = (all_keys_asks at.more).plain }
listing_reads Checks s held is_open = let at = held is_open in record { over = _; rests = at.rests; plain = (all_checks_asks at.more).plain }
listing_reads Files s held is_open = let at = held is_open in record { over = _; rests = at.rests; plain = (all_files_asks at.more).plain }
listing_reads Marks s held is_open = record { over = desk_schema; rests = held is_open; plain = all_marks_asks.plain }

pub listing_picks : (table : TableListing) (old new : State) → HoldsListed table old → IsTrue old.is_open → (rows : List Row) → Shown (listing_text table) [] old new rows → IsPicked (listing_query table) [] (old.now.trees (listing_tree table)) rows
listing_picks Deeds old new held is_open rows shown = let at = held is_open in shown_picks (all_deeds_asks at.more) [] old new at.rests.schema rows shown
listing_picks Rules old new held is_open rows shown = let at = held is_open in shown_picks (all_rules_asks at.more) [] old new at.rests.schema rows shown
listing_picks Keys old new held is_open rows shown = let at = held is_open in shown_picks (all_keys_asks at.more) [] old new at.rests.schema rows shown
listing_picks Checks old new held is_open rows shown = let at = held is_open in shown_picks (all_checks_asks at.more) [] old new at.rests.schema rows shown
listing_picks Files old new held is_open rows shown = let at = held is_open in shown_picks (all_files_asks at.more) [] old new at.rests.schema rows shown
listing_picks Marks old new held is_open rows shown = shown_picks all_marks_asks [] old new (held is_open).schema rows shown

-- ---- places in a list

pub below_or_at : (m n : ℕ) → m < n + 1 → (m < n) ⊎ (m ≡ n)
below_or_at zero zero low = inr refl
below_or_at zero (suc n) low = inl (omega arith)
below_or_at (suc m) zero low = absurd (omega (arith, low))
below_or_at (suc m) (suc n) low = elim (below_or_at m n (omega (arith, low))) [
  | inl less ↦ inl (omega (arith, less))
  | inr same ↦ inr (ap (λ k. suc k) same)
]

-- within a list the default does not matter
pub any_default : {A : Type 0} (xs : List A) (k : ℕ) (d e : A) → k < length xs → slice_index_or xs k d ≡ slice_index_or xs k e
any_default [] k d e low = absurd (omega (arith, low))
any_default (x ∷ xs) zero d e low = refl
any_default (x ∷ xs) (suc k) d e low = any_default xs k d e (omega (arith, low))

pub at_default : (rows : List Row) (k at : ℕ) → k ≡ at → (row : Row) → k < length rows → row ≡ slice_index_or rows at row → slice_index_or rows k [] ≡ row
at_default rows k at same row low is = any_default rows k [] row low ∙ ap (λ n. slice_index_or rows n row) same ∙ sym is

pub has_at : {A : Type 0} (xs : List A) (k : ℕ) (x : A) → k < length xs → slice_index_or xs k x ≡ x → Has xs x
has_at [] k x low is = absurd (omega (arith, low))
has_at (y ∷ xs) zero x low is = inl (sym is)
has_at (y ∷ xs) (suc k) x low is = inr (has_at xs k x (omega (arith, low)) is)

-- ---- rows whose first columns rise

module _ (rows : List Row) where
  -- of two rows the first does not come before the next
  pub not_rising : (k : ℕ) (row next : Row) → k + 1 < length rows → slice_index_or rows k [] ≡ row → slice_index_or rows (k + 1) [] ≡ next → comes_before row next ≡ false → ¬ AreRising rows
  not_rising k row next low here there falls rising = true≢false (sym both_before ∙ ap₂ comes_before here there ∙ falls)
    where
      number : (n : ℕ) → n < length rows → is_int (column (slice_index_or rows n []) 0) ≡ true
      number n within =
          let r = slice_index_or rows n [] in
          all_has (λ (r : Row). is_int (column r 0) ≡ true) rows r (recursion_from_All (λ (r : Row). is_int (column r 0) ≡ true) rows rising.numbers) (has_at rows n r within (any_default rows n r [] within))

      both_before : comes_before (slice_index_or rows k []) (slice_index_or rows (k + 1) []) ≡ true
      both_before = rw (number k (omega (arith, low)), number (k + 1) low) (rising.rise k low)

  -- each comes before the next, and the first columns are numbers or not
  pub rising_told : ((k : ℕ) → k + 1 < length rows → int_lt (id_in (column (slice_index_or rows k []) 0)) (id_in (column (slice_index_or rows (k + 1) []) 0)) ≡ true)
      → (b : Bool) → MatchBool b (All (λ row. is_int (column row 0) ≡ true) rows) (¬ All (λ row. is_int (column row 0) ≡ true) rows) → MatchBool b (AreRising rows) (¬ AreRising rows)
  rising_told rise true numbers = record { numbers = numbers; rise = rise }
  rising_told rise false none = λ rising. none rising.numbers

-- numbers ascend, or one falls
pub ascending_told : (xs : List ℕ) (b : Bool) → MatchBool b (IsNonDecreasing xs) ((k : ℕ) × (k + 1 < length xs) × ((d : ℕ) → slice_index_or xs (k + 1) d < slice_index_or xs k d)) → MatchBool b (IsNonDecreasing xs) (¬ IsNonDecreasing xs)
ascending_told xs true up = up
ascending_told xs false fall = λ up.
    let below : slice_index_or xs fall.0 0 ≤ slice_index_or xs (fall.0 + 1) 0 = up fall.0 (fall.0 + 1) 0 (omega arith) fall.1 in
    let above = fall.2 0 in
    absurd (omega (arith, below, above))

-- ---- a listing that was read, and what its rows are told to be

module _ {S L : Type 0} (g : Ghosts S) (old new : Held S) {rows : L} {only : OpenFault} {Listed : L → Type 0} (asks : Asks g old new (Ok rows) only Listed) (Part P : Trees → Type 0) where
  -- they are those of a desk
  pub listing_passes : {T : Type 0} (value : T) → (IsOpen g old → Listed rows → Part (state g old).now.trees) → TestsPart g old new (Ok value) Part P
  listing_passes value told = record { stays = asks.stays; judges = λ o. told (asks.stays.lasts.was_open o) (asks.answer o); ends_open = asks.ends_open; refuses = tt; named = tt }

  -- or they are not
  pub listing_fails : {T : Type 0} → (IsOpen g old → Listed rows → ¬ P (state g old).now.trees) → TestsPart {T = T} g old new (Err Inconsistent) Part P
  listing_fails told = record {
    stays = asks.stays;
    judges = λ o. told (asks.stays.lasts.was_open o) (asks.answer o);
    ends_open = λ clean. tt;
    refuses = λ not_desk not_sql clean. asks.ends_open clean;
    named = λ is. absurd cc;
  }
