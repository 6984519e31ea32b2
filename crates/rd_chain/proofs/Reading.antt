-- What the queries show, and what it says of the lines.
use Rattle.rd_chain.proofs.Common.{◌≡◌, ◌∙◌, ◌+◌, ◌<◌, ◌≤◌, ℕ, pos, Bool, true, false, List, [], ◌∷◌, length, map, refl, sym, ap, ap₂, subst, arith, nat_tests, codes, is_gt, Less, AllByRecursion, Database, IsDatabase, IsPermutation, IsPermutation-map, IsPermutation-sym, IsPermutation-trans, IsSorted, Row, Trees, Term, Int, column, FIRST_SUM, MOST_LINES, MOST_READ, Asks, Err, Ghosts, Held, HoldsChain, IfErr, IsOpen, Ok, OnOk, ReadsAfter, Result, AreAllRows, AreLaterRows, AreNextRows, AreRowsOfLines, End, IsChain, IsChainOf, by_number, columns_after, columns_of, end_of, end_with, history_schema, line_columns, lines, lines_in, lines_of, next_end, next_sum, row_of, seen, shown, state, value_cmp-Int}
use Rattle.rd_tables.proofs.ConnectionLaws.{Laws}
use Rattle.std.proofs.Common.{IfOk, Some, cond, drop, filter, get_or, is_lt, suc, take, zero}
use Rattle.std.proofs.lemmas.List.{drop-map, get_or-map, length-map, take-map}
use Rattle.sqlite_keyed.proofs.ListLemmas.{filter-map}
use Rattle.sqlite_trees.proofs.ListLemmas.{IsPermutation-filter, filter_all}
use Rattle.sqlite_trees.specs.Tree.{IsAscending}
use Rattle.sqlite.specs.Listing.{understood}
use Rattle.sqlite.specs.Order.{value_cmp}
use Rattle.sqlite.specs.Query.{Output, Query, output, output_cmp}
use Rattle.sqlite.specs.Tree.{rowid}
use Rattle.sqlite_tied.specs.Compute.{everything}
use Rattle.sqlite_value.proofs.OrderLemmas.{then-Equal}
use Rattle.sqlite_value.specs.Order.{bytes}
use Rattle.rd_tables.specs.Asked.{IsPicked, IsStart, asks_of, greater, rising}
use Rattle.rd_tables.proofs.Common.{col, holds, list_all}
use Rattle.rd_tables.proofs.ListLemmas.{and_true, filter_same, filter_true, map_map, permuted_images}
use Rattle.rd_tables.proofs.QueryTexts.{AsksOver, AsksStart}
use Rattle.rd_tables.proofs.Values.{greater_int}
use Rattle.rd_tables.specs.Walks.{is_after}
use Rattle.std.proofs.Common.{Vec}
use Rattle.std.proofs.lemmas.Result.{IfOk-weaker}
use Rattle.std.specs.declared.alloc.Global.{Global}
use Rattle.sqlite.specs.declared.rows.Row.{Row as SqlRow}
use Rattle.rd_chain.specs.declared.faults.ChainFault.{ChainFault}
use Rattle.rd_chain.specs.declared.faults.ChainFault.TheVariants.{Sql}
use Rattle.rd_chain.specs.declared.read.SummedLine.{SummedLine}
use Rattle.rd_chain.proofs.Laws.{keeps_of, leaves_only, stays_chain}
use Rattle.rd_chain.proofs.LineLemmas.{lines_back, rising_after, rising_alone}

-- ---- the queries

-- what they show of a row
abbrev pub line_terms : List Term
line_terms = col 1 0 ∷ col 1 2 ∷ col 1 3 ∷ []

abbrev pub all_text : List ℕ
all_text = codes "SELECT seq, line, sum FROM history ORDER BY seq"

pub all_asks : AsksOver history_schema all_text 0 [] line_terms ((col 1 0, rising) ∷ [])
unfolding understood everything
all_asks = record { names = codes "seq" ∷ codes "line" ∷ codes "sum" ∷ []; means = refl; plain = (refl, refl); stored = refl; here = λ trees. refl }

abbrev pub later_text : List ℕ
later_text = codes "SELECT seq, line, sum FROM history WHERE seq > ?1 ORDER BY seq LIMIT 200"

pub later_asks : AsksStart history_schema later_text MOST_READ 0 (greater 0 0 ∷ []) line_terms ((col 1 0, rising) ∷ [])
unfolding understood everything
later_asks = record { names = codes "seq" ∷ codes "line" ∷ codes "sum" ∷ []; means = refl; plain = (refl, refl); stored = refl; here = λ trees. refl }

module _ (tests : List Term) (params : Row) (table all : List Row) (picks : IsPicked (asks_of 0 tests line_terms ((col 1 0, rising) ∷ [])) params table all) where
  abbrev query : Query
  query = asks_of 0 tests line_terms ((col 1 0, rising) ∷ [])

  abbrev tells : Row → Output
  tells row = output query (params ∷ row ∷ [])

  abbrev passing : List Row
  passing = filter (λ row. list_all (holds (params ∷ row ∷ [])) tests) table

  found : (rows : List Row) × IsPermutation passing rows × (picks.ordered ≡ map tells rows)
  found = permuted_images tells passing picks.ordered picks.same

  shows : all ≡ map seen found.0
  shows = picks.shown ∙ ap (map (λ (o : Output). o.1)) found.2 ∙ map_map (λ (o : Output). o.1) tells found.0

  in_order : (rows : List Row) → IsSorted (output_cmp query) (map tells rows) → IsSorted by_number (map seen rows)
  in_order rows sorted k d low high =
      let within : k + 1 < length rows = omega (arith, high, length-map rows seen) in
      let before : k < length rows = omega (arith, within) in
      let a = get_or rows k [] in
      let b = get_or rows (k + 1) [] in
      ap₂ (λ x y. is_lt (by_number x y)) (get_or-map seen rows (k + 1) [] d within) (get_or-map seen rows k [] d before)
      ∙ sym (ap is_lt (then-Equal (value_cmp (rowid b) (rowid a))))
      ∙ sym (ap₂ (λ (x y : Output). is_lt (output_cmp query x y)) (get_or-map tells rows (k + 1) [] (tells []) within) (get_or-map tells rows k [] (tells []) before))
      ∙ sorted k (tells []) low (omega (arith, within, length-map rows tells))

  -- the rows that pass are shown
  pub all_of : IsPermutation (map seen passing) all
  all_of = subst (IsPermutation (map seen passing)) (sym shows) (IsPermutation-map seen passing found.0 found.1)

  -- by number
  pub by_numbers : IsSorted by_number all
  by_numbers = subst (IsSorted by_number) (sym shows) (in_order found.0 (subst (IsSorted (output_cmp query)) found.2 picks.sorted))

pub all_read : (trees : Trees) (rows : List Row) → IsPicked (asks_of 0 [] line_terms ((col 1 0, rising) ∷ [])) [] (trees 0) rows → AreAllRows trees rows
all_read trees rows picks = record {
  same = subst (λ l. IsPermutation (map seen l) rows) (filter_true (trees 0)) (all_of [] [] (trees 0) rows picks);
  sorted = by_numbers [] [] (trees 0) rows picks;
}

pub later_read : (after : ℕ) (trees : Trees) (rows : List Row) → IsStart (asks_of 0 (greater 0 0 ∷ []) line_terms ((col 1 0, rising) ∷ [])) MOST_READ (Int (pos after) ∷ []) (trees 0) rows → AreLaterRows after trees rows
later_read after trees rows starts = record {
  all = starts.all;
  first = starts.first;
  same = subst (λ l. IsPermutation (map seen l) starts.all) (filter_same _ _ (trees 0) (λ row here. and_true _ ∙ greater_int (column row 0) (pos after))) (all_of (greater 0 0 ∷ []) (Int (pos after) ∷ []) (trees 0) starts.all starts.picks);
  sorted = by_numbers (greater 0 0 ∷ []) (Int (pos after) ∷ []) (trees 0) starts.all starts.picks;
}

-- ---- rows of lines

next_rows : (end : End) (lines : List (List ℕ)) → end.number + length lines ≤ MOST_LINES → AreNextRows end (columns_after end.number end.sum lines)
next_rows end [] few = tt
next_rows end (line ∷ lines) few = (record { few = omega (arith, few); number = refl; line = refl; sum = refl }, next_rows (next_end end line) lines (omega (arith, few)))

rows_after : (end : End) (rows : List Row) → AreNextRows end rows → map shown rows ≡ columns_after end.number end.sum (lines_in rows)
rows_after end [] next = refl
rows_after end (row ∷ rows) next = λ i. (next.0.number i ∷ next.0.line i ∷ next.0.sum i ∷ []) ∷ rows_after (next_end end (bytes (column row 1))) rows next.1 i

few_after : (end : End) (rows : List Row) → AreNextRows end rows → end.number ≤ MOST_LINES → end.number + length rows ≤ MOST_LINES
few_after end [] next low = omega (arith, low)
few_after end (row ∷ rows) next low = let few = few_after (next_end end (bytes (column row 1))) rows next.1 (omega (arith, next.0.few)) in omega (arith, few)

module _ (trees : Trees) (rows : List Row) (all : AreAllRows trees rows) where
  -- rows that were read are nothing but what they show
  shown_same : map shown rows ≡ rows
  shown_same =
      let it = permuted_images seen (trees 0) rows all.same in
      ap (map shown) it.2 ∙ map_map shown seen it.0 ∙ sym it.2

  -- all rows of a chain are those of its lines
  pub rows_are : (these : List (List ℕ)) → IsPermutation (columns_of these) (map seen (trees 0)) → rows ≡ columns_of these
  rows_are these same = rising_alone (columns_of these) rows (rising_after 0 FIRST_SUM these) (IsPermutation-trans _ _ _ same all.same) all.sorted

  columns_are : AreRowsOfLines rows → rows ≡ columns_of (lines_in rows)
  columns_are next = sym shown_same ∙ rows_after (end_of []) rows next

-- rows of lines make the database a chain
pub chain_read : (db : Database) (rows : List Row) → db.schema ≡ history_schema → IsDatabase db → AreAllRows db.trees rows → AreRowsOfLines rows → IsChainOf (lines_in rows) db
chain_read db rows schema sound all next = record {
  schema = schema;
  rows = subst (λ l. IsPermutation l (map seen (db.trees 0))) (columns_are db.trees rows all next) (IsPermutation-sym _ _ all.same);
  few = omega (arith, few_after (end_of []) rows next (omega arith), length-map rows (λ row. bytes (column row 1)));
  sound = sound;
}

-- others do not
pub no_chain_read : (db : Database) (rows : List Row) → AreAllRows db.trees rows → ¬ AreRowsOfLines rows → ¬ IsChain db
no_chain_read db rows all others chain =
    let these = lines_of db.trees in
    others (subst AreRowsOfLines (sym (rows_are db.trees rows all these chain.rows)) (next_rows (end_of []) these (omega (arith, chain.few))))

-- ---- the lines after a number

abbrev beyond : ℕ → Row → Bool
beyond number row = is_gt (value_cmp (column row 0) (Int (pos number)))

higher : (m n : ℕ) → m < n → is_gt (value_cmp (Int (pos n)) (Int (pos m))) ≡ true
higher m n low = ap is_gt (value_cmp-Int (pos n) (pos m)) ∙ grind (arith, nat_tests, low)

no_higher : (m n : ℕ) → n ≤ m → is_gt (value_cmp (Int (pos n)) (Int (pos m))) ≡ false
no_higher m n high = ap is_gt (value_cmp-Int (pos n) (pos m)) ∙ grind (arith, nat_tests, high)

all_beyond : (low number : ℕ) (sum : List ℕ) (lines : List (List ℕ)) → low ≤ number → AllByRecursion (λ row. beyond low row ≡ true) (columns_after number sum lines)
all_beyond low number sum [] below = tt
all_beyond low number sum (line ∷ lines) below = (higher low (number + 1) (omega (arith, below)), all_beyond low (number + 1) (next_sum sum line) lines (omega (arith, below)))

later_columns : (k number : ℕ) (sum : List ℕ) (lines : List (List ℕ)) → filter (beyond (number + k)) (columns_after number sum lines) ≡ drop k (columns_after number sum lines)
later_columns zero number sum lines = filter_all (beyond (number + zero)) (columns_after number sum lines) (all_beyond (number + zero) number sum lines (omega arith))
later_columns (suc k) number sum [] = refl
later_columns (suc k) number sum (line ∷ lines) =
    let rest = columns_after (number + 1) (next_sum sum line) lines in
    let same : (number + 1) + k ≡ number + suc k = omega arith in
    ap (λ b. cond b (line_columns (number + 1) line (next_sum sum line) ∷ filter (beyond (number + suc k)) rest) (filter (beyond (number + suc k)) rest)) (no_higher (number + suc k) (number + 1) (omega arith))
    ∙ subst (λ n. filter (beyond n) rest ≡ drop k rest) same (later_columns k (number + 1) (next_sum sum line) lines)

beyond_dropped : (after : ℕ) (these : List (List ℕ)) → filter (beyond after) (columns_of these) ≡ drop after (columns_of these)
beyond_dropped after these = let is : 0 + after ≡ after = omega arith in subst (λ n. filter (beyond n) (columns_of these) ≡ drop after (columns_of these)) is (later_columns after 0 FIRST_SUM these)

rising_dropped : (k : ℕ) (rows : List Row) → IsAscending (λ row other. by_number row other ≡ Less) rows → IsAscending (λ row other. by_number row other ≡ Less) (drop k rows)
rising_dropped zero rows up = up
rising_dropped (suc k) [] up = tt
rising_dropped (suc k) (row ∷ rows) up = rising_dropped k rows up.1

pub later_lines : (these : List (List ℕ)) (after : ℕ) (trees : Trees) (rows : List Row) → IsPermutation (columns_of these) (map seen (trees 0)) → AreLaterRows after trees rows → map shown rows ≡ take MOST_READ (drop after (columns_of these))
later_lines these after trees rows same later =
    let left = filter (is_after (Some (pos after))) (trees 0) in
    let kept : IsPermutation (filter (beyond after) (columns_of these)) (map seen left) =
    subst (IsPermutation (filter (beyond after) (columns_of these))) (filter-map (beyond after) seen (trees 0)) (IsPermutation-filter (beyond after) (columns_of these) (map seen (trees 0)) same) in
    let dropped : IsPermutation (drop after (columns_of these)) later.all =
    subst (λ l. IsPermutation l later.all) (beyond_dropped after these) (IsPermutation-trans _ _ _ kept later.same) in
    let all : later.all ≡ drop after (columns_of these) = rising_alone (drop after (columns_of these)) later.all (rising_dropped after (columns_of these) (rising_after 0 FIRST_SUM these)) dropped later.sorted in
    let it = permuted_images seen left later.all later.same in
    let shows : map shown later.all ≡ later.all = ap (map shown) it.2 ∙ map_map shown seen it.0 ∙ sym it.2 in
    ap (map shown) later.first ∙ sym (take-map shown MOST_READ later.all) ∙ ap (take MOST_READ) (shows ∙ all)

-- so are the lines that are made of them
pub lines_read : (these : List (List ℕ)) (after : ℕ) (page : List SummedLine) → map row_of page ≡ take MOST_READ (drop after (columns_of these)) → map (λ line. line.line.items) page ≡ take MOST_READ (drop after these)
lines_read these after page read =
    let text : Row → List ℕ = λ row. bytes (column row 1) in
    sym (map_map text row_of page) ∙ ap (map text) read ∙ sym (take-map text MOST_READ (drop after (columns_of these)))
    ∙ ap (take MOST_READ) (sym (drop-map text after (columns_of these)) ∙ ap (drop after) (lines_back 0 FIRST_SUM these))

-- ---- row after row

pub end_step : (end : End) (line : List ℕ) (more : List (List ℕ)) → end_with (next_end end line) more ≡ end_with end (line ∷ more)
end_step end line more = let count : (end.number + 1) + length more ≡ end.number + length (line ∷ more) = omega arith in λ i. record { number = count i; sum = (end_with (next_end end line) more).sum }

-- ---- the call that reads lines

module _ {S : Type 0} (g : Ghosts S) (laws : Laws g) (old new : Held S) (number : ℕ) (holds : HoldsChain (state g old)) {rows : Vec SqlRow Global} (asks : Asks g old new (Ok rows) Sql (λ rows. AreLaterRows number (state g old).now.trees rows.items)) where
  pub reads_after : (r : Result (Vec SummedLine Global) ChainFault) → IfOk r (λ found. map row_of found.items ≡ map shown rows.items) → IfErr r (λ fault. fault ≡ Sql) → ReadsAfter g old new number r
  reads_after r is fault =
      let stays = asks.stays in
      let holds_new = stays_chain g old new stays holds in
      record {
        keeps = keeps_of g old new stays (λ was. (holds was).autocommit);
        answer = λ is_open. IfOk-weaker r _ _ (λ found columns. columns ∙ later_lines (lines g old) number (state g old).now.trees rows.items (holds (stays.lasts.was_open is_open)).holds.rows (asks.answer is_open)) is;
        fault = fault;
        ends_open = λ clean. still r (asks.ends_open clean);
        durable = leaves_only g laws new holds_new;
      }
    where
      still : (q : Result (Vec SummedLine Global) ChainFault) → IsOpen g new → OnOk q (IsOpen g new)
      still (Ok found) is_open = is_open
      still (Err fault) is_open = tt
