-- A query over one table shows the rows that pass.
use Rattle.rd_tables.proofs.Common.{◌≡◌, ℕ, List, [], ◌∷◌, ◌++◌, map, filter, Bool, true, false, cond, refl, ap, subst, ◌∙◌, list_all, flat_map, IsPermutation, Row, Key, Env, holds, IsAnswer, Output, output, overlay, Trees, asks_of, at_most, picked, IsPicked, IsStart}
use Rattle.sqlite_sql.specs.Term.{Term}
use Rattle.rd_tables.proofs.ListLemmas.{map_map}

passing : (p : Row → Bool) (f : Row → Env) (rows : List Row) → flat_map (λ row. cond (p row) (f row ∷ []) []) rows ≡ map f (filter p rows)
passing p f [] = refl
passing p f (r ∷ rows) = elim (p r) as (λ b. cond b (f r ∷ []) [] ++ flat_map (λ row. cond (p row) (f row ∷ []) []) rows ≡ map f (cond b (r ∷ filter p rows) (filter p rows))) [
  | true ↦ ap (λ more. f r ∷ more) (passing p f rows)
  | false ↦ passing p f rows
]

pub answer_picks : (tree : ℕ) (tests shown : List Term) (order : List (Term × Key)) (trees : Trees) (params : Row) (rows : List Row) → overlay trees [] tree ≡ trees tree
    → IsAnswer (asks_of tree tests shown order) (overlay trees []) params rows → IsPicked (asks_of tree tests shown order) params (trees tree) rows
answer_picks tree tests shown order trees params rows here answer =
    let query = asks_of tree tests shown order in
    let passes = λ (row : Row). list_all (holds (params ∷ row ∷ [])) tests in
    let envs : answer.staged ≡ map (λ row. params ∷ row ∷ []) (filter passes (trees tree)) =
    answer.grouped ∙ ap (flat_map (λ row. cond (passes row) ((params ∷ row ∷ []) ∷ []) [])) here ∙ passing passes (λ row. params ∷ row ∷ []) (trees tree) in
    let kept : answer.kept ≡ picked query params (trees tree) =
    answer.distinct ∙ ap (map (output query)) envs ∙ map_map (output query) (λ row. params ∷ row ∷ []) (filter passes (trees tree)) in
    record { ordered = answer.ordered; same = subst (λ k. IsPermutation k answer.ordered) kept answer.same; sorted = answer.sorted; shown = answer.shown }

-- the same of a query that shows no more rows than these
pub answer_starts : (tree : ℕ) (tests shown : List Term) (order : List (Term × Key)) (most : ℕ) (trees : Trees) (params : Row) (rows : List Row) → overlay trees [] tree ≡ trees tree
    → IsAnswer (at_most most (asks_of tree tests shown order)) (overlay trees []) params rows → IsStart (asks_of tree tests shown order) most params (trees tree) rows
answer_starts tree tests shown order most trees params rows here answer =
    let query = asks_of tree tests shown order in
    let passes = λ (row : Row). list_all (holds (params ∷ row ∷ [])) tests in
    let envs : answer.staged ≡ map (λ row. params ∷ row ∷ []) (filter passes (trees tree)) =
    answer.grouped ∙ ap (flat_map (λ row. cond (passes row) ((params ∷ row ∷ []) ∷ []) [])) here ∙ passing passes (λ row. params ∷ row ∷ []) (trees tree) in
    let kept : answer.kept ≡ picked query params (trees tree) =
    answer.distinct ∙ ap (map (output query)) envs ∙ map_map (output query) (λ row. params ∷ row ∷ []) (filter passes (trees tree)) in
    record {
      all = map (λ (o : Output). o.1) answer.ordered;
      picks = record { ordered = answer.ordered; same = subst (λ k. IsPermutation k answer.ordered) kept answer.same; sorted = answer.sorted; shown = refl };
      first = answer.shown;
    }
