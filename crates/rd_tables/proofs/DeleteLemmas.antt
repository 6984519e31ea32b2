-- What a DELETE of the rows that pass some tests makes of a table.
use Rattle.rd_tables.proofs.Common.{◌≡◌, inl, inr, ℕ, List, [], ◌∷◌, map, filter, Bool, cond, Ok, refl, sym, ap, subst, ◌∙◌, list_all, Contains-permutation, IsPermutation-sym, cases_Bool, Null, Row, Trees, rowid, Term, Query, IsAnswer, Output, output, overlay, without_all, Task, Written, Deletes, works, ids_of, Has, has_filtered, has_kept, has_contained, contains_had, rowids_of}
use Rattle.std.proofs.Common.{flat_map}
use Rattle.sqlite.specs.Term.{holds}
use Rattle.rd_tables.proofs.ListLemmas.{in_map, from_map}
use Rattle.rd_tables.proofs.RemovedRows.{Picks}
use Rattle.rd_tables.proofs.TableSteps.{SetsRows, went, same_value, clears}

module _ (tree : ℕ) (tests : List Term) (params : Row) (here : (trees : Trees) → overlay trees [] tree ≡ trees tree) where
  abbrev query : Query
  query = rowids_of tree tests

  -- the row passes
  abbrev test : Row → Bool
  test row = list_all (holds (params ∷ row ∷ [])) tests

  abbrev out : Row → Output
  out row = ([], rowid row ∷ [])

  shows : (rows : List Row) → map (output query) (flat_map (λ row. cond (test row) ((params ∷ row ∷ []) ∷ []) []) rows) ≡ map out (filter test rows)
  shows [] = refl
  shows (r ∷ rows) = elim (cases_Bool (test r)) [
    | inl pass ↦ rw pass (ap (λ more. out r ∷ more) (shows rows))
    | inr fail ↦ rw fail (shows rows)
  ]

  -- the query shows the rowids of the rows that pass
  picks_by : (trees : Trees) (found : List Row) → IsAnswer query (overlay trees []) params found → Picks test (trees tree) found
  picks_by trees found answer =
      let kept : answer.kept ≡ map out (filter test (trees tree)) =
      subst (λ rows. answer.kept ≡ map out (filter test rows)) (here trees) (answer.distinct ∙ ap (map (output query)) answer.grouped ∙ shows (overlay trees [] tree)) in
      record {
        sound = λ x there.
            let o = from_map (λ (it : Output). it.1) answer.ordered x (subst (λ xs. Has xs x) answer.shown there) in
            let was = has_contained answer.kept o.0 (Contains-permutation answer.ordered answer.kept o.0 (IsPermutation-sym _ _ answer.same) (contains_had answer.ordered o.0 o.1)) in
            let row = from_map out (filter test (trees tree)) o.0 (subst (λ xs. Has xs o.0) kept was) in
            let stood = has_filtered test (trees tree) row.0 row.1 in
            (row.0, stood.0, stood.1, o.2 ∙ ap (λ (it : Output). it.1) row.2);
        complete = λ row stands pass.
            let was : Has answer.kept (out row) = subst (λ xs. Has xs (out row)) (sym kept) (in_map out (filter test (trees tree)) row (has_kept test (trees tree) row stands pass)) in
            let now = has_contained answer.ordered (out row) (Contains-permutation answer.kept answer.ordered (out row) answer.same (contains_had answer.kept (out row) was)) in
            subst (λ xs. Has xs (rowid row ∷ [])) (sym answer.shown) (in_map (λ (it : Output). it.1) answer.ordered (out row) now);
      }

  module _ (task : Task) (quiet : (olds : List Row) → works task.schema task.keys 0 task.table.tree olds [] ≡ []) (at : task.table.tree ≡ tree) (given : task.params ≡ params) where
    pub deletes : (trees : Trees) (w : Written) → Deletes task (record { lets = []; body = query }) trees (Ok w)
        → (found : List Row) × Picks test (trees tree) found × SetsRows task.schema task.table.tree trees w.trees (without_all (trees task.table.tree) (ids_of found))
    deletes trees w h =
        let answered = went h in
        let edited = went answered.2 in
        let same : w.trees ≡ edited.0 = ap (λ (it : Written). it.trees) (same_value edited.2) in
        let sets = clears task quiet trees edited.0 (ids_of answered.0) edited.1 in (
          answered.0,
          picks_by trees answered.0 (subst (λ p. IsAnswer query (overlay trees []) p answered.0) given (answered.1.answer Null)),
          subst (λ t. SetsRows task.schema task.table.tree trees t (without_all (trees task.table.tree) (ids_of answered.0))) (sym same) sets,
        )
