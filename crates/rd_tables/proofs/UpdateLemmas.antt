-- What an UPDATE of one row, which stays at its rowid, makes of a table.
use Rattle.rd_tables.proofs.Common.{◌≡◌, ℤ, List, [], ◌∷◌, map, filter, Bool, Ok, ap, subst, ◌∙◌, list_all, IsPermutation, Null, Int, Row, Trees, put_row, without_rowid, Term, Query, Output, output, overlay, Edit, edit_of, taken_by, cast_row, Given, Written, Task, Edited, Updates, one_permutation, one_step, works, ids_of, asks_of}
use Rattle.sqlite.specs.Term.{holds}
use Rattle.rd_tables.proofs.PickedRows.{answer_picks}
use Rattle.rd_tables.proofs.TableSteps.{SetsRows, went, same_value}

module _ (task : Task) (quiet : (olds : List Row) (row : Row) → works task.schema task.keys 0 task.table.tree olds (row ∷ []) ≡ []) (tests terms : List Term) (params : Row)
    (here : (trees : Trees) → overlay trees [] task.table.tree ≡ trees task.table.tree) where
  abbrev pub query : Query
  query = asks_of task.table.tree tests terms []

  -- the row passes
  abbrev pub test : Row → Bool
  test row = list_all (holds (params ∷ row ∷ [])) tests

  -- what is shown of a row: its rowid, and the row as it is then
  abbrev pub shown : Row → Row
  shown row = (output query (params ∷ row ∷ [])).1

  -- one row passes, and the columns take what it becomes as it is
  pub updates : (trees : Trees) (w : Written) (row new : Row) (id : ℤ) → filter test (trees task.table.tree) ≡ row ∷ [] → shown row ≡ Int id ∷ new → cast_row task.table new ≡ new
      → Updates task (record { lets = []; body = query }) params trees (Ok w) → SetsRows task.schema task.table.tree trees w.trees (put_row new (without_rowid id (trees task.table.tree)))
  updates trees w row new id one becomes again h =
      let answered = went h in
      let edited = went answered.2 in
      let picks = answer_picks task.table.tree tests terms [] trees params answered.0 (here trees) (answered.1.answer Null) in
      let same : IsPermutation (output query (params ∷ row ∷ []) ∷ []) picks.ordered = subst (λ kept. IsPermutation (map (λ r. output query (params ∷ r ∷ [])) kept) picks.ordered) one picks.same in
      let rows : answered.0 ≡ (Int id ∷ new) ∷ [] = picks.shown ∙ ap (map (λ (out : Output). out.1)) (one_permutation _ _ same) ∙ ap (λ r. r ∷ []) becomes in
      let by = subst (λ rs. Edited task.schema task.keys trees (edit_of trees task.table (ids_of rs) Given 1 rs) (Ok edited.0)) rows edited.1 in
      let edit : Edit = edit_of trees task.table (id ∷ []) Given 1 ((Int id ∷ new) ∷ []) in
      let applied = one_step task.schema task.keys trees edited.0 edit (quiet (taken_by trees edit) (cast_row task.table new)) by in
      let all : w.trees ≡ edited.0 = ap (λ (it : Written). it.trees) (same_value edited.2) in
      record {
        now = ap (λ (t : Trees). t task.table.tree) all ∙ applied.rows ∙ ap (λ r. put_row r (without_rowid id (trees task.table.tree))) again;
        others = λ t other none. ap (λ (it : Trees). it t) all ∙ applied.others t other none;
      }
