-- What one statement makes of the rows of a table, where no foreign key acts on what it does.
use Rattle.rd_tables.proofs.Common.{◌≡◌, ◌≢◌, ◌⊎◌, inl, inr, ℕ, ◌/◌, ℤ, List, [], ◌∷◌, length, false, Option, Result, Ok, Err, refl, ap, subst, ◌∙◌, and_parts, Row, Trees, put_row, Term, Schema, Edit, edit_of, taken_by, without_all, IsNoIndex, is_taken, with_rowid, cast_row, Chosen, Given, Written, Task, Edited, Inserts, stamped, count_of, rowids_for, Counts, value_rows, one_step, works}
use Rattle.rd_tables.proofs.ListLemmas.{negated}
use Rattle.sqlite.specs.Source.TheVariants.{Values}

-- The rows on one tree are these, and each other tree but those of indexes is as it was.
pub record SetsRows (schema : Schema) (tree : ℕ) (old new : Trees) (rows : List Row) : Type 0 where
  pub now : new tree ≡ rows
  pub others : (t : ℕ) → t ≢ tree → IsNoIndex schema t → new t ≡ old t

-- a part that gave a value did not stop on the way
pub went : {B E R : Type 0} {b : B} {Stops : E → Type 0} → ((stop : E) × Stops stop × (Ok b ≡ Err stop)) ⊎ R → R
went (inl stopped) = absurd (let e = stopped.2 in cc)
went (inr on) = on

pub same_value : {B E : Type 0} {a b : B} → ◌≡◌ {A = Result B E} (Ok a) (Ok b) → a ≡ b
same_value e = cc

module _ (task : Task) where
  chosen : task.table.is_counted ≡ false → (top : ℤ) → rowids_for task.table top ≡ Chosen
  chosen uncounted top = rw uncounted refl

  uncounted_stays : task.table.is_counted ≡ false → (trees : Trees) (counter : Option Row) (top : ℤ) (next : Trees) → Counts task trees counter top (Ok next) → next ≡ trees
  uncounted_stays uncounted trees counter top next h = same_value (rw uncounted at h)

module _ (task : Task) (quiet : (olds : List Row) → works task.schema task.keys 0 task.table.tree olds [] ≡ []) where
  abbrev tree : ℕ
  tree = task.table.tree

  -- rows are taken out
  pub clears : (trees next : Trees) (ids : List ℤ) → Edited task.schema task.keys trees (edit_of trees task.table ids Given 0 []) (Ok next) → SetsRows task.schema tree trees next (without_all (trees tree) ids)
  clears trees next ids h = let applied = one_step task.schema task.keys trees next _ (quiet _) h in record { now = applied.rows; others = applied.others }

  module _ (quiet_one : (olds : List Row) (row : Row) → works task.schema task.keys 0 task.table.tree olds (row ∷ []) ≡ []) where
    -- INSERT of one row, which the columns take as `new`: its rowid was free
    pub inserts : task.table.is_counted ≡ false → (terms : List Term) (width : ℕ) (source : Row) (trees : Trees) (w : Written)
        → value_rows (stamped task.table task.params) width (length terms / width) terms ≡ source ∷ [] → Inserts task (Values terms width) trees (Ok w)
        → (new : Row) → with_rowid Chosen (trees tree) (cast_row task.table source) ≡ new → (is_taken (trees tree) new ≡ false) × SetsRows task.schema tree trees w.trees (put_row new (trees tree))
    inserts uncounted terms width source trees w is h new is_new =
        let given = went h in
        let counter = went given.2 in
        let edited = went counter.2 in
        let counts = went edited.2 in
        let rows : given.0 ≡ source ∷ [] = given.1.1 ∙ is in
        let all : w.trees ≡ edited.0 = ap (λ (it : Written). it.trees) (same_value counts.2) ∙ uncounted_stays task uncounted edited.0 counter.0 _ counts.0 counts.1 in
        let one = subst (λ xs. Edited task.schema task.keys trees (edit_of trees task.table [] (rowids_for task.table (count_of counter.0)) 0 xs) (Ok edited.0)) rows edited.1 in
        let by_choice = subst (λ ids. Edited task.schema task.keys trees (edit_of trees task.table [] ids 0 (source ∷ [])) (Ok edited.0)) (chosen task uncounted (count_of counter.0)) one in
        let edit : Edit = edit_of trees task.table [] Chosen 0 (source ∷ []) in
        let applied = one_step task.schema task.keys trees edited.0 edit (quiet_one (taken_by trees edit) (with_rowid Chosen (trees tree) (cast_row task.table source))) by_choice in (
          subst (λ row. is_taken (trees tree) row ≡ false) is_new (negated _ (and_parts _ _ applied.fresh).0),
          record {
            now = ap (λ (t : Trees). t tree) all ∙ applied.rows ∙ ap (λ row. put_row row (trees tree)) is_new;
            others = λ t other none. ap (λ (it : Trees). it t) all ∙ applied.others t other none;
          },
        )
