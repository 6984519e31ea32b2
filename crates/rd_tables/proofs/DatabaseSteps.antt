-- What one statement on the rows of a table makes of a database of the desk.
use Rattle.rd_tables.proofs.Common.{◌≡◌, ℕ, ◌==◌, List, [], ◌∷◌, Bool, true, false, not, cond, ◌||◌, filter, None, Ok, refl, sym, ap, ◌∙◌, true≢false, is_eq, arith, Row, value_cmp, Trees, rowid, IsNoIndex, is_taken, Database, Tally, Concludes, Task, Written, Mode, desk_schema}
use Rattle.rd_tables.proofs.ListLemmas.{equals_itself}
use Rattle.rd_tables.proofs.TableSteps.{SetsRows, went, same_value}

-- the trees of the indexes
abbrev pub is_index_tree : ℕ → Bool
is_index_tree t = (t == 4) || ((t == 6) || ((t == 8) || (t == 10)))

no_index : (t : ℕ) → is_index_tree t ≡ false → IsNoIndex desk_schema t
no_index t h = grind arith

-- One table has these rows, and the others are as they were.
pub record Sets (tree : ℕ) (db after : Database) (rows : List Row) : Type 0 where
  pub schema : after.schema ≡ desk_schema
  pub now : after.trees tree ≡ rows
  pub stays : (t : ℕ) → (t == tree) ≡ false → is_index_tree t ≡ false → after.trees t ≡ db.trees t

pub sets_rows : (tree : ℕ) (db after : Database) (trees : Trees) (rows : List Row) → SetsRows desk_schema tree db.trees trees rows → after ≡ record { schema = desk_schema; trees = trees } → Sets tree db after rows
sets_rows tree db after trees rows sets is = record {
  schema = ap (λ (d : Database). d.schema) is;
  now = ap (λ (d : Database). d.trees tree) is ∙ sets.now;
  stays = λ t other none. ap (λ (d : Database). d.trees t) is ∙ sets.others t (λ e. absurd (let same : (t == tree) ≡ true = rw e (equals_itself tree) in true≢false (sym same ∙ other))) (no_index t none);
}

pub concluded : (task : Task) (mode : Mode) (w : Written) (r : Tally × Database) → Concludes task mode None w (Ok r) → r.1 ≡ record { schema = task.schema; trees = w.trees }
concluded task mode w r h = let tested = went h in let shown = went tested.2 in ap (λ (p : Tally × Database). p.1) (same_value shown.2)

-- where the rows with its rowid are taken out, a row's rowid is free
pub not_taken : (test : Row → Bool) (new : Row) → ((row : Row) → test row ≡ is_eq (value_cmp (rowid row) (rowid new))) → (rows : List Row) → is_taken (filter (λ row. not (test row)) rows) new ≡ false
not_taken test new is [] = refl
not_taken test new is (r ∷ rows) =
    elim (test r) as (λ b. test r ≡ b → is_taken (cond (not b) (r ∷ filter (λ row. not (test row)) rows) (filter (λ row. not (test row)) rows)) new ≡ false) [
      | true ↦ λ e. not_taken test new is rows
      | false ↦ λ e. rw (sym (is r) ∙ e) (not_taken test new is rows)
    ] refl
