-- The rows that a DELETE takes out, and rows whose rowids are apart.
use Rattle.rd_tables.proofs.Common.{◌≡◌, inl, inr, ℤ, List, [], ◌∷◌, filter, Bool, true, false, not, refl, sym, ap, subst, ◌∙◌, IsTrue, Equal, true≢false, is_eq, list_any, false_from_ne_true, tied_itself, tied_back, Row, value_cmp, Int, rowid, put_row, has_rowid, without_rowid, is_taken, is_int, Has, id_in, ids_of, some_has, some_from, has_filtered, value_cmp_total, HaveRowids}
use Rattle.rd_tables.proofs.Entries.{tie as tied}
use Rattle.sqlite_rules.specs.Edit.{without_all}
use Rattle.sqlite_rules.proofs.TableLemmas.{int_is, put_has}
use Rattle.rd_tables.proofs.ListLemmas.{filter_true, filter_filter, filter_same, not_or, same_truth}

-- What was found are the rowids of the rows that pass the test, and no other.
pub record Picks (test : Row → Bool) (rows found : List Row) : Type 0 where
  pub sound : (x : Row) → Has found x → (row : Row) × Has rows row × (test row ≡ true) × (x ≡ rowid row ∷ [])
  pub complete : (row : Row) → Has rows row → test row ≡ true → Has found (rowid row ∷ [])

-- the row has one of the rowids
abbrev takes : List ℤ → Row → Bool
takes ids row = list_any (λ id. has_rowid id row) ids

without_filter : (ids : List ℤ) (rows : List Row) → without_all rows ids ≡ filter (λ row. not (takes ids row)) rows
without_filter [] rows = sym (filter_true rows)
without_filter (id ∷ ids) rows =
    without_filter ids (without_rowid id rows) ∙ filter_filter _ _ rows ∙ filter_same _ _ rows (λ row _. not_or (has_rowid id row) (takes ids row))

in_ids : (found : List Row) (x : Row) → Has found x → Has (ids_of found) (id_in (rowid x))
in_ids [] x none = absurd none
in_ids (y ∷ found) x (inl is) = inl (ap (λ (row : Row). id_in (rowid row)) is)
in_ids (y ∷ found) x (inr there) = inr (in_ids found x there)

from_ids : (found : List Row) (id : ℤ) → Has (ids_of found) id → (x : Row) × Has found x × (id ≡ id_in (rowid x))
from_ids [] id none = absurd none
from_ids (y ∷ found) id (inl is) = (y, inl refl, is)
from_ids (y ∷ found) id (inr there) = let x = from_ids found id there in (x.0, inr x.1, x.2)

-- where a rowid is free, no row has it
pub free_rowid : (new : Row) (rows : List Row) → is_taken rows new ≡ false → (row : Row) → Has rows row → is_eq (value_cmp (rowid row) (rowid new)) ≡ false
free_rowid new rows free row here = false_from_ne_true _ (λ same. true≢false (sym (some_from (λ x. is_eq (value_cmp (rowid x) (rowid new))) rows row here same) ∙ free))

pub rowids_left : (test : Row → Bool) (rows : List Row) → HaveRowids rows → HaveRowids (filter test rows)
rowids_left test rows have = record {
  keyed = λ row here. have.keyed row (has_filtered test rows row here).0;
  apart = λ row other here there. have.apart row other (has_filtered test rows row here).0 (has_filtered test rows other there).0;
}

pub rowids_put : (new : Row) (rows : List Row) → IsTrue (is_int (rowid new)) → is_taken rows new ≡ false → HaveRowids rows → HaveRowids (put_row new rows)
rowids_put new rows int free have = record {
  keyed = λ row here. elim (put_has new rows row here) [ inl is ↦ subst (λ x. IsTrue (is_int (rowid x))) (sym is) int | inr was ↦ have.keyed row was ];
  apart = λ row other here there tie. elim (put_has new rows row here) [
    | inl is ↦ elim (put_has new rows other there) [
      | inl same ↦ is ∙ sym same
      | inr was ↦ absurd (never other was (tied_back value_cmp_total (rowid new) (rowid other) (subst (λ x. value_cmp (rowid x) (rowid other) ≡ Equal) is tie)))
    ]
    | inr was ↦ elim (put_has new rows other there) [
      | inl same ↦ absurd (never row was (subst (λ x. value_cmp (rowid row) (rowid x) ≡ Equal) same tie))
      | inr too ↦ have.apart row other was too tie
    ]
  ];
}
  where
    never : (x : Row) → Has rows x → ¬ (value_cmp (rowid x) (rowid new) ≡ Equal)
    never x here tie = true≢false (sym (ap is_eq tie) ∙ free_rowid new rows free x here)

-- to take the found rowids out is to keep the rows that do not pass
pub removed_rows : (test : Row → Bool) (rows found : List Row) → HaveRowids rows → Picks test rows found → without_all rows (ids_of found) ≡ filter (λ row. not (test row)) rows
removed_rows test rows found have picks =
    without_filter (ids_of found) rows
    ∙ filter_same _ _ rows (λ row here. ap not (same_truth (takes (ids_of found) row) (test row) (λ taken. passes row here taken) (λ pass. taken_out row here pass)))
  where
    passes : (row : Row) → Has rows row → takes (ids_of found) row ≡ true → test row ≡ true
    passes row here taken =
        let id = some_has (λ id. has_rowid id row) (ids_of found) taken in
        let x = from_ids found id.0 id.1 in
        let it = picks.sound x.0 x.1 in
        let same : id.0 ≡ id_in (rowid it.0) = x.2 ∙ ap (λ (y : Row). id_in (rowid y)) it.3 in
        let int = int_is (rowid it.0) (have.keyed it.0 it.1) in
        let tie : value_cmp (rowid row) (rowid it.0) ≡ Equal = subst (λ v. value_cmp (rowid row) v ≡ Equal) (ap Int same ∙ sym int) (tied _ id.2) in
        subst (λ y. test y ≡ true) (sym (have.apart row it.0 here it.1 tie)) it.2

    taken_out : (row : Row) → Has rows row → test row ≡ true → takes (ids_of found) row ≡ true
    taken_out row here pass =
        let int = int_is (rowid row) (have.keyed row here) in
        let itself : has_rowid (id_in (rowid row)) row ≡ true = subst (λ v. is_eq (value_cmp (rowid row) v) ≡ true) int (ap is_eq (tied_itself value_cmp_total (rowid row))) in
        some_from (λ id. has_rowid id row) (ids_of found) (id_in (rowid row)) (in_ids found (rowid row ∷ []) (picks.complete row here pass)) itself
