-- No two rows of a table have one key of a unique index.
use Rattle.rd_tables.proofs.Common.{◌≡◌, inl, inr, ℕ, ℤ, List, [], ◌∷◌, Bool, true, false, not, ◌&&◌, refl, sym, ap, subst, ◌∙◌, true≢false, Ordering, is_eq, Less, Equal, Greater, AllByRecursion, list_all, eq_by_cmp, is_ne, cases_Bool, nat_list_cmp_total, eq_by_cmp_equiv, Value, Null, Int, Real, Text, Blob, Binary, Row, value_cmp, Trees, rowid, Table, Schema, Database, IsDatabase, equal, differ, agree, clashes, guards, Keeps, is_int, plain, value_cmp_total, Has, all_has, some_from, desk_with, rule_table, badge_table, checked_table, found_table, rule_index, badge_index, checked_index, found_index, rule_key, badge_key, checked_key, found_key}
use Rattle.sqlite.specs.Order.{column}
use Rattle.sqlite_catalog.specs.Listing.{IsSound}
use Rattle.sqlite_schema.specs.Rules.{passes}
use Rattle.sqlite_schema.specs.declared.schema.Constraint.TheVariants.{Unique}
use Rattle.sqlite_schema.specs.declared.schema.Index.{Index}
use Rattle.sqlite_sql.specs.Ops.{binary}
use Rattle.sqlite_value.specs.Keys.{first_key}
use Rattle.rd_tables.proofs.Values.{equal_int, equal_blobs, truth_kept}

pub same_int : (a b : Value) (n : ℤ) → a ≡ b → b ≡ Int n → equal Binary a b ≡ true
same_int a b n same is = rw (same, is) (equal_int (Int n) n ∙ (eq_by_cmp_equiv value_cmp_total).refl (Int n))

pub same_blob : (a b : Value) (bytes : List ℕ) → a ≡ b → b ≡ Blob bytes → equal Binary a b ≡ true
same_blob a b bytes same is = rw (same, is) (equal_blobs bytes bytes ∙ (eq_by_cmp_equiv nat_list_cmp_total).refl bytes)

-- ---- rows agree on their keys

pub agree_one : (p : ℕ) (a b : Row) → equal Binary (column a p) (column b p) ≡ true → agree plain (p ∷ []) a (p ∷ []) b ≡ true
unfolding first_key
agree_one p a b first = rw first refl

pub agree_two : (p q : ℕ) (a b : Row) → equal Binary (column a p) (column b p) ≡ true → equal Binary (column a q) (column b q) ≡ true → agree plain (p ∷ q ∷ []) a (p ∷ q ∷ []) b ≡ true
unfolding first_key
agree_two p q a b first second = rw (first, second) refl

pub agree_three : (p q r : ℕ) (a b : Row) → equal Binary (column a p) (column b p) ≡ true → equal Binary (column a q) (column b q) ≡ true → equal Binary (column a r) (column b r) ≡ true
    → agree plain (p ∷ q ∷ r ∷ []) a (p ∷ q ∷ r ∷ []) b ≡ true
unfolding first_key
agree_three p q r a b first second third = rw (first, second, third) refl

-- ---- rows that agree have one rowid

none_differs : (o : Ordering) → is_ne o ≡ false → is_eq o ≡ true
none_differs Equal is = refl
none_differs Less is = absurd cc
none_differs Greater is = absurd cc

ints_same : (a b : ℤ) → differ (Int b) (Int a) ≡ false → eq_by_cmp value_cmp (Int a) (Int b) ≡ true
unfolding binary
ints_same a b is = (eq_by_cmp_equiv value_cmp_total).symm (Int a) (Int b) ∙ none_differs (value_cmp (Int b) (Int a)) (sym (truth_kept _) ∙ is)

rowids_same : (a b : Value) → is_int a ≡ true → is_int b ≡ true → differ b a ≡ false → eq_by_cmp value_cmp a b ≡ true
rowids_same (Int a) (Int b) x y is = ints_same a b is
rowids_same (Int a) Null x y is = absurd cc
rowids_same (Int a) (Real b) x y is = absurd cc
rowids_same (Int a) (Text b) x y is = absurd cc
rowids_same (Int a) (Blob b) x y is = absurd cc
rowids_same Null b x y is = absurd cc
rowids_same (Real a) b x y is = absurd cc
rowids_same (Text a) b x y is = absurd cc
rowids_same (Blob a) b x y is = absurd cc

every_true : {A : Type 0} (p : A → Bool) (xs : List A) (x : A) → list_all p xs ≡ true → Has xs x → p x ≡ true
every_true p [] x all here = absurd here
every_true p (y ∷ xs) x all (inl is) = elim (cases_Bool (p y)) [
  | inl pass ↦ ap p is ∙ pass
  | inr miss ↦ absurd (true≢false (sym all ∙ rw miss refl))
]
every_true p (y ∷ xs) x all (inr there) = elim (cases_Bool (p y)) [
  | inl pass ↦ every_true p xs x (rw pass at all) there
  | inr miss ↦ absurd (true≢false (sym all ∙ rw miss refl))
]

guarded : (g c : Bool) → g ≡ true → not (g && c) ≡ true → c ≡ false
guarded true true e is = absurd (true≢false (sym is))
guarded true false e is = refl
guarded false c e is = absurd (true≢false (sym e))

both_true : (a b : Bool) → a ≡ true → b ≡ true → (a && b) ≡ true
both_true true b e f = f
both_true false b e f = absurd (true≢false (sym e))

-- rows of a table that agree on the columns of a unique index have one rowid
pub one_rowid : (schema : Schema) (trees : Trees) (table : Table) (index : Index) → AllByRecursion (λ row. passes Unique schema trees table row ≡ true) (trees table.tree) → Has schema.indexes index → guards index table ≡ true
    → (row other : Row) → Has (trees table.tree) row → Has (trees table.tree) other → is_int (rowid row) ≡ true → is_int (rowid other) ≡ true → agree index.order index.columns other index.columns row ≡ true
    → eq_by_cmp value_cmp (rowid row) (rowid other) ≡ true
one_rowid schema trees table index keeps stands guarding row other here there first second agrees =
    let passing = all_has (λ r. passes Unique schema trees table r ≡ true) (trees table.tree) row keeps here in
    let clear : clashes index.order index.columns (trees table.tree) row ≡ false = guarded (guards index table) (clashes index.order index.columns (trees table.tree) row) guarding
    (every_true (λ i. not (guards i table && clashes i.order i.columns (trees table.tree) row)) schema.indexes index passing stands) in
    elim (cases_Bool (differ (rowid other) (rowid row))) [
      | inl apart ↦ absurd (true≢false (sym (some_from (λ o. agree index.order index.columns o index.columns row && differ (rowid o) (rowid row)) (trees table.tree) other there (both_true _ _ agrees apart)) ∙ clear))
      | inr same ↦ rowids_same (rowid row) (rowid other) first second same
    ]

module _ (more : List Table) (db : Database) (schema : db.schema ≡ desk_with more) (sound : IsDatabase db) where
  unique : Keeps Unique (desk_with more) db.trees
  unique = (subst (λ s. IsSound s db.trees) schema sound).obeys.rules Unique

  -- the rows of the rules, of the desk keys, of the checks and of the files
  pub one_rule : (row other : Row) → Has (db.trees 3) row → Has (db.trees 3) other → is_int (rowid row) ≡ true → is_int (rowid other) ≡ true → agree plain rule_key other rule_key row ≡ true → eq_by_cmp value_cmp (rowid row) (rowid other) ≡ true
  one_rule = one_rowid (desk_with more) db.trees (rule_table 3) rule_index unique.1.1.1.0 (inl refl) refl

  pub one_key : (row other : Row) → Has (db.trees 5) row → Has (db.trees 5) other → is_int (rowid row) ≡ true → is_int (rowid other) ≡ true → agree plain badge_key other badge_key row ≡ true → eq_by_cmp value_cmp (rowid row) (rowid other) ≡ true
  one_key = one_rowid (desk_with more) db.trees (badge_table 5) badge_index unique.1.1.1.1.0 (inr (inl refl)) refl

  pub one_check : (row other : Row) → Has (db.trees 7) row → Has (db.trees 7) other → is_int (rowid row) ≡ true → is_int (rowid other) ≡ true → agree plain checked_key other checked_key row ≡ true → eq_by_cmp value_cmp (rowid row) (rowid other) ≡ true
  one_check = one_rowid (desk_with more) db.trees (checked_table 7) checked_index unique.1.1.1.1.1.0 (inr (inr (inl refl))) refl

  pub one_file : (row other : Row) → Has (db.trees 9) row → Has (db.trees 9) other → is_int (rowid row) ≡ true → is_int (rowid other) ≡ true → agree plain found_key other found_key row ≡ true → eq_by_cmp value_cmp (rowid row) (rowid other) ≡ true
  one_file = one_rowid (desk_with more) db.trees (found_table 9) found_index unique.1.1.1.1.1.1.0 (inr (inr (inr (inl refl)))) refl
