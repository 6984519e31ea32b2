-- How columns take values, and when a parameter equals a column.
use Rattle.rd_tables.proofs.Common.{◌≡◌, ℕ, ℤ, pos, List, Bool, true, false, cond, Option, Some, None, refl, sym, ap, ◌∙◌, arith, nat_cmp, nat_le, int_cmp, is_eq, eq_by_cmp, is_ge, is_gt, is_le, int_cmp_total, nat_list_cmp_total, eq_by_cmp_equiv, nat_tests, Value, Null, Int, Real, Text, Blob, Binary, cast, value_cmp, or_null, equal, is_true, from_truth, value_cmp-Int, value_cmp-Blob, value_cmp-Null}
use Rattle.std.specs.Cmp.Lexicographic.{slice_cmp}
use Rattle.sqlite.specs.Kind.TheVariants.{Integer}
use Rattle.sqlite.specs.Ops.{unary}
use Rattle.sqlite_sql.specs.Ops.{binary}
use Rattle.sqlite_sql.specs.declared.ops.BinaryOp.TheVariants.{Compare}
use Rattle.sqlite_sql.specs.declared.ops.CompareOp.TheVariants.{Eq, Ge, Gt, Le}

either : (b : Bool) (x : Value) → cond b x x ≡ x
either true x = refl
either false x = refl

-- ---- a column of kind INTEGER keeps a number and NULL as they are

pub cast_null : cast Integer Null ≡ Null
unfolding unary
cast_null = either _ Null

pub cast_int : (n : ℤ) → cast Integer (Int n) ≡ Int n
unfolding unary
cast_int n = either _ (Int n)

pub cast_or_null : (n : Option ℤ) → cast Integer (or_null Int n) ≡ or_null Int n
cast_or_null None = cast_null
cast_or_null (Some n) = cast_int n

-- ---- comparisons

pub truth_kept : (b : Bool) → is_true (from_truth (Some b)) ≡ b
truth_kept true = refl
truth_kept false = refl

pub same_numbers : (a b : ℕ) → is_eq (value_cmp (Int (pos a)) (Int (pos b))) ≡ eq_by_cmp nat_cmp b a
same_numbers a b = ap is_eq (value_cmp-Int (pos a) (pos b)) ∙ grind (arith, nat_tests)

pub equal_numbers : (a b : ℕ) → is_true (binary (Compare Eq Binary) (Int (pos a)) (Int (pos b))) ≡ eq_by_cmp nat_cmp b a
unfolding binary
equal_numbers a b = truth_kept _ ∙ same_numbers a b

pub least_numbers : (a b : ℕ) → is_true (binary (Compare Ge Binary) (Int (pos a)) (Int (pos b))) ≡ nat_le b a
unfolding binary
least_numbers a b = truth_kept _ ∙ ap is_ge (value_cmp-Int (pos a) (pos b)) ∙ grind (arith, nat_tests)

pub most_numbers : (a b : ℕ) → is_true (binary (Compare Le Binary) (Int (pos a)) (Int (pos b))) ≡ nat_le a b
unfolding binary
most_numbers a b = truth_kept _ ∙ ap is_le (value_cmp-Int (pos a) (pos b)) ∙ grind (arith, nat_tests)

pub equal_integers : (a b : ℤ) → is_true (binary (Compare Eq Binary) (Int a) (Int b)) ≡ eq_by_cmp int_cmp b a
unfolding binary
equal_integers a b = truth_kept _ ∙ ap is_eq (value_cmp-Int a b) ∙ (eq_by_cmp_equiv int_cmp_total).symm a b

pub equal_blobs : (a b : List ℕ) → is_true (binary (Compare Eq Binary) (Blob a) (Blob b)) ≡ eq_by_cmp (slice_cmp nat_cmp) b a
unfolding binary
equal_blobs a b = truth_kept _ ∙ ap is_eq (value_cmp-Blob a b) ∙ (eq_by_cmp_equiv nat_list_cmp_total).symm a b

pub equal_int : (v : Value) (n : ℤ) → equal Binary v (Int n) ≡ is_eq (value_cmp v (Int n))
unfolding binary
equal_int Null n = ap is_eq (sym (value_cmp-Null (Int n)))
equal_int (Int m) n = truth_kept _
equal_int (Real x) n = truth_kept _
equal_int (Text t) n = truth_kept _
equal_int (Blob b) n = truth_kept _

pub greater_int : (v : Value) (n : ℤ) → is_true (binary (Compare Gt Binary) v (Int n)) ≡ is_gt (value_cmp v (Int n))
unfolding binary
greater_int Null n = ap is_gt (sym (value_cmp-Null (Int n)))
greater_int (Int m) n = truth_kept _
greater_int (Real x) n = truth_kept _
greater_int (Text t) n = truth_kept _
greater_int (Blob b) n = truth_kept _
