-- The last entry of the checks of an accession has the latest day.
use Rattle.std.proofs.Common.{◌≡◌, ◌⊎◌, ◌∙◌, ◌-◌, ◌==◌, ◌&&◌, ◌≤ℤ◌, ◌<ℤ◌, inl, inr, ℕ, suc, ℤ, List, [], ◌∷◌, Bool, true, false, cond, T, Option, None, Some, Ordering, Less, Equal, Greater, ap, arith, int_cmp, is_lt, length, nat_cmp, option_map, refl, slice_get, subst, sym}
use Rattle.std.specs.Cmp.{int_ranks}
use Rattle.std.specs.FinMap.{entries, entries_sorted, get, get-retain_keys, retain_keys}
use Rattle.std.specs.FinMap.Entries.{below_all, is_sorted}
use Rattle.std.specs.Ordering.{MatchOrdering, ordering_then}
use Rattle.std.proofs.lemmas.Bool.Decides.{nat_tests}
use Rattle.std.proofs.lemmas.Cmp.{nat_cmp_total, tied_itself}
use Rattle.std.proofs.lemmas.Int.{ints}
use Rattle.rd_holdings.specs.Findings.{finding_of, last_of}
use Rattle.rd_holdings.specs.State.{Checkup, Desk, checkup_cmp}
use Rattle.rd_holdings.specs.declared.rows.Finding.{Finding}
use Rattle.rd_holdings.specs.declared.rows.Outcome.{Outcome}
use Rattle.rd_holdings.proofs.KeyOrders.{checkup_order}
use Rattle.rd_holdings.proofs.Members.{Has, IsKeyOrder, below_has, entry_got, got_entry}
use Rattle.rd_staff_laws.specs.LatestChecks.{IsLast, LatestIsLast, NoneIsLatest, check_on}

-- ---- the last of a list

module _ {A : Type 0} where
  last_next : (x y : A) (xs : List A) → last_of (x ∷ y ∷ xs) ≡ last_of (y ∷ xs)
  last_next x y xs =
      let place : length (x ∷ y ∷ xs) - 1 ≡ suc (length (y ∷ xs) - 1) = omega arith in
      ap (slice_get (x ∷ y ∷ xs)) place

  has_last : (xs : List A) (last : A) → last_of xs ≡ Some last → Has xs last
  has_last [] last is = absurd cc
  has_last (x ∷ []) last is = inl (let one : ◌≡◌ {A = Option A} (Some x) (Some last) = is in cc)
  has_last (x ∷ y ∷ xs) last is = inr (has_last (y ∷ xs) last (sym (last_next x y xs) ∙ is))

  no_last : (xs : List A) → last_of xs ≡ None → (x : A) → Has xs x → ⊥
  no_last [] is x none = none
  no_last (y ∷ []) is x there = let one : ◌≡◌ {A = Option A} (Some y) None = is in cc
  no_last (y ∷ z ∷ xs) is x there = no_last (z ∷ xs) (sym (last_next y z xs) ∙ is) z (inl refl)

parts : (a b : Bool) → T (a && b) → T a × T b
parts true b h = (tt, h)
parts false b h = absurd h

-- of sorted entries each is the last or has a key below that of the last
below_last : {K X : Type 0} (cmp : K → K → Ordering) (order : IsKeyOrder cmp) (es : List (K × X)) (last e : K × X) → T (is_sorted cmp es) → last_of es ≡ Some last → Has es e → (e ≡ last) ⊎ T (is_lt (cmp e.0 last.0))
below_last cmp order [] last e sorted is none = absurd none
below_last {K} {X} cmp order (x ∷ []) last e sorted is (inl here) = inl (let one : ◌≡◌ {A = Option (K × X)} (Some x) (Some last) = is in cc)
below_last cmp order (x ∷ []) last e sorted is (inr none) = absurd none
below_last {K} {X} cmp order (x ∷ y ∷ es) last e sorted is (inl here) =
    let halves = parts (below_all cmp x.0 (y ∷ es)) (is_sorted cmp (y ∷ es)) sorted in
    inr (subst (λ (f : K × X). T (is_lt (cmp f.0 last.0))) (sym here) (below_has cmp order x.0 last.0 last.1 (y ∷ es) halves.0 (has_last (y ∷ es) last (sym (last_next x y es) ∙ is))))
below_last cmp order (x ∷ y ∷ es) last e sorted is (inr there) =
    below_last cmp order (y ∷ es) last e (parts (below_all cmp x.0 (y ∷ es)) (is_sorted cmp (y ∷ es)) sorted).1 (sym (last_next x y es) ∙ is) there

-- ---- days

below_by : (a b : ℤ) (order : Ordering) → MatchOrdering order (a <ℤ b) (a ≡ b) (b <ℤ a) → T (is_lt order) → a <ℤ b
below_by a b Less is low = is
below_by a b Equal is low = absurd low
below_by a b Greater is low = absurd low

earlier : (one other : Checkup) → one.acc ≡ other.acc → T (is_lt (checkup_cmp one other)) → one.day <ℤ other.day
earlier one other same low =
    let tied : nat_cmp one.acc other.acc ≡ Equal = ap (nat_cmp one.acc) (sym same) ∙ tied_itself nat_cmp_total one.acc in
    below_by one.day other.day (int_cmp one.day other.day) (int_ranks one.day other.day)
    (subst (λ order. T (is_lt (ordering_then order (int_cmp one.day other.day)))) tied low)

not_later : (a b : ℤ) → a <ℤ b → a ≤ℤ b
not_later a b low = omega (arith, ints)

same_not_later : (a b : ℤ) → a ≡ b → a ≤ℤ b
same_not_later a b same = omega (arith, ints)

same_day : (a b : ℤ) → a ≤ℤ b → b ≤ℤ a → a ≡ b
same_day a b low high = omega (arith, ints)

same_number : (a b : ℕ) → (a == b) ≡ true → a ≡ b
same_number a b is = grind (arith, nat_tests)

itself : (n : ℕ) → (n == n) ≡ true
itself n = grind (arith, nat_tests)

-- ---- the checks of an accession

module _ (desk : Desk) (acc : ℕ) where
  abbrev of_it : Checkup → Bool
  of_it checkup = checkup.acc == acc

  abbrev among : List (Checkup × Outcome)
  among = entries (retain_keys desk.checks of_it)

  abbrev on : ℤ → Checkup
  on day = record { acc = acc; day = day }

  kept : (checkup : Checkup) → get (retain_keys desk.checks of_it) checkup ≡ cond (of_it checkup) (get desk.checks checkup) None
  kept checkup = get-retain_keys desk.checks of_it checkup (λ other tied. ap of_it (sym (checkup_order.same checkup other tied)))

  got : (e : Checkup × Outcome) → Has among e → (e.0.acc ≡ acc) × (get desk.checks e.0 ≡ Some e.1)
  got e there = go (of_it e.0) refl (sym (kept e.0) ∙ entry_got checkup_cmp checkup_order (retain_keys desk.checks of_it) e.0 e.1 there)
    where
      go : (b : Bool) → of_it e.0 ≡ b → cond b (get desk.checks e.0) None ≡ Some e.1 → (e.0.acc ≡ acc) × (get desk.checks e.0 ≡ Some e.1)
      go true is found = (same_number e.0.acc acc is, found)
      go false is found = absurd cc

  got_on : (e : Checkup × Outcome) → Has among e → check_on desk acc e.0.day ≡ Some e.1
  got_on e there = let it = got e there in subst (λ n. get desk.checks (record { acc = n; day = e.0.day }) ≡ Some e.1) it.0 it.1

  listed : (day : ℤ) (outcome : Outcome) → check_on desk acc day ≡ Some outcome → Has among (on day, outcome)
  listed day outcome stands = got_entry checkup_cmp checkup_order (retain_keys desk.checks of_it) (on day) outcome
      (kept (on day) ∙ ap (λ b. cond b (get desk.checks (on day)) None) (itself acc) ∙ stands)

  is_last : (e : Checkup × Outcome) → last_of among ≡ Some e → IsLast desk acc (finding_of e)
  is_last e is = record {
    stands = got_on e here;
    last = λ day outcome stands. elim (below_last checkup_cmp checkup_order among e (on day, outcome) (entries_sorted (retain_keys desk.checks of_it)) is (listed day outcome stands)) [
      | inl same ↦ same_not_later day e.0.day (ap (λ (f : Checkup × Outcome). f.0.day) same)
      | inr low ↦ not_later day e.0.day (earlier (on day) e.0 (sym (got e here).0) low)
    ];
  }
    where
      here : Has among e
      here = has_last among e is

  one_last : (one other : Finding) → IsLast desk acc one → IsLast desk acc other → one ≡ other
  one_last one other first second =
      let day : one.day ≡ other.day = same_day one.day other.day (second.last one.day one.outcome first.stands) (first.last other.day other.outcome second.stands) in
      let there : check_on desk acc other.day ≡ Some one.outcome = subst (λ d. check_on desk acc d ≡ Some one.outcome) day first.stands in
      let outcome : one.outcome ≡ other.outcome = let theirs = second.stands in cc in
      λ i. record { day = day i; outcome = outcome i }

  to_last : (found : Option (Checkup × Outcome)) (finding : Finding) → last_of among ≡ found → option_map finding_of found ≡ Some finding → IsLast desk acc finding
  to_last None finding is same = absurd cc
  to_last (Some e) finding is same = let one : finding_of e ≡ finding = cc in subst (IsLast desk acc) one (is_last e is)

  from_last : (found : Option (Checkup × Outcome)) (finding : Finding) → last_of among ≡ found → IsLast desk acc finding → option_map finding_of found ≡ Some finding
  from_last None finding is last = absurd (no_last among is (on finding.day, finding.outcome) (listed finding.day finding.outcome last.stands))
  from_last (Some e) finding is last = ap Some (one_last (finding_of e) finding (is_last e is) last)

  none_on : (found : Option (Checkup × Outcome)) → last_of among ≡ found → option_map finding_of found ≡ None → (day : ℤ) (check : Option Outcome) → check_on desk acc day ≡ check → check ≡ None
  none_on found is none day None at = refl
  none_on None is none day (Some outcome) at = absurd (no_last among is (on day, outcome) (listed day outcome at))
  none_on (Some e) is none day (Some outcome) at = absurd cc

  none_last : (found : Option (Checkup × Outcome)) → last_of among ≡ found → ((day : ℤ) → check_on desk acc day ≡ None) → option_map finding_of found ≡ None
  none_last None is none = refl
  none_last (Some e) is none = absurd (let here = got_on e (has_last among e is) in let lacks = none e.0.day in cc)

pub latest_is_last : LatestIsLast
latest_is_last desk acc finding = (
  λ is. to_last desk acc (last_of (among desk acc)) finding refl is,
  λ last. from_last desk acc (last_of (among desk acc)) finding refl last,
)

pub none_is_latest : NoneIsLatest
none_is_latest desk acc = (
  λ is day. none_on desk acc (last_of (among desk acc)) refl is day (check_on desk acc day) refl,
  λ none. none_last desk acc (last_of (among desk acc)) refl none,
)
