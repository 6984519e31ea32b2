-- Two desks whose tables show the same.
use Rattle.rd_store.proofs.Common.{◌≡◌, ◌∙◌, ℕ, ◌+◌, ◌<◌, List, [], ◌∷◌, length, get_or, map, Bool, true, false, Some, Result, Ok, Err, ap, arith, refl, subst, sym, IsErr, IsTrue, true≢false, nat_cmp, FinMap, entries, get, keys, same_entries_map, IfOk-weaker, ext_get_or, get_or-map, length-map, Row, Ghosts, Held, Spelling, entry_got, Desk, DeedRow, Compares, TellsSame, IsOpen, Keeps, Reads, desk, deed_spelling, Global, Vec, below_more, subst₂, ⊤}
use Rattle.rd_store.specs.declared.faults.StoreFault.{StoreFault}
use Rattle.rd_store.proofs.CopyLemmas.{keeps_then, some_same}
use Rattle.rd_store.proofs.Listings.{any_default, has_at}
use Rattle.rd_store.proofs.Orders.{number_order}

-- ---- rows that are the same

module _ {K X : Type 0} (spelling : Spelling K X) (back : (e : K × X) → spelling.entry (spelling.columns e) ≡ e) where
  all_back : (es : List (K × X)) → map spelling.entry (map spelling.columns es) ≡ es
  all_back [] = refl
  all_back (e ∷ es) = λ i. back e i ∷ all_back es i

  -- spell the same
  pub same_spelled : (m n : FinMap spelling.cmp X) (rows others : List Row) → rows ≡ map spelling.columns (entries m) → others ≡ map spelling.columns (entries n) → rows ≡ others → m ≡ n
  same_spelled m n rows others one other same =
      same_entries_map m n (sym (all_back (entries m)) ∙ ap (map spelling.entry) (sym one ∙ same ∙ other) ∙ all_back (entries n))

pub deed_back : (e : ℕ × DeedRow) → deed_spelling.entry (deed_spelling.columns e) ≡ e
deed_back e = refl

-- ---- images that are the same

module _ {X : Type 0} (m n : FinMap nat_cmp X) (same_keys : keys m ≡ keys n) (same_at : (k : ℕ) → k < length (keys m) → get m (get_or (keys m) k 0) ≡ get n (get_or (keys m) k 0)) where
  -- the value at a place is what is got
  got_at : (l : FinMap nat_cmp X) (k : ℕ) (d : ℕ × X) → k < length (entries l) → get l (get_or (keys l) k 0) ≡ Some (get_or (entries l) k d).1
  got_at l k d low =
      let e = get_or (entries l) k d in
      let key : get_or (keys l) k 0 ≡ e.0 = get_or-map (λ (x : ℕ × X). x.0) (entries l) k d 0 low in
      ap (get l) key ∙ entry_got nat_cmp number_order l e.0 e.1 (has_at (entries l) k e low (any_default (entries l) k e d low))

  lengths : length (entries m) ≡ length (entries n)
  lengths = sym (length-map (entries m) (λ (x : ℕ × X). x.0)) ∙ ap length same_keys ∙ length-map (entries n) (λ (x : ℕ × X). x.0)

  entry_same : (d : ℕ × X) (k : ℕ) → k < length (entries m) → get_or (entries m) k d ≡ get_or (entries n) k d
  entry_same d k low =
      let other : k < length (entries n) = omega (arith, low, lengths) in
      let within : k < length (keys m) = subst (λ n. k < n) (sym (length-map (entries m) (λ (x : ℕ × X). x.0))) low in
      let key : (get_or (entries m) k d).0 ≡ (get_or (entries n) k d).0 =
      sym (get_or-map (λ (x : ℕ × X). x.0) (entries m) k d 0 low) ∙ ap (λ (ks : List ℕ). get_or ks k 0) same_keys ∙ get_or-map (λ (x : ℕ × X). x.0) (entries n) k d 0 other in
      let value : (get_or (entries m) k d).1 ≡ (get_or (entries n) k d).1 =
      some_same (sym (got_at m k d low) ∙ same_at k within ∙ ap (λ (ks : List ℕ). get n (get_or ks k 0)) same_keys ∙ got_at n k d other) in
      λ i. (key i, value i)

  pub same_maps : m ≡ n
  same_maps = same_entries_map m n (go (entries m) refl)
    where
      go : (es : List (ℕ × X)) → entries m ≡ es → entries m ≡ entries n
      go [] is = is ∙ none (entries n) (sym (ap length is) ∙ lengths)
        where
          none : (fs : List (ℕ × X)) → 0 ≡ length fs → [] ≡ fs
          none [] same = refl
          none (f ∷ fs) same = absurd (omega (arith, same))
      go (e ∷ es) is = ext_get_or e (entries m) (entries n) lengths (entry_same e)

-- ---- one comparison after another

-- nothing is told to be the same
pub not_told : {A : Type 0} (x y : A) → TellsSame x y false
not_told x y told = absurd (true≢false (sym told))

-- a call that fails
pub failed_both : {S U X : Type 0} (g : Ghosts S) {a b p q : Held S} → Keeps g a b → Keeps g p q → (x : Result U X) → IsErr x → {R : U → Type 0} → Compares g a b p q x R
failed_both g one other (Err e) failed = record { one = one; other = other; answer = λ o1 o2. tt; one_open = λ clean. tt; other_open = λ clean. tt }
failed_both g one other (Ok u) failed = absurd (true≢false (sym failed))

module _ {S X : Type 0} (g : Ghosts S) where
  -- both were asked
  pub asked_both : {T U V : Type 0} {a b p q : Held S} {P : T → Type 0} {Q : U → Type 0} {value : T} {other : U} → Reads {X = X} g a b (Ok value) P → Reads {X = X} g p q (Ok other) Q → {told : V} {R : V → Type 0} → (P value → Q other → R told)
      → Compares {X = X} g a b p q (Ok told) R
  asked_both one two answer = record {
    one = one.keeps;
    other = two.keeps;
    answer = λ o1 o2. answer (one.answer o1) (two.answer o2);
    one_open = one.ends_open;
    other_open = two.ends_open;
  }

  -- and showed rows that spell what each has
  pub rows_compared : {K V : Type 0} (spelling : Spelling K V) → ((e : K × V) → spelling.entry (spelling.columns e) ≡ e) → (m n : FinMap spelling.cmp V) {a b p q : Held S} {rows others : Vec Row Global} → Reads {X = X} g a b (Ok rows) (λ r. r.items ≡ map spelling.columns (entries m))
      → Reads {X = X} g p q (Ok others) (λ r. r.items ≡ map spelling.columns (entries n)) → {told : Bool} → TellsSame rows.items others.items told → Compares {X = X} g a b p q (Ok told) (TellsSame m n)
  rows_compared spelling back m n {rows} {others} one two same = asked_both one two (λ is are told. same_spelled spelling back m n rows.items others.items is are (same told))

  -- a second comparison after a first
  pub compares_then : {T U : Type 0} {a b c p q r : Held S} {A : T → Type 0} {first : T} → Compares {X = X} g a b p q (Ok first) A → {C D : U → Type 0} {x : Result U X} → Compares g b c q r x C
      → (IsOpen g b → IsOpen g q → A first → (told : U) → C told → D told) → Compares g a c p r x D
  compares_then {a} {b} {c} {p} {q} {r} one {C} {D} {x} two more = record {
    one = keeps_then g a b c one.one one.one_open two.one;
    other = keeps_then g p q r one.other one.other_open two.other;
    answer = λ o1 o2.
        let b_open = two.one.lasts.was_open o1 in
        let q_open = two.other.lasts.was_open o2 in
        IfOk-weaker x C D (more b_open q_open (one.answer b_open q_open)) (two.answer o1 o2);
    one_open = two.one_open;
    other_open = two.other_open;
  }

  -- what is answered is told in another way
  pub told_as : {T U : Type 0} {a b p q : Held S} {A : T → Type 0} {x : T} → Compares {X = X} g a b p q (Ok x) A → {B : U → Type 0} {y : U} → (A x → B y) → Compares {X = X} g a b p q (Ok y) B
  told_as one so = record { one = one.one; other = one.other; answer = λ o1 o2. so (one.answer o1 o2); one_open = one.one_open; other_open = one.other_open }

  -- whatever both answer
  pub after_it : {T U : Type 0} {a b c p q r : Held S} {A : T → Type 0} {first : T} → Compares {X = X} g a b p q (Ok first) A → {C : U → Type 0} {x : Result U X} → Compares g b c q r x C → Compares g a c p r x (λ _. ⊤)
  after_it one two = compares_then one two (λ b_open q_open answered told answers. tt)

  -- both are the same
  pub both_same : (A C : Desk → Desk → Type 0) {a b c p q r : Held S} {first : Bool} → IsTrue first → Compares {X = X} g a b p q (Ok first) (λ told. IsTrue told → A (desk g a) (desk g p)) → {x : Result Bool X}
      → Compares g b c q r x (λ told. IsTrue told → C (desk g b) (desk g q)) → Compares g a c p r x (λ told. IsTrue told → A (desk g a) (desk g p) × C (desk g a) (desk g p))
  both_same A C sure one two = compares_then one two (λ b_open q_open same told rest is. (same sure, subst₂ C (one.one.same b_open) (one.other.same q_open) (rest is)))

-- what tables of two desks are the same
abbrev pub SameTerms : Desk → Desk → Type 0
SameTerms d e = (d.deeds ≡ e.deeds) × (d.rules ≡ e.rules)

abbrev pub SameNotes : Desk → Desk → Type 0
SameNotes d e = SameTerms d e × (d.keys ≡ e.keys)

abbrev pub SameRows : Desk → Desk → Type 0
SameRows d e = SameNotes d e × (d.checks ≡ e.checks)

-- and all that both hold
pub same_desks : {S X : Type 0} (g : Ghosts S) {a b p q : Held S} (x : Result Bool X) → Compares g a b p q x (λ told. IsTrue told → SameRows (desk g a) (desk g p) × ((desk g a).images ≡ (desk g p).images)) → Compares g a b p q x (TellsSame (desk g a) (desk g p))
same_desks g {a} {p} x all = record {
  one = all.one;
  other = all.other;
  answer = λ o1 o2. IfOk-weaker x _ _ (λ told same is. let it = same is in λ i. record { deeds = it.0.0.0.0 i; images = it.1 i; rules = it.0.0.0.1 i; keys = it.0.0.1 i; checks = it.0.1 i }) (all.answer o1 o2);
  one_open = all.one_open;
  other_open = all.other_open;
}

-- ---- images that are compared one by one

module _ {S : Type 0} (g : Ghosts S) (a p : Held S) (numbers : List ℕ) where
  -- the images of both desks have these numbers, and so many are the same
  abbrev pub AreSame : ℕ → Type 0
  AreSame count = (numbers ≡ keys (desk g a).images) × (numbers ≡ keys (desk g p).images) × ((k : ℕ) → k < count → get (desk g a).images (get_or numbers k 0) ≡ get (desk g p).images (get_or numbers k 0))

  abbrev pub SameFirst : Held S → Held S → ℕ → Type 0
  SameFirst b q count = Compares {T = Unit {0}} {X = StoreFault} g a b p q (Ok tt) (λ _. AreSame count)

  -- one more is
  pub same_next : {b c q r : Held S} (at acc : ℕ) → at < length numbers → acc ≡ get_or numbers at acc → SameFirst b q at → {x : Result Bool StoreFault} → Compares g b c q r x (TellsSame (get (desk g b).images acc) (get (desk g q).images acc))
      → Compares g a c p r x (λ told. IsTrue told → AreSame (at + 1))
  same_next at acc low is first next = compares_then g first next (λ b_open q_open are told same sure.
      let here : get_or numbers at 0 ≡ acc = any_default numbers at 0 acc low ∙ sym is in
      let images : get (desk g a).images acc ≡ get (desk g p).images acc =
      ap (λ (d : Desk). get d.images acc) (sym (first.one.same b_open)) ∙ same sure ∙ ap (λ (d : Desk). get d.images acc) (first.other.same q_open) in
      (are.0, are.1, below_more (λ k. get (desk g a).images (get_or numbers k 0) ≡ get (desk g p).images (get_or numbers k 0)) at are.2 (subst (λ n. get (desk g a).images n ≡ get (desk g p).images n) (sym here) images)))

  -- all are
  pub same_all : {b q : Held S} (at : ℕ) → SameFirst b q at → at ≡ length numbers → Compares {T = Bool} {X = StoreFault} g a b p q (Ok true) (TellsSame (desk g a).images (desk g p).images)
  same_all at first end = told_as g first (λ are told. same_maps (desk g a).images (desk g p).images (sym are.0 ∙ are.1)
      (λ k low. subst (λ (ks : List ℕ). get (desk g a).images (get_or ks k 0) ≡ get (desk g p).images (get_or ks k 0)) are.0 (are.2 k (omega (arith, low, end, ap length are.0)))))
