-- A walk ends in at most one way.
use Rattle.std.proofs.Common.{◌≡◌, ◌<◌, ◌≤◌, ◌+◌, ◌-◌, ◌∙◌, ◌⊎◌, inl, inr, ℕ, zero, suc, Option, Some, None, option_and_then, arith, refl, sym, ap, subst}
use Rattle.std.proofs.Math.Nat.{eq-or-lt_of_le}
use Rattle.rd_cbm.specs.declared.chains.Link.{Link}
use Rattle.rd_cbm.specs.declared.chains.Link.TheVariants.{Last, Off}
use Rattle.rd_cbm.specs.declared.chains.End.{End}
use Rattle.rd_cbm.specs.declared.chains.End.TheVariants as end
use Rattle.rd_cbm.specs.Walks.{Links, next_of, at, Reaches, Ends, Leaves, GoesOff, Loops, EndsBy}

-- one step along the links
abbrev pub step : Links → Option ℕ → Option ℕ
step link place = option_and_then (λ n. next_of (link n)) place

pub at-suc : (link : Links) (s : Option ℕ) (i : ℕ) → at link s (suc i) ≡ step link (at link s i)
unfolding at
at-suc link s i = refl

pub at-zero : (link : Links) (s : Option ℕ) → at link s 0 ≡ s
unfolding at
at-zero link s = refl

pub step-None : (link : Links) → step link None ≡ None
step-None link = refl

pub step-Some : (link : Links) (n : ℕ) → step link (Some n) ≡ next_of (link n)
step-Some link n = refl

-- the place after one at a block
pub at-next : (link : Links) (s : Option ℕ) (i n : ℕ) → at link s i ≡ Some n → at link s (suc i) ≡ next_of (link n)
at-next link s i n there = at-suc link s i ∙ ap (step link) there ∙ step-Some link n

-- a walk that is over stays so
pub over_later : (link : Links) (s : Option ℕ) (i j : ℕ) → i ≤ j → at link s i ≡ None → at link s j ≡ None
over_later link s i zero low over = let first : i ≡ 0 = omega arith in subst (λ k. at link s k ≡ None) first over
over_later link s i (suc j) low over =
    elim (eq-or-lt_of_le low) [
      | inl same ↦ subst (λ k. at link s k ≡ None) same over
      | inr less ↦ at-suc link s j ∙ ap (step link) (over_later link s i j (omega arith) over) ∙ step-None link
    ]

-- from equal places a walk goes on equally
equal_later : (link : Links) (s : Option ℕ) (i j k : ℕ) → at link s i ≡ at link s j → at link s (k + i) ≡ at link s (k + j)
equal_later link s i j zero same = let a : 0 + i ≡ i = omega arith in let b : 0 + j ≡ j = omega arith in rw (a, b) same
equal_later link s i j (suc k) same =
    let a : suc k + i ≡ suc (k + i) = omega arith in
    let b : suc k + j ≡ suc (k + j) = omega arith in
    rw (a, b) (at-suc link s (k + i) ∙ ap (step link) (equal_later link s i j k same) ∙ sym (at-suc link s (k + j)))

pub le-or-lt : (a b : ℕ) → (a ≤ b) ⊎ (b < a)
le-or-lt a b = grind arith

neither_less : (a b : ℕ) → (a < b → ⊥) → (b < a → ⊥) → a ≡ b
neither_less a b low high = omega arith

-- a walk that loops is never over
loop_never_over : (link : Links) (s : Option ℕ) → Loops link s → (fuel m : ℕ) → m < fuel → at link s m ≡ None → ⊥
loop_never_over link s loop zero m low over = absurd (omega arith)
loop_never_over link s loop (suc fuel) m low over =
    elim (le-or-lt m loop.second) [
      | inl early ↦ let gone : at link s loop.second ≡ None = over_later link s m loop.second early over in let there = loop.again in absurd (cc)
      | inr late ↦
          let later : loop.first < loop.second = loop.later in
          let whole : (m - loop.second) + loop.second ≡ m = omega arith in
          let back : at link s ((m - loop.second) + loop.first) ≡ at link s ((m - loop.second) + loop.second) =
          equal_later link s loop.first loop.second (m - loop.second) (loop.reached ∙ sym loop.again) in
          loop_never_over link s loop fuel ((m - loop.second) + loop.first) (omega arith) (back ∙ ap (at link s) whole ∙ over)
    ]

-- The walk comes to a block with this link, which leads to no block.
record StopsBy (link : Links) (s : Option ℕ) (l : Link) : Type 0 where
  block : ℕ
  reached : Reaches link s block
  is : link block ≡ l
  stop : next_of l ≡ None

over_after : (link : Links) (s : Option ℕ) (l : Link) (p : StopsBy link s l) → at link s (suc p.reached.place) ≡ None
over_after link s l p = at-next link s p.reached.place p.block p.reached.there ∙ ap next_of p.is ∙ p.stop

not_before : (link : Links) (s : Option ℕ) (l m : Link) (p : StopsBy link s l) (q : StopsBy link s m) → p.reached.place < q.reached.place → ⊥
not_before link s l m p q before =
    let gone : at link s q.reached.place ≡ None = over_later link s (suc p.reached.place) q.reached.place (omega arith) (over_after link s l p) in
    let there : at link s q.reached.place ≡ Some q.block = q.reached.there in
    cc

stops_by_one : (link : Links) (s : Option ℕ) (l m : Link) → StopsBy link s l → StopsBy link s m → l ≡ m
stops_by_one link s l m p q =
    let same : p.reached.place ≡ q.reached.place = neither_less p.reached.place q.reached.place (not_before link s l m p q) (not_before link s m l q p) in
    let here : Some p.block ≡ Some q.block = sym p.reached.there ∙ ap (at link s) same ∙ q.reached.there in
    let block : p.block ≡ q.block = cc in
    sym p.is ∙ ap link block ∙ q.is

by_last : (link : Links) (s : Option ℕ) (e : ℕ) → Ends link s e → StopsBy link s (Last e)
by_last link s e p = record { block = p.block; reached = p.reached; is = p.last; stop = refl }

by_off : (link : Links) (s : Option ℕ) → Leaves link s → StopsBy link s Off
by_off link s p = record { block = p.block; reached = p.reached; is = p.off; stop = refl }

stop_no_loop : (link : Links) (s : Option ℕ) (l : Link) → StopsBy link s l → Loops link s → ⊥
stop_no_loop link s l p loop = loop_never_over link s loop (suc (suc p.reached.place)) (suc p.reached.place) (omega arith) (over_after link s l p)

none_no_stop : (link : Links) (s : Option ℕ) (l : Link) → s ≡ None → StopsBy link s l → ⊥
none_no_stop link s l none p =
    let gone : at link s p.reached.place ≡ None = over_later link s 0 p.reached.place (omega arith) (at-zero link s ∙ none) in
    let there : at link s p.reached.place ≡ Some p.block = p.reached.there in
    cc

off_no_last : (link : Links) (s : Option ℕ) (e : ℕ) → GoesOff link s → Ends link s e → ⊥
off_no_last link s e (inl none) p = none_no_stop link s (Last e) none (by_last link s e p)
off_no_last link s e (inr leaves) p = let same : Off ≡ Last e = stops_by_one link s Off (Last e) (by_off link s leaves) (by_last link s e p) in cc

off_no_loop : (link : Links) (s : Option ℕ) → GoesOff link s → Loops link s → ⊥
off_no_loop link s (inl none) loop = loop_never_over link s loop 1 0 (omega arith) (at-zero link s ∙ none)
off_no_loop link s (inr leaves) loop = stop_no_loop link s Off (by_off link s leaves) loop

-- a walk ends in at most one way
pub one_way : (link : Links) (s : Option ℕ) (v w : End) → EndsBy link s v → EndsBy link s w → v ≡ w
one_way link s (end.Last a) (end.Last b) p q = let same : Last a ≡ Last b = stops_by_one link s (Last a) (Last b) (by_last link s a p) (by_last link s b q) in let e : a ≡ b = cc in ap end.Last e
one_way link s (end.Last a) end.Off p q = absurd (off_no_last link s a q p)
one_way link s (end.Last a) end.Loop p q = absurd (stop_no_loop link s (Last a) (by_last link s a p) q)
one_way link s end.Off (end.Last b) p q = absurd (off_no_last link s b p q)
one_way link s end.Off end.Off p q = refl
one_way link s end.Off end.Loop p q = absurd (off_no_loop link s p q)
one_way link s end.Loop (end.Last b) p q = absurd (stop_no_loop link s (Last b) (by_last link s b q) p)
one_way link s end.Loop end.Off p q = absurd (off_no_loop link s q p)
one_way link s end.Loop end.Loop p q = refl
