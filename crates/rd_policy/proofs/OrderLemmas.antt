-- Rules in order, and the one that decides.
use Rattle.std.proofs.Common.{◌≡◌, ◌⊎◌, ◌∙◌, inl, inr, ℕ, zero, suc, ℤ, ◌+◌, ◌-◌, ◌<◌, ◌≤◌, List, length, slice_index_or, Contains, sym, ap, subst, refl, arith}
use Rattle.std.specs.List.{AllAdjacentBelow}
use Rattle.std.proofs.lemmas.Bool.{cases_eq, cases_order}
use Rattle.std.proofs.lemmas.List.{get_or_default}
use Rattle.rd_volume.specs.declared.found.Found.{Found}
use Rattle.rd_policy.specs.declared.audience.Audience.{Audience}
use Rattle.rd_policy.specs.declared.rule.Rule.{Rule}
use Rattle.rd_policy.specs.declared.verdict.Verdict.{Verdict}
use Rattle.rd_policy.specs.Matches.{Matches}
use Rattle.rd_policy.specs.Neighbours.{ComesFirst}
use Rattle.rd_policy.specs.Verdicts.{Precedes, AreInOrder, Decides, verdict_of, IsVerdict}

-- of two rules each comes before the other at most one way; and no rule comes before itself
pub Precedes-asymmetric : (a b : Rule) → Precedes a b → Precedes b a → ⊥
Precedes-asymmetric a b (inl of_deed) (inl again) = cc (of_deed.1, again.0)
Precedes-asymmetric a b (inl of_deed) (inr lower) = cc (of_deed.0, of_deed.1, lower.0)
Precedes-asymmetric a b (inr lower) (inl of_deed) = cc (of_deed.0, of_deed.1, lower.0)
Precedes-asymmetric a b (inr lower) (inr again) = omega (arith, lower.1, again.1)

-- a rule between two of one band is of that band
between : (a b c : Rule) → Precedes a b → Precedes b c → a.band ≡ c.band → (a.band ≡ b.band) × (b.band ≡ c.band)
between a b c (inl of_deed) (inl again) same = absurd (cc (of_deed.1, again.0))
between a b c (inl of_deed) (inr lower) same = absurd (cc (of_deed.0, of_deed.1, lower.0, same))
between a b c (inr lower) (inl of_deed) same = absurd (cc (of_deed.0, of_deed.1, lower.0, same))
between a b c (inr lower) (inr again) same = (lower.0, again.0)

Precedes-trans : (a b c : Rule) → Precedes a b → Precedes b c → Precedes a c
Precedes-trans a b c (inl of_deed) (inl again) = absurd (cc (of_deed.1, again.0))
Precedes-trans a b c (inl of_deed) (inr lower) = inl (of_deed.0, sym lower.0 ∙ of_deed.1)
Precedes-trans a b c (inr lower) (inl of_deed) = inl (lower.0 ∙ of_deed.0, of_deed.1)
Precedes-trans a b c (inr lower) (inr again) = inr (lower.0 ∙ again.0, omega (arith, lower.1, again.1))

ComesFirst-trans : (a b c : Rule) → ComesFirst a b → ComesFirst b c → ComesFirst a c
ComesFirst-trans a b c ab bc = record {
  precedes = Precedes-trans a b c ab.precedes bc.precedes;
  one_scope = λ same. let bands = between a b c ab.precedes bc.precedes same in ab.one_scope bands.0 ∙ bc.one_scope bands.1;
}

-- where each rule below a place comes before the next one, so do two that are further apart
apart : (rules : List Rule) (end : ℕ) → AllAdjacentBelow ComesFirst rules end → (gap i j : ℕ) (d : Rule)
    → j ≡ i + gap + 1 → j < end → ComesFirst (slice_index_or rules i d) (slice_index_or rules j d)
apart rules end next zero i j d at below =
    let place : j ≡ i + 1 = omega (arith, at) in
    subst (λ k. ComesFirst (slice_index_or rules i d) (slice_index_or rules k d)) (sym place) (next i d (omega (arith, place, below)))
apart rules end next (suc gap) i j d at below =
    let place : j ≡ (i + gap + 1) + 1 = omega (arith, at) in
    let step : ComesFirst (slice_index_or rules (i + gap + 1) d) (slice_index_or rules j d) =
    subst (λ k. ComesFirst (slice_index_or rules (i + gap + 1) d) (slice_index_or rules k d)) (sym place) (next (i + gap + 1) d (omega (arith, place, below))) in
    ComesFirst-trans _ _ _ (apart rules end next gap i (i + gap + 1) d refl (omega (arith, place, below))) step

gap_of : (i j : ℕ) → i < j → (gap : ℕ) × (j ≡ i + gap + 1)
gap_of i j before = (j - i - 1, omega arith)

-- rules are in order where each comes before the next one
pub in_order_from_next : (rules : List Rule) (end : ℕ) → length rules ≤ end → AllAdjacentBelow ComesFirst rules end → AreInOrder rules
in_order_from_next rules end whole next =
    let pair : (i j : ℕ) (d : Rule) → i < j → j < length rules → ComesFirst (slice_index_or rules i d) (slice_index_or rules j d) =
    λ i j d before inside. apart rules end next (gap_of i j before).0 i j d (gap_of i j before).1 (omega (arith, whole, inside)) in
    record {
      rising = λ i j d before inside. (pair i j d before inside).precedes;
      one_scope = λ i j d before inside. (pair i j d before inside).one_scope;
    }

-- in rules in order, a rule at a place comes before one at a later place
pub next_from_in_order : (rules : List Rule) → AreInOrder rules → (i j : ℕ) (one other : Rule) → i < j → j < length rules
    → one ≡ slice_index_or rules i one → other ≡ slice_index_or rules j other → ComesFirst one other
next_from_in_order rules order i j one other before inside at_i at_j =
    let later : slice_index_or rules j one ≡ other = get_or_default rules j one other inside ∙ sym at_j in
    let first : Precedes (slice_index_or rules i one) (slice_index_or rules j one) = order.rising i j one before inside in
    let scope = order.one_scope i j one before inside in
    rw (← later) (subst (λ rule. ComesFirst rule (slice_index_or rules j one)) (sym at_i) (record { precedes = first; one_scope = scope }))

-- of two rules of a list in order, one comes before the other where they are not the same
pub order_of : (rules : List Rule) → AreInOrder rules → (one other : Rule) → Contains rules one → Contains rules other
    → (one ≡ other) ⊎ (Precedes one other ⊎ Precedes other one)
order_of rules order one other at_one at_other =
    elim (cases_order at_one.0 at_other.0) as (λ _. (one ≡ other) ⊎ (Precedes one other ⊎ Precedes other one)) [
      | inl same ↦ inl (sym at_one.2 ∙ ap (λ k. slice_index_or rules k one) same ∙ get_or_default rules at_other.0 one other at_other.1 ∙ at_other.2)
      | inr differ ↦ inr (elim differ as (λ _. Precedes one other ⊎ Precedes other one) [
        | inl before ↦ inl (next_from_in_order rules order at_one.0 at_other.0 one other before at_other.1 (sym at_one.2) (sym at_other.2)).precedes
        | inr after ↦ inr (next_from_in_order rules order at_other.0 at_one.0 other one after at_one.1 (sym at_other.2) (sym at_one.2)).precedes
      ])
    ]

-- none of the rules before the place i matches
abbrev pub NoneBefore : List Rule → Audience → ℤ → Found → ℕ → Type 0
NoneBefore rules audience day file i = (k : ℕ) (d : Rule) → k < i → ¬ Matches (slice_index_or rules k d) audience day file

-- nor does one more
pub none_more : (rules : List Rule) (audience : Audience) (day : ℤ) (file : Found) (i : ℕ) (rule : Rule)
    → i < length rules → rule ≡ slice_index_or rules i rule → ¬ Matches rule audience day file
    → NoneBefore rules audience day file i → NoneBefore rules audience day file (i + 1)
none_more rules audience day file i rule inside at_rule unfit before = λ k d below matching.
    elim (cases_eq k i) [
      | inl same ↦
          let read : slice_index_or rules k d ≡ rule = ap (λ j. slice_index_or rules j d) same ∙ get_or_default rules i d rule inside ∙ sym at_rule in
          unfit (subst (λ r. Matches r audience day file) read matching)
      | inr differ ↦ before k d (omega arith) matching
    ]

-- the first rule of a list in order that matches decides
pub first_decides : (rules : List Rule) (audience : Audience) (day : ℤ) (file : Found) (i : ℕ) (rule : Rule)
    → AreInOrder rules → i < length rules → rule ≡ slice_index_or rules i rule
    → NoneBefore rules audience day file i
    → Matches rule audience day file
    → Decides (Contains rules) audience day file rule
first_decides rules audience day file i rule order inside at_rule none matches = record {
  among = (i, inside, sym at_rule);
  matches = matches;
  first = λ other at_other before matching.
      elim (cases_order at_other.0 i) [
        | inl same ↦
            let equal : other ≡ rule = sym at_other.2 ∙ ap (λ k. slice_index_or rules k other) same ∙ get_or_default rules i other rule inside ∙ sym at_rule in
            Precedes-asymmetric other rule before (subst (λ r. Precedes rule r) (sym equal) (subst (λ r. Precedes r rule) equal before))
        | inr differ ↦ elim differ [
          | inl earlier ↦ none at_other.0 other earlier (subst (λ r. Matches r audience day file) (sym at_other.2) matching)
          | inr later ↦ Precedes-asymmetric other rule before (next_from_in_order rules order i at_other.0 rule other later at_other.1 at_rule (sym at_other.2)).precedes
        ]
      ];
}

-- of the rules of a list in order, two that decide are one
pub one_rule : (rules : List Rule) (audience : Audience) (day : ℤ) (file : Found) (one other : Rule) → AreInOrder rules
    → Decides (Contains rules) audience day file one → Decides (Contains rules) audience day file other → one ≡ other
one_rule rules audience day file one other order first second =
    elim (order_of rules order one other first.among second.among) as (λ _. one ≡ other) [
      | inl same ↦ same
      | inr differ ↦ elim differ as (λ _. one ≡ other) [
        | inl before ↦ absurd (second.first one first.among before first.matches)
        | inr after ↦ absurd (first.first other second.among after second.matches)
      ]
    ]

-- the rules of a list in order give one verdict
pub one_verdict : (rules : List Rule) (audience : Audience) (day : ℤ) (file : Found) (one other : Verdict) → AreInOrder rules
    → IsVerdict (Contains rules) audience day file one → IsVerdict (Contains rules) audience day file other → one ≡ other
one_verdict rules audience day file one other order (inl first) (inl second) =
    first.2 ∙ ap verdict_of (one_rule rules audience day file first.0 second.0 order first.1 second.1) ∙ sym second.2
one_verdict rules audience day file one other order (inl first) (inr second) = absurd (second.0 first.0 first.1.among first.1.matches)
one_verdict rules audience day file one other order (inr first) (inl second) = absurd (first.0 second.0 second.1.among second.1.matches)
one_verdict rules audience day file one other order (inr first) (inr second) = first.1 ∙ sym second.1
