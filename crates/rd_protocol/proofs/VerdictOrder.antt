-- The verdict of takedowns, and where none of them matches that of the rules of a deed, is the verdict of all.
use Rattle.std.proofs.Common.{◌≡◌, ◌≢◌, ◌∙◌, ◌+◌, ◌<◌, inl, inr, ℕ, ℤ, List, ◌++◌, Contains, ap, arith, length, slice_index_or, subst₂, sym}
use Rattle.std.proofs.lemmas.List.{get_or-append-add, get_or_append_left, get_or_default, length-append}
use Rattle.std.proofs.lemmas.List.Elements.{Contains-append_cases, Contains-append_left, Contains-append_right}
use Rattle.rd_policy.specs.Verdicts.{AreInOrder, IsVerdict, NoneMatches, Precedes, label_of}
use Rattle.rd_policy.specs.declared.audience.Audience.{Audience}
use Rattle.rd_policy.specs.declared.rule.Band.{Band}
use Rattle.rd_policy.specs.declared.rule.Band.TheVariants.{Takedown, Deed}
use Rattle.rd_policy.specs.declared.rule.Rule.{Rule}
use Rattle.rd_policy.specs.declared.verdict.Label.TheVariants.{Default}
use Rattle.rd_policy.specs.declared.verdict.Verdict.{Verdict}
use Rattle.rd_policy.proofs.OrderLemmas.{Precedes-asymmetric}
use Rattle.rd_volume.specs.declared.found.Found.{Found}

-- no rule has the label of none
named : (band : Band) (scope rank : ℕ) → label_of band scope rank ≢ Default
named Takedown scope rank is = cc
named Deed scope rank is = cc

module _ (first second : List Rule) (order : AreInOrder (first ++ second)) where
  -- each part is in order
  pub first_in_order : AreInOrder first
  first_in_order =
      let all = λ (j : ℕ) (within : j < length first). (let long = length-append first second in let there : j < length (first ++ second) = omega (arith, within, long) in there) in
      record {
        rising = λ i j d before within. subst₂ Precedes (get_or_append_left first second d i (omega (arith, before, within))) (get_or_append_left first second d j within) (order.rising i j d before (all j within));
        one_scope = λ i j d before within.
            subst₂ (λ (x y : Rule). x.band ≡ y.band → x.scope ≡ y.scope) (get_or_append_left first second d i (omega (arith, before, within))) (get_or_append_left first second d j within) (order.one_scope i j d before (all j within));
      }

  pub second_in_order : AreInOrder second
  second_in_order =
      let all = λ (j : ℕ) (within : j < length second). (let long = length-append first second in let there : length first + j < length (first ++ second) = omega (arith, within, long) in there) in
      record {
        rising = λ i j d before within. subst₂ Precedes (get_or-append-add first second i d) (get_or-append-add first second j d) (order.rising (length first + i) (length first + j) d (omega (arith, before)) (all j within));
        one_scope = λ i j d before within.
            subst₂ (λ (x y : Rule). x.band ≡ y.band → x.scope ≡ y.scope) (get_or-append-add first second i d) (get_or-append-add first second j d) (order.one_scope (length first + i) (length first + j) d (omega (arith, before)) (all j within));
      }

  -- a rule of the first part comes before one of the second
  crosses : (one other : Rule) → Contains first one → Contains second other → Precedes one other
  crosses one other here there =
      let long = length-append first second in
      let low : slice_index_or (first ++ second) here.0 one ≡ one = get_or_append_left first second one here.0 here.1 ∙ here.2 in
      let high : slice_index_or (first ++ second) (length first + there.0) one ≡ other = get_or-append-add first second there.0 one ∙ get_or_default second there.0 one other there.1 ∙ there.2 in
      subst₂ Precedes low high (order.rising here.0 (length first + there.0) one (omega (arith, here.1)) (omega (arith, there.1, long)))

  module _ (audience : Audience) (day : ℤ) (file : Found) where
    -- one of the first part decides
    pub first_decides : (verdict : Verdict) → IsVerdict (Contains first) audience day file verdict → verdict.label ≢ Default → IsVerdict (Contains (first ++ second)) audience day file verdict
    first_decides verdict (inl it) some = inl (
      it.0,
      record {
        among = Contains-append_left first second it.0 it.1.among;
        matches = it.1.matches;
        first = λ other there before matching.
            elim (Contains-append_cases first second other there) [
              | inl early ↦ it.1.first other early before matching
              | inr late ↦ Precedes-asymmetric other it.0 before (crosses it.0 other it.1.among late)
            ];
      },
      it.2,
    )
    first_decides verdict (inr none) some = absurd (some (ap (λ (v : Verdict). v.label) none.1))

    none_matches : (verdict : Verdict) → IsVerdict (Contains first) audience day file verdict → verdict.label ≡ Default → NoneMatches (Contains first) audience day file
    none_matches verdict (inl it) is = absurd (named it.0.band it.0.scope it.0.rank (sym (ap (λ (v : Verdict). v.label) it.2) ∙ is))
    none_matches verdict (inr none) is = none.0

    -- none of the first part matches
    pub second_decides : (verdict other : Verdict) → IsVerdict (Contains first) audience day file verdict → verdict.label ≡ Default → IsVerdict (Contains second) audience day file other → IsVerdict (Contains (first ++ second)) audience day file other
    second_decides verdict other of_first is (inl it) =
        let none = none_matches verdict of_first is in
        inl (
          it.0,
          record {
            among = Contains-append_right first second it.0 it.1.among;
            matches = it.1.matches;
            first = λ rule there before matching.
                elim (Contains-append_cases first second rule there) [
                  | inl early ↦ none rule early matching
                  | inr late ↦ it.1.first rule late before matching
                ];
          },
          it.2,
        )
    second_decides verdict other of_first is (inr it) =
        let none = none_matches verdict of_first is in
        inr (λ rule there matching. elim (Contains-append_cases first second rule there) [ inl early ↦ none rule early matching | inr late ↦ it.0 rule late matching ], it.1)
