-- The waits of a connection that lingers, one after the other.
use Rattle.std.proofs.Common.{◌≡◌, ◌∙◌, ◌+◌, ◌*◌, ◌++◌, ◌∷◌, ℕ, List, [], None, Option, Some, IfSome, ap, append-nil, append_assoc, drop, map, refl, subst, sym}
use Rattle.std.proofs.lemmas.List.{map-append}
use Rattle.std.proofs.lemmas.Option.{same_Some}
use Rattle.std.proofs.lemmas.List.Elements.{All-append, All-cons, All-nil}
use Rattle.rd_messages.specs.Waits.{Ends, EndsAt, GoesOn, WaitUntil, next_of}

module _ (end : ℕ) where
  abbrev none_yet : (times before : List ℕ) → WaitUntil end times before (Some before)
  none_yet times before = record { waits = []; later = times; begun = refl; made = ap Some (sym (append-nil before)); ended = All-nil (EndsAt end) }

  -- before the first wait
  pub begins : (times waits : Option (List ℕ)) → GoesOn end times waits times waits
  begins None waits = tt
  begins (Some times) None = tt
  begins (Some times) (Some before) = (none_yet times before, refl)

  -- no wait
  pub waits_not : (times waits : Option (List ℕ)) → Ends end times waits waits
  waits_not None waits = tt
  waits_not (Some times) None = tt
  waits_not (Some times) (Some before) = none_yet times before

  -- one wait, for what is left at the next millisecond of the clock
  pub waits_once : (times waits later after : Option (List ℕ)) (left : ℕ)
      → IfSome (next_of times) (λ at. left + at * 1_000_000 ≡ end * 1_000_000)
      → ¬ (times ≡ Some [])
      → IfSome times (λ times. later ≡ Some (drop 1 times))
      → IfSome waits (λ before. after ≡ Some (before ++ left ∷ []))
      → GoesOn end times waits later after
  waits_once None waits later after left is some rest made = tt
  waits_once (Some []) waits later after left is some rest made = absurd (some refl)
  waits_once (Some (at ∷ times)) None later after left is some rest made = tt
  waits_once (Some (at ∷ times)) (Some before) later after left is some rest made =
      (record { waits = (at, left) ∷ []; later = times; begun = refl; made = made; ended = All-cons (EndsAt end) (at, left) [] is (All-nil (EndsAt end)) }, rest)

  -- waits, and waits after them
  abbrev more : (times before middle : List ℕ) (after : Option (List ℕ)) (so_far : WaitUntil end times before (Some middle))
      → WaitUntil end so_far.later middle after → WaitUntil end times before after
  more times before middle after so_far next = record {
    waits = so_far.waits ++ next.waits;
    later = next.later;
    begun =
        so_far.begun
        ∙ ap (λ later. map (λ wait. wait.0) so_far.waits ++ later) next.begun
        ∙ sym (append_assoc (map (λ wait. wait.0) so_far.waits) (map (λ wait. wait.0) next.waits) next.later)
        ∙ ap (λ shown. shown ++ next.later) (sym (map-append (λ wait. wait.0) so_far.waits next.waits));
    made =
        next.made
        ∙ ap (λ waited. Some (waited ++ map (λ wait. wait.1) next.waits)) (same_Some _ _ so_far.made)
        ∙ ap Some (append_assoc before (map (λ wait. wait.1) so_far.waits) (map (λ wait. wait.1) next.waits))
        ∙ ap (λ waited. Some (before ++ waited)) (sym (map-append (λ wait. wait.1) so_far.waits next.waits));
    ended = All-append (EndsAt end) so_far.waits next.waits so_far.ended next.ended;
  }

  -- the same, of clocks and streams that may show nothing
  pub goes_on : (times waits later middle latest after : Option (List ℕ))
      → GoesOn end times waits later middle → GoesOn end later middle latest after → GoesOn end times waits latest after
  goes_on None waits later middle latest after first second = tt
  goes_on (Some times) None later middle latest after first second = tt
  goes_on (Some times) (Some before) later middle latest after first second =
      let here = subst (λ later. GoesOn end later middle latest after) first.1 second in
      let seen = subst (λ middle. GoesOn end (Some first.0.later) middle latest after) first.0.made here in
      (more times before _ after (record { waits = first.0.waits; later = first.0.later; begun = first.0.begun; made = refl; ended = first.0.ended }) seen.0, seen.1)

  pub goes_on_and_ends : (times waits later middle after : Option (List ℕ))
      → GoesOn end times waits later middle → Ends end later middle after → Ends end times waits after
  goes_on_and_ends None waits later middle after first second = tt
  goes_on_and_ends (Some times) None later middle after first second = tt
  goes_on_and_ends (Some times) (Some before) later middle after first second =
      let here = subst (λ later. Ends end later middle after) first.1 second in
      let seen = subst (λ middle. Ends end (Some first.0.later) middle after) first.0.made here in
      more times before _ after (record { waits = first.0.waits; later = first.0.later; begun = first.0.begun; made = refl; ended = first.0.ended }) seen

  pub goes_on_ends : (times waits later after : Option (List ℕ)) → GoesOn end times waits later after → Ends end times waits after
  goes_on_ends None waits later after so_far = tt
  goes_on_ends (Some times) None later after so_far = tt
  goes_on_ends (Some times) (Some before) later after so_far = so_far.0
