-- Rules in order give each file a verdict, and each day has a date.
use Rattle.std.proofs.Common.{◌≡◌, inl, inr, ◌∙◌, ◌+◌, ◌-◌, ◌<◌, ◌≤◌, ◌++◌, ℕ, zero, suc, ℤ, pos, neg_ℤ, ◌+ℤ◌, ◌≤ℤ◌, ◌<ℤ◌, List, [], ◌∷◌, Contains, IfSome, Option, Some, None, ap, ap₂, arith, length, refl, rules, slice_index_or, subst, sym}
use Rattle.std.proofs.lemmas.Bool.{cases_lt}
use Rattle.std.proofs.lemmas.Int.{by_lt_z, ints}
use Rattle.jiff.specs.Types.{Date}
use Rattle.jiff.specs.Words.{date_text, days_in_month, epoch_day}
use Rattle.jiff_core.proofs.CalendarLemmas.{days_in_month_bounds}
use Rattle.jiff_core.proofs.DateLemmas.{days_from_civil-day, days_from_civil-max, days_from_civil-min, days_from_civil-next_month, days_from_civil-next_year}
use Rattle.jiff_core.proofs.SignedLemmas.{signed_arith}
use Rattle.rd_geometry.proofs.Decidability.{Decided, decided_as, decided_both, decided_same, decided_text, decided_true, fails, holds}
use Rattle.rd_volume.specs.declared.found.Found.{Found}
use Rattle.rd_policy.specs.Audiences.{IsAmong}
use Rattle.rd_policy.specs.Dates.{IsDateOf}
use Rattle.rd_policy.specs.Days.{IsDay}
use Rattle.rd_policy.specs.Matches.{BeginsWith, Matches, Selects}
use Rattle.rd_policy.specs.Verdicts.{AreInOrder, DEFAULT, IsVerdict, verdict_of}
use Rattle.rd_policy.specs.declared.audience.Audience.{Audience}
use Rattle.rd_policy.specs.declared.audience.Audience.TheVariants.{Public, Room, Staff}
use Rattle.rd_policy.specs.declared.audience.Audiences.{Audiences}
use Rattle.rd_policy.specs.declared.rule.Rule.{Rule}
use Rattle.rd_policy.specs.declared.select.Select.{Select}
use Rattle.rd_policy.specs.declared.select.Select.TheVariants.{All as AllFiles, Slot, Prefix, User, Kind}
use Rattle.rd_policy.specs.declared.verdict.Verdict.{Verdict}
use Rattle.rd_policy.proofs.OrderLemmas.{NoneBefore, first_decides, none_more}
use borrow.Author.Differences.{up, down}

-- ---- whether a rule matches

decided_among : (set : Audiences) (audience : Audience) → Decided (IsAmong set audience)
decided_among set Public = decided_true set.public
decided_among set Room = decided_true set.room
decided_among set Staff = decided_true set.staff

decided_begun : (day : ℤ) (from : Option ℤ) → Decided (IfSome from (λ first. first ≤ℤ day))
decided_begun day None = holds tt
decided_begun day (Some first) = by_lt_z day first (λ low. fails (λ high. absurd (omega (arith, ints, low, high)))) (λ high. holds high)

decided_not_over : (day : ℤ) (until : Option ℤ) → Decided (IfSome until (λ end. day <ℤ end))
decided_not_over day None = holds tt
decided_not_over day (Some end) = by_lt_z day end (λ low. holds low) (λ high. fails (λ low. absurd (omega (arith, ints, low, high))))

decided_prefix : (text prefix : List ℕ) → Decided (BeginsWith text prefix)
decided_prefix text [] = holds (text, refl)
decided_prefix [] (p ∷ prefix) = fails (λ begins. let wrong : [] ≡ p ∷ (prefix ++ begins.0) = begins.1 in cc)
decided_prefix (x ∷ text) (p ∷ prefix) =
    decided_as (decided_both (decided_same x p) (decided_prefix text prefix))
    (λ is. (is.1.0, ap₂ (λ n ns. n ∷ ns) is.0 is.1.1))
    (λ begins. let same : x ∷ text ≡ p ∷ (prefix ++ begins.0) = begins.1 in (first_of same, (begins.0, rest_of begins.0 same)))
  where
    first_of : {xs ys : List ℕ} → x ∷ xs ≡ p ∷ ys → x ≡ p
    first_of same = cc

    rest_of : (rest : List ℕ) → x ∷ text ≡ p ∷ (prefix ++ rest) → text ≡ prefix ++ rest
    rest_of rest same = cc

decided_user : (found : Option ℕ) (user : ℕ) → Decided (found ≡ Some user)
decided_user None user = fails (λ is. cc)
decided_user (Some other) user = decided_as (decided_same other user)
    (λ same. ap Some same)
    (λ is. (cc))

decided_selects : (select : Select) (file : Found) → Decided (Selects select file)
decided_selects AllFiles file = holds tt
decided_selects (Slot slot) file = decided_same file.slot slot
decided_selects (Prefix prefix) file = decided_prefix file.name prefix
decided_selects (User user) file = decided_user file.user user
decided_selects (Kind text) file = decided_text file.ty text

decided_matches : (rule : Rule) (audience : Audience) (day : ℤ) (file : Found) → Decided (Matches rule audience day file)
decided_matches rule audience day file =
    decided_as (decided_both (decided_among rule.audiences audience) (decided_both (decided_begun day rule.from)
    (decided_both (decided_not_over day rule.until) (decided_selects rule.select file))))
    (λ is. record { asked = is.0; begun = is.1.0; not_over = is.1.1.0; selected = is.1.1.1 })
    (λ matches. (matches.asked, (matches.begun, (matches.not_over, matches.selected))))

-- ---- the verdict

-- the item at a place
item_at : {X : Type 0} (xs : List X) (i : ℕ) → i < length xs → (x : X) × (x ≡ slice_index_or xs i x)
item_at [] i inside = absurd (omega (arith, inside))
item_at (x ∷ xs) zero inside = (x, refl)
item_at (x ∷ xs) (suc i) inside = item_at xs i (omega (arith, inside))

module _ (list : List Rule) (audience : Audience) (day : ℤ) (file : Found) (order : AreInOrder list) where
  abbrev HasVerdict : Type 0
  HasVerdict = (verdict : Verdict) × IsVerdict (Contains list) audience day file verdict

  none_matches : (i : ℕ) → i ≡ length list → NoneBefore list audience day file i → HasVerdict
  none_matches i whole none = (
    DEFAULT,
    inr (
      λ rule there matches. none there.0 rule (let inside : there.0 < length list = there.1 in omega (arith, inside, whole))
          (subst (λ r. Matches r audience day file) (sym there.2) matches),
      refl,
    ),
  )

  by_rule : (i : ℕ) (rule : Rule) → NoneBefore list audience day file i → rule ≡ slice_index_or list i rule → i < length list → Decided (Matches rule audience day file)
      → (NoneBefore list audience day file (i + 1) → HasVerdict) → HasVerdict
  by_rule i rule none at_rule inside (holds matches) later =
      (verdict_of rule, inl (rule, first_decides list audience day file i rule order inside at_rule none matches, refl))
  by_rule i rule none at_rule inside (fails unfit) later = later (none_more list audience day file i rule inside at_rule unfit none)

  verdict_from : (fuel i : ℕ) → i + fuel ≡ length list → NoneBefore list audience day file i → HasVerdict
  verdict_from zero i left none = none_matches i (omega (arith, left)) none
  verdict_from (suc fuel) i left none =
      let inside : i < length list = omega (arith, left) in
      let item = item_at list i inside in
      by_rule i item.0 none item.1 inside (decided_matches item.0 audience day file) (λ more. verdict_from fuel (i + 1) (omega (arith, left)) more)

  -- rules in order give a verdict
  pub verdict_on : HasVerdict
  verdict_on = verdict_from (length list) 0 (omega arith) (λ k d low. absurd (omega (arith, low)))

-- ---- dates

next_date : (date : Date) → epoch_day date <ℤ pos 2_932_896 → (next : Date) × (epoch_day next ≡ epoch_day date +ℤ pos 1)
next_date date before =
    elim (cases_lt date.day (days_in_month date.year date.month)) [
      | inl in_month ↦ (
        record { year = date.year; month = date.month; day = date.day + 1; year_in = date.year_in; month_in = date.month_in; day_in = (omega arith, omega (arith, in_month)) },
        omega (arith, signed_arith, days_from_civil-day date.year date.month (date.day + 1) date.day (omega arith) date.day_in.0),
      )
      | inr at_end ↦ (
          let last : date.day ≡ days_in_month date.year date.month = omega (arith, at_end, date.day_in.1) in
          elim (cases_lt date.month 12) [
            | inl in_year ↦ (
              record {
                year = date.year;
                month = date.month + 1;
                day = 1;
                year_in = date.year_in;
                month_in = (omega arith, omega (arith, in_year));
                day_in = (omega arith, omega (arith, days_in_month_bounds date.year (date.month + 1)));
              },
              days_from_civil-next_month date.year date.month date.day date.month_in.0 last,
            )
            | inr december ↦ next_year date before (omega (arith, december, date.month_in.1)) last
          ])
    ]
  where
    next_year : (date : Date) → epoch_day date <ℤ pos 2_932_896 → date.month ≡ 12 → date.day ≡ days_in_month date.year date.month
        → (next : Date) × (epoch_day next ≡ epoch_day date +ℤ pos 1)
    next_year date before month last =
        let day : date.day ≡ 31 = last ∙ ap (days_in_month date.year) month in
        by_lt_z date.year (pos 9999)
        (λ earlier. (
          record {
            year = date.year +ℤ pos 1;
            month = 1;
            day = 1;
            year_in = (omega (arith, signed_arith, date.year_in.0), omega (arith, signed_arith, earlier));
            month_in = (omega arith, omega arith);
            day_in = (omega arith, omega (arith, days_in_month_bounds (date.year +ℤ pos 1) 1));
          },
          rw (month, day) (days_from_civil-next_year date.year (date.year +ℤ pos 1) (omega (arith, signed_arith, date.year_in.0)) refl),
        ))
        (λ late. (
        let year : date.year ≡ pos 9999 = omega (arith, signed_arith, late, date.year_in.1) in
        let is : epoch_day date ≡ pos 2_932_896 = rw (year, month, day) days_from_civil-max in
        absurd (omega (arith, signed_arith, is, before))))

dates_from : (n : ℕ) → n ≤ 7_304_483 → (date : Date) × (epoch_day date ≡ neg_ℤ (pos 4_371_587) +ℤ pos n)
dates_from zero low =
    let first : Date = record { year = neg_ℤ (pos 9999); month = 1; day = 1; year_in = search rules; month_in = search rules; day_in = search rules } in
    (first, omega (arith, signed_arith, days_from_civil-min))
dates_from (suc n) low =
    let before = dates_from n (omega (arith, low)) in
    let next = next_date before.0 (omega (arith, signed_arith, before.1, low)) in
    (next.0, omega (arith, signed_arith, before.1, next.1))

-- each day has a date
pub date_of : (day : ℤ) → IsDay day → (text : List ℕ) × IsDateOf day text
date_of day in_range =
    let n : ℕ = up day + 4_371_587 - down day in
    let low : n ≤ 7_304_483 = omega (arith, signed_arith, in_range.0, in_range.1) in
    let is : day ≡ neg_ℤ (pos 4_371_587) +ℤ pos n = omega (arith, signed_arith, in_range.0, in_range.1) in
    let found = dates_from n low in
    (date_text found.0, record { date = found.0; number = found.1 ∙ sym is; in_range = in_range; written = refl })
