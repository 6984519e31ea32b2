-- The rules as a command would leave them, and the differences in effect, accession by accession.
use Rattle.std.proofs.Common.{◌≡◌, ◌≢◌, ◌⊎◌, ◌∙◌, ◌++◌, ◌&&◌, ◌==◌, ◌+◌, ◌<◌, ◌↔◌, inl, inr, ℕ, zero, suc, ℤ, List, [], ◌∷◌, All, Bool, true, false, cond, Contains, IfSome, Option, Some, None, T, ap, ap₂, append_assoc, arith, get_or, is_lt, length, map, nat_cmp, option_map, refl, subst, sym, take}
use Rattle.std.specs.FinMap.{FinMap, entries, entries_sorted, get, keys}
use Rattle.std.specs.FinMap.Entries.{below_all, is_sorted}
use Rattle.std.specs.List.{AllZip, flat_map}
use Rattle.std.proofs.lemmas.Bool.Decides.{nat_tests}
use Rattle.std.proofs.lemmas.List.{append-nil, map-append}
use Rattle.std.proofs.lemmas.List.Elements.{All-append, All-cons, All-nil, Contains-append_cases, Contains-append_left, Contains-append_right}
use Rattle.std.specs.Option.{option_to_list}
use Rattle.rd_policy.specs.Verdicts.{IsVerdict}
use Rattle.rd_policy.specs.declared.audience.Audience.{Audience}
use Rattle.rd_policy.specs.declared.rule.Band.{Band}
use Rattle.rd_policy.specs.declared.rule.Effect.{Effect}
use Rattle.rd_policy.specs.declared.rule.Effect.TheVariants.{Deny, List as Listed, Read}
use Rattle.rd_policy.specs.declared.rule.Rule.{Rule}
use Rattle.rd_volume.specs.Volumes.{AreFounds}
use Rattle.rd_volume.specs.declared.found.Found.{Found}
use Rattle.rd_protocol.specs.Rehearsals.{IsRehearsal, differences_at, differences_between, differences_of, same_effect}
use Rattle.rd_holdings.specs.RulesFor.{IsAbout, IsRuleFor}
use Rattle.rd_holdings.specs.State.{Desk, Place, Stands, Terms, accession_of, band_code, place_cmp, place_of, registered, rule_of, rules_for, terms_of}
use Rattle.rd_protocol.specs.Verdicts.{IsDecided, IsVerdictsOf}
use Rattle.rd_protocol.specs.declared.response.Difference.{Difference}
use Rattle.rd_protocol.specs.declared.response.FileVerdicts.{FileVerdicts}
use Rattle.rd_protocol.specs.declared.response.Verdicts.{Verdicts}
use Rattle.rd_holdings.specs.declared.rows.ImageRow.{ImageRow}
use Rattle.rd_holdings.proofs.KeyOrders.{number_order, place_order, same_band}
use Rattle.rd_holdings.proofs.Lawful.{others_left, others_stay}
use Rattle.rd_holdings.proofs.Maps.{get_inserted, get_removed}
use Rattle.rd_holdings.proofs.Members.{Has, both, entry_got, got_entry}
use Rattle.rd_holdings.proofs.RulesFor.{for_in_order, is_among, is_for}
use Rattle.rd_protocol.proofs.VerdictLemmas.{files_said}
use Rattle.rd_policy.specs.declared.audience.Audience.TheVariants.{Staff}
use Rattle.rd_protocol.specs.Judged.{IsAccepted}
use Rattle.rd_protocol.specs.declared.request.What.TheVariants.{RehearseDrop, RehearseRule}
use Rattle.rd_holdings.specs.declared.rows.Accession.{Accession}
use Rattle.rd_protocol.proofs.StaffRefusals.{command_accepted, has_accession, has_deed}
use Rattle.rd_desk.proofs.ListLemmas.{mapped_at}
use Rattle.rd_desk.specs.Calls.{ForEachCaller, IsRegistered}
use Rattle.rd_desk.specs.Rehearsing.{AddsDifferencesAt, AreDifferencesAt, AreDifferencesOf, AreFileDifferences, desk_changed, is_there, rules_changed}

-- ---- lists with the same rules give the same verdicts

verdict_as : (rules others : Rule → Type 0) → ((rule : Rule) → rules rule → others rule) → ((rule : Rule) → others rule → rules rule)
    → (audience : Audience) (day : ℤ) (file : Found) {verdict : _} → IsVerdict rules audience day file verdict → IsVerdict others audience day file verdict
verdict_as rules others to from audience day file (inl decides) = inl (
  decides.0,
  record {
    among = to decides.0 decides.1.among;
    matches = decides.1.matches;
    first = λ other there before. decides.1.first other (from other there) before;
  },
  decides.2,
)
verdict_as rules others to from audience day file (inr none) = inr (λ rule there. none.0 rule (from rule there), none.1)

-- lists of the same rules decide the same of files
pub decided_as : (rules others : List Rule) → ((rule : Rule) → Contains rules rule → Contains others rule) → ((rule : Rule) → Contains others rule → Contains rules rule)
    → (day : ℤ) (files : List FileVerdicts) → All (IsDecided rules day) files → All (IsDecided others day) files
decided_as rules others to from day files decided k d inside = λ audience. verdict_as (Contains rules) (Contains others) to from audience day _ (decided k d inside audience)

-- ---- places

same_number : (a b : ℕ) → (a == b) ≡ true → a ≡ b
same_number a b is = grind (arith, nat_tests)

itself : (n : ℕ) → (n == n) ≡ true
itself n = grind arith

pub there_is : (place : Place) (rule : Rule) → is_there place rule ≡ true → place_of rule ≡ place
there_is place rule is =
    let first = both (band_code rule.band == band_code place.band) ((rule.scope == place.scope) && (rule.rank == place.rank)) is in
    let second = both (rule.scope == place.scope) (rule.rank == place.rank) first.1 in
    let band = same_band rule.band place.band (same_number _ _ first.0) in
    let scope = same_number _ _ second.0 in
    let rank = same_number _ _ second.1 in
    λ i. record { band = band i; scope = scope i; rank = rank i }

there_itself : (rule : Rule) → is_there (place_of rule) rule ≡ true
there_itself rule = rw (itself (band_code rule.band), itself rule.scope, itself rule.rank) refl

pub there_not : (place : Place) (rule : Rule) → is_there place rule ≡ false → place_of rule ≢ place
there_not place rule apart same = let here : is_there place rule ≡ true = subst (λ (p : Place). is_there p rule ≡ true) same (there_itself rule) in cc

-- ---- the rules of a desk, as the change leaves them

module _ (place : Place) (map_of : FinMap place_cmp Terms) where
  stays_elsewhere : (rule : Option Rule) (other : Place) → other ≢ place → get (rules_changed place rule map_of) other ≡ get map_of other
  stays_elsewhere None other apart = others_left place_cmp place_order map_of place other apart
  stays_elsewhere (Some rule) other apart = others_stay place_cmp place_order map_of place (terms_of rule) other apart

  stands_there : (rule : Option Rule) (terms : Terms) → get (rules_changed place rule map_of) place ≡ Some terms → (put : Rule) × (rule ≡ Some put) × (terms_of put ≡ terms)
  stands_there None terms is = let none = get_removed place_cmp place_order.total map_of place in absurd cc
  stands_there (Some put) terms is = let some = get_inserted place_cmp place_order.total map_of place (terms_of put) in (put, refl, cc)

  is_put : (rule : Option Rule) (put : Rule) → rule ≡ Some put → get (rules_changed place rule map_of) place ≡ Some (terms_of put)
  is_put None put is = absurd cc
  is_put (Some one) put is = let some = get_inserted place_cmp place_order.total map_of place (terms_of one) in some ∙ ap (λ (o : Option Rule). terms_if o) is
    where
      terms_if : Option Rule → Option Terms
      terms_if None = None
      terms_if (Some r) = Some (terms_of r)

module _ (desk : Desk) (place : Place) (rule : Option Rule) where
  abbrev after : Desk
  after = desk_changed place rule desk

  module _ (acc : ℕ) (image : ImageRow) (standing : get desk.images acc ≡ Some image) where
    about_place : (other : Rule) → IsAbout acc image.deed other.band other.scope → place_of other ≡ place → IsAbout acc image.deed place.band place.scope
    about_place other about same = subst (λ (p : Place). IsAbout acc image.deed p.band p.scope) same about

    about_here : (other : Rule) → (of : Desk) → get of.images acc ≡ Some image → (is : IsRuleFor of acc other) → IsAbout acc image.deed other.band other.scope
    about_here other of given is = let same : is.image ≡ image = let there = is.given in cc in subst (λ (row : ImageRow). IsAbout acc row.deed other.band other.scope) same is.about

    -- where the place is not about the accession, its rules stay
    module _ (apart : ¬ IsAbout acc image.deed place.band place.scope) where
      pub untouched_to : (other : Rule) → Contains (rules_for desk acc) other → Contains (rules_for after acc) other
      untouched_to other there =
          let is = is_for desk acc other there in
          let elsewhere = λ (same : place_of other ≡ place). apart (about_place other (about_here other desk standing is) same) in
          is_among after acc other (record { image = is.image; given = is.given; stands = stays_elsewhere place desk.rules rule (place_of other) elsewhere ∙ is.stands; about = is.about })

      pub untouched_from : (other : Rule) → Contains (rules_for after acc) other → Contains (rules_for desk acc) other
      untouched_from other there =
          let is = is_for after acc other there in
          let elsewhere = λ (same : place_of other ≡ place). apart (about_place other (about_here other after standing is) same) in
          is_among desk acc other (record { image = is.image; given = is.given; stands = sym (stays_elsewhere place desk.rules rule (place_of other) elsewhere) ∙ is.stands; about = is.about })

    -- where it is, they are those that do not stand there, and the one that is put
    module _ (about : IsAbout acc image.deed place.band place.scope) (placed : IfSome rule (λ put. place_of put ≡ place)) where
      abbrev Later : Rule → Type 0
      Later other = (Contains (rules_for desk acc) other × (is_there place other ≡ false)) ⊎ (rule ≡ Some other)

      pub touched_to : (other : Rule) → Later other → Contains (rules_for after acc) other
      touched_to other (inl (there, apart)) =
          let is = is_for desk acc other there in
          is_among after acc other (record { image = is.image; given = is.given; stands = stays_elsewhere place desk.rules rule (place_of other) (there_not place other apart) ∙ is.stands; about = is.about })
      touched_to other (inr put) =
          let at_place : place_of other ≡ place = subst (λ (o : Option Rule). IfSome o (λ one. place_of one ≡ place)) put placed in
          is_among after acc other (record {
            image = image;
            given = standing;
            stands = ap (get after.rules) at_place ∙ is_put place desk.rules rule other put;
            about = subst (λ (p : Place). IsAbout acc image.deed p.band p.scope) (sym at_place) about;
          })

      pub touched_from : (other : Rule) → Contains (rules_for after acc) other → Later other
      touched_from other there = go (is_there place other) refl
        where
          is : IsRuleFor after acc other
          is = is_for after acc other there

          go : (b : Bool) → is_there place other ≡ b → Later other
          go true here =
              let at_place = there_is place other here in
              let found = stands_there place desk.rules rule (terms_of other) (ap (get after.rules) (sym at_place) ∙ is.stands) in
              let put_place : place_of found.0 ≡ place_of other = subst (λ (o : Option Rule). IfSome o (λ one. place_of one ≡ place)) found.1 placed ∙ sym at_place in
              let same : found.0 ≡ other = λ i. rule_of (put_place i, found.2 i) in
              inr (found.1 ∙ ap Some same)
          go false apart = inl (
            is_among desk acc other (record {
              image = is.image;
              given = is.given;
              stands = sym (stays_elsewhere place desk.rules rule (place_of other) (there_not place other apart)) ∙ is.stands;
              about = is.about;
            }),
            apart,
          )

    -- ---- the differences for one accession

    module _ (day : ℤ) where
      -- from lists of the rules before and after
      pub differences_as : (later : List Rule) (found : List Found) (differences : List Difference) → AreFounds image.kind image.bytes found
          → ((other : Rule) → Contains later other → Contains (rules_for after acc) other) → ((other : Rule) → Contains (rules_for after acc) other → Contains later other)
          → AreFileDifferences (rules_for desk acc) later day acc found differences → AreDifferencesAt desk after day acc differences
      differences_as later found differences founds to from is = record {
        image = image;
        standing = standing;
        files = is.files;
        laters = is.laters;
        here = record { all = subst (AreFounds image.kind image.bytes) (sym is.same) founds; decided = is.here };
        there = record {
          all = subst (AreFounds image.kind image.bytes) (sym is.also) founds;
          decided = decided_as later (rules_for after acc) to from day is.laters is.there;
        };
        are = is.are;
      }

      -- where the place is not about it, there is none
      pub untouched_at : ¬ IsAbout acc image.deed place.band place.scope → (found : List Found) → AreFounds image.kind image.bytes found → AreDifferencesAt desk after day acc []
      untouched_at apart found founds =
          let lines = files_said (rules_for desk acc) day (for_in_order desk acc) found in
          let all = subst (AreFounds image.kind image.bytes) (sym lines.1) founds in
          record {
            image = image;
            standing = standing;
            files = lines.0;
            laters = lines.0;
            here = record { all = all; decided = lines.2 };
            there = record { all = all; decided = decided_as (rules_for desk acc) (rules_for after acc) (untouched_to apart) (untouched_from apart) day lines.0 lines.2 };
            are = none_differ lines.0;
          }
        where
          alike : (effect : Effect) → same_effect effect effect ≡ true
          alike Deny = refl
          alike Listed = refl
          alike Read = refl

          none_differ : (lines : List FileVerdicts) → [] ≡ differences_at acc lines lines
          none_differ [] = refl
          none_differ (line ∷ lines) = rw (alike line.public.effect, alike line.room.effect, alike line.staff.effect) (none_differ lines)

-- ---- the differences for several accessions

module _ (desk after : Desk) (day : ℤ) where
  -- one accession more
  pub differences_more : (accs : List ℕ) (differences : List Difference) (acc : ℕ) (more : List Difference) → AreDifferencesOf desk after day accs differences
      → AreDifferencesAt desk after day acc more → AreDifferencesOf desk after day (accs ++ acc ∷ []) (differences ++ more)
  differences_more [] differences acc more of at = (more, [], at, refl, ap (λ (first : List Difference). first ++ more) of ∙ sym (append-nil more))
  differences_more (one ∷ accs) differences acc more of at =
      (of.0, of.1 ++ more, of.2, differences_more accs of.1 acc more of.3 at, ap (λ (first : List Difference). first ++ more) of.4 ∙ append_assoc of.0 of.1 more)

  abbrev Entries : Type 0
  Entries = List (ℕ × ImageRow)

  abbrev numbers : Entries → List ℕ
  numbers es = map (λ e. e.0) es

  none_at_all : (es : Entries) → ((e : ℕ × ImageRow) → Has es e → AreDifferencesAt desk after day e.0 []) → AreDifferencesOf desk after day (numbers es) []
  none_at_all [] none = refl
  none_at_all (e ∷ es) none = ([], [], none e (inl refl), none_at_all es (λ f there. none f (inr there)), refl)

  halves : (a b : Bool) → T (a && b) → T a × T b
  halves true b h = (tt, h)
  halves false b h = absurd h

  is_true : (b : Bool) → T b → b ≡ true
  is_true true h = refl
  is_true false h = absurd h

  less : (a b : ℕ) → is_lt (nat_cmp a b) ≡ true → a < b
  less a b is = grind (arith, nat_tests)

  below : (n : ℕ) (es : Entries) → T (below_all nat_cmp n es) → (e : ℕ × ImageRow) → Has es e → n < e.0
  below n [] low e none = absurd none
  below n (f ∷ es) low e (inl is) = less n e.0 (is_true _ (subst (λ (g : ℕ × ImageRow). T (is_lt (nat_cmp n g.0))) (sym is) (halves (is_lt (nat_cmp n f.0)) (below_all nat_cmp n es) low).0))
  below n (f ∷ es) low e (inr there) = below n es (halves (is_lt (nat_cmp n f.0)) (below_all nat_cmp n es) low).1 e there

  -- those of one accession, where the others have none
  alone : (acc : ℕ) (image : ImageRow) (differences : List Difference) → AreDifferencesAt desk after day acc differences → (es : Entries) → T (is_sorted nat_cmp es) → Has es (acc, image)
      → ((e : ℕ × ImageRow) → Has es e → e.0 ≢ acc → AreDifferencesAt desk after day e.0 []) → AreDifferencesOf desk after day (numbers es) differences
  alone acc image differences at [] sorted none others = absurd none
  alone acc image differences at (e ∷ es) sorted (inl is) others =
      let number : acc ≡ e.0 = ap (λ (f : ℕ × ImageRow). f.0) is in
      let low = (halves (below_all nat_cmp e.0 es) (is_sorted nat_cmp es) sorted).0 in (
        differences,
        [],
        subst (λ n. AreDifferencesAt desk after day n differences) number at,
        none_at_all es (λ f there. others f (inr there) (λ same. let above = below e.0 es low f there in omega (arith, number, same, above))),
        sym (append-nil differences),
      )
  alone acc image differences at (e ∷ es) sorted (inr there) others =
      let both_halves = halves (below_all nat_cmp e.0 es) (is_sorted nat_cmp es) sorted in
      let above = below e.0 es both_halves.0 (acc, image) there in
      ([], differences, others e (inl refl) (λ same. omega (arith, same, above)), alone acc image differences at es both_halves.1 there (λ f inside. others f (inr inside)), refl)

-- the differences for all accessions are the rehearsal
module _ (desk : Desk) (place : Place) (rule : Option Rule) (day : ℤ) where
  abbrev changed : Desk
  changed = desk_changed place rule desk

  lists_of : (accs : List ℕ) (differences : List Difference) → AreDifferencesOf desk changed day accs differences
      → (verdicts : List Verdicts) × (others : List Verdicts) × AllZip (IsVerdictsOf desk day) accs verdicts × AllZip (IsVerdictsOf changed day) accs others × (differences ≡ differences_between verdicts others)
  lists_of [] differences of = ([], [], tt, tt, of)
  lists_of (acc ∷ accs) differences of =
      let at = of.2 in
      let rest = lists_of accs of.1 of.3 in
      let now : Verdicts = record { accession = acc; deed = at.image.deed; kind = at.image.kind; files = at.files } in
      let later : Verdicts = record { accession = acc; deed = at.image.deed; kind = at.image.kind; files = at.laters } in (
        now ∷ rest.0,
        later ∷ rest.1,
        (record { image = at.image; standing = at.standing; accession = refl; deed = refl; kind = refl; files = at.here }, rest.2),
        (record { image = at.image; standing = at.standing; accession = refl; deed = refl; kind = refl; files = at.there }, rest.3),
        of.4 ∙ ap₂ (λ (first more : List Difference). first ++ more) at.are rest.4,
      )

  pub rehearsal_of : (differences : List Difference) → AreDifferencesOf desk changed day (keys desk.images) differences → IsRehearsal desk changed day differences
  rehearsal_of differences of =
      let lists = lists_of (keys desk.images) differences of in
      record { verdicts = lists.0; others = lists.1; here = lists.2; there = lists.3; are = lists.4 }

  -- a change that is about one accession alone
  pub rehearsal_alone : (acc : ℕ) (image : ImageRow) (differences : List Difference) → get desk.images acc ≡ Some image → AreDifferencesAt desk changed day acc differences
      → ((other : ℕ) (row : ImageRow) → get desk.images other ≡ Some row → other ≢ acc → AreDifferencesAt desk changed day other []) → IsRehearsal desk changed day differences
  rehearsal_alone acc image differences standing at others =
      rehearsal_of differences (alone desk changed day acc image differences at (entries desk.images) (entries_sorted desk.images) (got_entry nat_cmp number_order desk.images acc image standing)
      (λ e there apart. others e.0 e.1 (entry_got nat_cmp number_order desk.images e.0 e.1 there) apart))

-- ---- the differences for the files of one accession

differences_at_more : (acc : ℕ) (files laters : List FileVerdicts) → map (λ file. file.file) files ≡ map (λ file. file.file) laters → (before after : FileVerdicts)
    → differences_at acc files laters ++ differences_of acc before after ≡ differences_at acc (files ++ before ∷ []) (laters ++ after ∷ [])
differences_at_more acc [] [] same before after = sym (append-nil (differences_of acc before after))
differences_at_more acc [] (later ∷ laters) same before after = absurd cc
differences_at_more acc (file ∷ files) [] same before after = absurd cc
differences_at_more acc (file ∷ files) (later ∷ laters) same before after =
    let rest : map (λ (line : FileVerdicts). line.file) files ≡ map (λ (line : FileVerdicts). line.file) laters = cc in
    append_assoc (differences_of acc file later) (differences_at acc files laters) (differences_of acc before after)
    ∙ ap (λ more. differences_of acc file later ++ more) (differences_at_more acc files laters rest before after)

-- no file has none
pub no_file_differences : (rules others : List Rule) (day : ℤ) (acc : ℕ) → AreFileDifferences rules others day acc [] []
no_file_differences rules others day acc = record { files = []; laters = []; same = refl; also = refl; here = All-nil (IsDecided rules day); there = All-nil (IsDecided others day); are = refl }

-- one file more
pub file_differences_more : (rules others : List Rule) (day : ℤ) (acc : ℕ) (found : List Found) (differences : List Difference) (before after : FileVerdicts) → before.file ≡ after.file
    → IsDecided rules day before → IsDecided others day after → AreFileDifferences rules others day acc found differences
    → AreFileDifferences rules others day acc (found ++ before.file ∷ []) (differences ++ differences_of acc before after)
file_differences_more rules others day acc found differences before after one first second is = record {
  files = is.files ++ before ∷ [];
  laters = is.laters ++ after ∷ [];
  same = map-append (λ (line : FileVerdicts). line.file) is.files (before ∷ []) ∙ ap (λ files. files ++ before.file ∷ []) is.same;
  also = map-append (λ (line : FileVerdicts). line.file) is.laters (after ∷ []) ∙ ap₂ (λ files file. files ++ file ∷ []) is.also (sym one);
  here = All-append (IsDecided rules day) is.files (before ∷ []) is.here (All-cons (IsDecided rules day) before [] first (All-nil (IsDecided rules day)));
  there = All-append (IsDecided others day) is.laters (after ∷ []) is.there (All-cons (IsDecided others day) after [] second (All-nil (IsDecided others day)));
  are = ap (λ lines. lines ++ differences_of acc before after) is.are ∙ differences_at_more acc is.files is.laters (is.same ∙ sym is.also) before after;
}

-- ---- the rules as a list

-- the rule, if it does not stand at the place
abbrev kept_of : Place → Rule → List Rule
kept_of place rule = cond (is_there place rule) [] (rule ∷ [])

only_one : (one rule : Rule) → Contains (one ∷ []) rule → one ≡ rule
only_one one rule (zero, within, is) = is
only_one one rule (suc k, within, is) = absurd (let low : suc k < 1 = within in omega (arith, low))

no_one : (rule : Rule) → Contains [] rule → ⊥
no_one rule (k, within, is) = let low : k < 0 = within in omega (arith, low)

first_of : (one : Rule) (rules : List Rule) → Contains (one ∷ rules) one
first_of one rules = (0, omega arith, refl)

kept_to : (place : Place) (rules : List Rule) (rule : Rule) → Contains (flat_map (kept_of place) rules) rule → Contains rules rule × (is_there place rule ≡ false)
kept_to place [] rule none = absurd (no_one rule none)
kept_to place (one ∷ rules) rule there = elim (Contains-append_cases (kept_of place one) (flat_map (kept_of place) rules) rule there) [
  | inl here ↦ go (is_there place one) refl here
  | inr later ↦ let it = kept_to place rules rule later in (Contains-append_right (one ∷ []) rules rule it.0, it.1)
]
  where
    go : (b : Bool) → is_there place one ≡ b → Contains (cond b [] (one ∷ [])) rule → Contains (one ∷ rules) rule × (is_there place rule ≡ false)
    go true is none = absurd (no_one rule none)
    go false is here =
        let same = only_one one rule here in
        (subst (Contains (one ∷ rules)) same (first_of one rules), subst (λ (r : Rule). is_there place r ≡ false) same is)

kept_from : (place : Place) (rules : List Rule) (rule : Rule) → Contains rules rule → is_there place rule ≡ false → Contains (flat_map (kept_of place) rules) rule
kept_from place [] rule none apart = absurd (no_one rule none)
kept_from place (one ∷ rules) rule there apart = elim (Contains-append_cases (one ∷ []) rules rule there) [
  | inl here ↦ Contains-append_left (kept_of place one) (flat_map (kept_of place) rules) rule (
      let same = only_one one rule here in
      subst (Contains (kept_of place one)) same (subst (λ b. Contains (cond b [] (one ∷ [])) one) (sym (subst (λ (r : Rule). is_there place r ≡ false) (sym same) apart)) (first_of one []))
      )
  | inr later ↦ Contains-append_right (kept_of place one) (flat_map (kept_of place) rules) rule (kept_from place rules rule later apart)
]

put_to : (put : Option Rule) (rule : Rule) → Contains (option_to_list put) rule → put ≡ Some rule
put_to None rule none = absurd (no_one rule none)
put_to (Some one) rule there = ap Some (only_one one rule there)

put_from : (put : Option Rule) (rule : Rule) → put ≡ Some rule → Contains (option_to_list put) rule
put_from put rule is = subst (λ (o : Option Rule). Contains (option_to_list o) rule) (sym is) (first_of rule [])

-- the rules without the one at a place, and the one that is put, in whatever order
pub those_changed : (place : Place) (put : Option Rule) (rules later ordered : List Rule) → later ≡ flat_map (kept_of place) rules ++ option_to_list put → ((rule : Rule) → Contains ordered rule ↔ Contains later rule)
    → (rule : Rule) → Contains ordered rule ↔ ((Contains rules rule × (is_there place rule ≡ false)) ⊎ (put ≡ Some rule))
those_changed place put rules later ordered is same rule = (
  λ there. elim (Contains-append_cases (flat_map (kept_of place) rules) (option_to_list put) rule (subst (λ list. Contains list rule) is ((same rule).0 there))) [
    | inl old ↦ inl (kept_to place rules rule old)
    | inr new ↦ inr (put_to put rule new)
  ],
  λ those. (same rule).1 (subst (λ list. Contains list rule) (sym is) (elim those [
    | inl old ↦ Contains-append_left (flat_map (kept_of place) rules) (option_to_list put) rule (kept_from place rules rule old.0 old.1)
    | inr new ↦ Contains-append_right (flat_map (kept_of place) rules) (option_to_list put) rule (put_from put rule new)
  ])),
)

-- the differences over the same lists
pub differences_over : (rules others later laters : List Rule) (day on : ℤ) (acc : ℕ) (found files : List Found) (differences : List Difference) → rules ≡ others → later ≡ laters → day ≡ on → found ≡ files
    → AreFileDifferences rules later day acc found differences → AreFileDifferences others laters on acc files differences
differences_over rules others later laters day on acc found files differences first second third fourth is =
    subst (λ fs. AreFileDifferences others laters on acc fs differences) fourth (subst (λ d. AreFileDifferences others laters d acc found differences) third
    (subst (λ rs. AreFileDifferences others rs day acc found differences) second (subst (λ rs. AreFileDifferences rs later day acc found differences) first is)))

-- ---- the register

-- an accession of the register has an image, and its deed is that of the image
pub image_of : (found : Option ImageRow) (accession : Accession) → option_map accession_of found ≡ Some accession → (image : ImageRow) × (found ≡ Some image) × (image.deed ≡ accession.deed)
image_of None accession is = absurd cc
image_of (Some image) accession is = let same : accession_of image ≡ accession = cc in (image, refl, ap (λ (one : Accession). one.deed) same)

all_registered_of : (desk : Desk) (es : List (ℕ × ImageRow)) → ((e : ℕ × ImageRow) → Has es e → get desk.images e.0 ≡ Some e.1) → All (λ entry. IsRegistered desk entry.0 entry.1) (map registered es)
all_registered_of desk [] each = All-nil (λ (entry : ℕ × Accession). IsRegistered desk entry.0 entry.1)
all_registered_of desk (e ∷ es) each =
    All-cons (λ (entry : ℕ × Accession). IsRegistered desk entry.0 entry.1) (registered e) (map registered es) (ap (option_map accession_of) (each e (inl refl)))
    (all_registered_of desk es (λ f there. each f (inr there)))

-- each accession of the register stands
pub all_registered : (desk : Desk) → All (λ entry. IsRegistered desk entry.0 entry.1) (map registered (entries desk.images))
all_registered desk = all_registered_of desk (entries desk.images) (λ e there. entry_got nat_cmp number_order desk.images e.0 e.1 there)

-- its numbers are those of the images
pub numbers_registered : (es : List (ℕ × ImageRow)) → map (λ (entry : ℕ × Accession). entry.0) (map registered es) ≡ map (λ (e : ℕ × ImageRow). e.0) es
numbers_registered [] = refl
numbers_registered (e ∷ es) = ap (λ more. e.0 ∷ more) (numbers_registered es)

-- a fact on what an option refers to
pub placed_if : {A : Type 0} (found : Option A) (rule_in : A → Rule) (place : Place) → IfSome found (λ one. place_of (rule_in one) ≡ place) → IfSome (option_map rule_in found) (λ rule. place_of rule ≡ place)
placed_if None rule_in place is = tt
placed_if (Some one) rule_in place is = is

-- ---- the answers

-- a rehearsal is accepted where what its place belongs to stands
pub rule_accepted : (d : Desk) (on : ℤ) (rule : Rule) → Stands d rule.band rule.scope → ForEachCaller d Staff (RehearseRule on rule) (λ request. IsAccepted d request None)
rule_accepted d on rule stands badge known =
    command_accepted d (record { badge = badge; what = RehearseRule on rule }) tt (λ e. cc) known (has_accession d rule.scope rule.band stands) (has_deed d rule.scope rule.band stands) (λ h. h) (λ h. h) (λ h. h)

pub drop_accepted : (d : Desk) (on : ℤ) (band : Band) (scope rank : ℕ) → Stands d band scope → ForEachCaller d Staff (RehearseDrop on band scope rank) (λ request. IsAccepted d request None)
drop_accepted d on band scope rank stands badge known =
    command_accepted d (record { badge = badge; what = RehearseDrop on band scope rank }) tt (λ e. cc) known (has_accession d scope band stands) (has_deed d scope band stands) (λ h. h) (λ h. h) (λ h. h)

-- ---- one accession of the register more

pub registered_still : (d e : Desk) (xs : List (ℕ × Accession)) (k : ℕ) (at : ℕ × Accession) → e ≡ d → All (λ entry. IsRegistered d entry.0 entry.1) xs → k < length xs → IsRegistered e (get_or xs k at).0 (get_or xs k at).1
registered_still d e xs k at same all below = subst (λ (f : Desk). IsRegistered f (get_or xs k at).0 (get_or xs k at).1) (sym same) (all k at below)

pub register_more : (d e : Desk) (place : Place) (rule : Option Rule) (day : ℤ) (xs : List (ℕ × Accession)) (k : ℕ) (at : ℕ × Accession) (old new : List Difference)
    → AddsDifferencesAt e (desk_changed place rule e) day (get_or xs k at).0 old new → e ≡ d → k < length xs
    → AreDifferencesOf d (desk_changed place rule d) day (map (λ (entry : ℕ × Accession). entry.0) (take k xs)) old
    → AreDifferencesOf d (desk_changed place rule d) day (map (λ (entry : ℕ × Accession). entry.0) (take (k + 1) xs)) new
register_more d e place rule day xs k at old new adds same below before =
    let after = desk_changed place rule d in
    let here = subst (λ (f : Desk). AddsDifferencesAt f (desk_changed place rule f) day (get_or xs k at).0 old new) same adds in
    let more = differences_more d after day (map (λ (entry : ℕ × Accession). entry.0) (take k xs)) old (get_or xs k at).0 here.0 before here.1 in
    subst (AreDifferencesOf d after day (map (λ (entry : ℕ × Accession). entry.0) (take (k + 1) xs))) (sym here.2)
    (subst (λ accs. AreDifferencesOf d after day accs (old ++ here.0)) (mapped_at (λ (entry : ℕ × Accession). entry.0) xs k at below) more)
