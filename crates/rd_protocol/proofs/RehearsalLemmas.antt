-- A rehearsal keeps its word.
use Rattle.std.proofs.Common.{◌≡◌, ◌≢◌, ◌∙◌, ◌<◌, ◌++◌, inl, inr, ℕ, zero, suc, ℤ, List, [], ◌∷◌, All, Bool, true, false, cond, Contains, Some, ap, arith, map, refl, subst, sym}
use Rattle.std.specs.FinMap.{get, keys}
use Rattle.std.specs.List.{AllZip}
use Rattle.std.proofs.lemmas.List.Elements.{All-head, All-tail, Contains-append_cases, Contains-append_left, Contains-append_right}
use Rattle.rd_policy.specs.Verdicts.{IsVerdict}
use Rattle.rd_policy.specs.declared.audience.Audience.{Audience}
use Rattle.rd_policy.specs.declared.audience.Audience.TheVariants.{Public, Room, Staff}
use Rattle.rd_policy.specs.declared.rule.Effect.{Effect}
use Rattle.rd_policy.specs.declared.rule.Effect.TheVariants.{Deny, List as Listed, Read}
use Rattle.rd_policy.specs.declared.rule.Rule.{Rule}
use Rattle.rd_policy.specs.declared.verdict.Verdict.{Verdict}
use Rattle.rd_policy.proofs.OrderLemmas.{one_verdict}
use Rattle.rd_volume.specs.Volumes.{AreFounds, IsFound}
use Rattle.rd_volume.specs.declared.found.Found.{Found}
use Rattle.rd_volume.proofs.OneFound.{one_found}
use Rattle.rd_volume.proofs.OneSurvey.{one_survey}
use Rattle.rd_holdings.specs.State.{Desk, rules_for}
use Rattle.rd_protocol.specs.RehearsalLaws.{IsDifference, RehearsalsAreExact}
use Rattle.rd_protocol.specs.Rehearsals.{IsRehearsal, same_effect, difference_for, differences_at, differences_between, differences_of}
use Rattle.rd_protocol.specs.Verdicts.{AreVerdicts, IsDecided, IsVerdictsOf, verdict_for}
use Rattle.rd_protocol.specs.declared.response.FileVerdicts.{FileVerdicts}
use Rattle.rd_protocol.specs.declared.response.Difference.{Difference}
use Rattle.rd_protocol.specs.declared.response.Verdicts.{Verdicts}
use Rattle.rd_holdings.specs.declared.rows.ImageRow.{ImageRow}
use Rattle.rd_protocol.proofs.Numbers.{among_keys}
use Rattle.rd_holdings.proofs.RulesFor.{for_in_order}
use Rattle.rd_protocol.proofs.ListedFiles.{among_founds}

-- ---- one file and one audience

of_cond : (b : Bool) (it difference : Difference) → Contains (cond b [] (it ∷ [])) difference → (b ≡ false) × (difference ≡ it)
of_cond true it difference (k, within, is) = absurd (let low : k < 0 = within in omega (arith, low))
of_cond false it difference (zero, within, is) = (refl, sym is)
of_cond false it difference (suc k, within, is) = absurd (let low : suc k < 1 = within in omega (arith, low))

in_cond : (b : Bool) (it : Difference) → b ≡ false → Contains (cond b [] (it ∷ [])) it
in_cond true it is = absurd cc
in_cond false it is = (0, omega arith, refl)

differ : (one other : Effect) → same_effect one other ≡ false → one ≢ other
differ Deny Deny is = absurd cc
differ Listed Listed is = absurd cc
differ Read Read is = absurd cc
differ one other is = λ same. cc

apart : (one other : Effect) → one ≢ other → same_effect one other ≡ false
apart Deny Deny not_same = absurd (not_same refl)
apart Listed Listed not_same = absurd (not_same refl)
apart Read Read not_same = absurd (not_same refl)
apart one other not_same = refl

-- the line for an audience
abbrev line : ℕ → FileVerdicts → FileVerdicts → Audience → Difference
line acc now later audience =
    record { accession = acc; slot = now.file.slot; name = now.file.name; audience = audience; before = verdict_for audience now; after = verdict_for audience later }

abbrev Differ : FileVerdicts → FileVerdicts → Audience → Type 0
Differ now later audience = (verdict_for audience now).effect ≢ (verdict_for audience later).effect

module _ (acc : ℕ) (now later : FileVerdicts) where
  abbrev Among : Difference → Type 0
  Among difference = (audience : Audience) × (difference ≡ line acc now later audience) × Differ now later audience

  of_one : (audience : Audience) (difference : Difference) → Contains (difference_for acc now later audience) difference → Among difference
  of_one audience difference there =
      let it = of_cond (same_effect (verdict_for audience now).effect (verdict_for audience later).effect) (line acc now later audience) difference there in
      (audience, it.1, differ (verdict_for audience now).effect (verdict_for audience later).effect it.0)

  in_one : (audience : Audience) → Differ now later audience → Contains (difference_for acc now later audience) (line acc now later audience)
  in_one audience other = in_cond (same_effect (verdict_for audience now).effect (verdict_for audience later).effect) (line acc now later audience)
      (apart (verdict_for audience now).effect (verdict_for audience later).effect other)

  abbrev first_two : List Difference
  first_two = difference_for acc now later Public ++ difference_for acc now later Room

  of_file : (difference : Difference) → Contains (differences_of acc now later) difference → Among difference
  of_file difference there = elim (Contains-append_cases first_two (difference_for acc now later Staff) difference there) [
    | inl two ↦ elim (Contains-append_cases (difference_for acc now later Public) (difference_for acc now later Room) difference two) [
      | inl one ↦ of_one Public difference one
      | inr one ↦ of_one Room difference one
    ]
    | inr one ↦ of_one Staff difference one
  ]

  in_file : (audience : Audience) → Differ now later audience → Contains (differences_of acc now later) (line acc now later audience)
  in_file Public other = Contains-append_left first_two (difference_for acc now later Staff) _ (Contains-append_left (difference_for acc now later Public) (difference_for acc now later Room) _ (in_one Public other))
  in_file Room other = Contains-append_left first_two (difference_for acc now later Staff) _ (Contains-append_right (difference_for acc now later Public) (difference_for acc now later Room) _ (in_one Room other))
  in_file Staff other = Contains-append_right first_two (difference_for acc now later Staff) _ (in_one Staff other)

-- ---- the files of an accession

-- A line of a file, with what both lists of rules say of it.
record IsOfFile (acc : ℕ) (IsItsFile : Found → Type 0) (rules others : List Rule) (day : ℤ) (difference : Difference) : Type 0 where
  file : Found
  described : IsItsFile file
  accession : difference.accession ≡ acc
  slot : difference.slot ≡ file.slot
  name : difference.name ≡ file.name
  here : IsVerdict (Contains rules) difference.audience day file difference.before
  there : IsVerdict (Contains others) difference.audience day file difference.after
  other : difference.before.effect ≢ difference.after.effect

module _ (acc : ℕ) (IsItsFile : Found → Type 0) (rules others : List Rule) (day : ℤ) where
  of_files : (files laters : List FileVerdicts) (difference : Difference) → map (λ file. file.file) files ≡ map (λ file. file.file) laters → All IsItsFile (map (λ file. file.file) files)
      → All (IsDecided rules day) files → All (IsDecided others day) laters → Contains (differences_at acc files laters) difference → IsOfFile acc IsItsFile rules others day difference
  of_files [] [] difference same described first second (k, within, is) = absurd (let low : k < 0 = within in omega (arith, low))
  of_files [] (later ∷ laters) difference same described first second there = absurd cc
  of_files (now ∷ files) [] difference same described first second there = absurd cc
  of_files (now ∷ files) (later ∷ laters) difference same described first second there =
      elim (Contains-append_cases (differences_of acc now later) (differences_at acc files laters) difference there) [
        | inl one ↦ here_at (of_file acc now later difference one)
        | inr more ↦ of_files files laters difference rest (All-tail IsItsFile now.file (map (λ file. file.file) files) described) (All-tail (IsDecided rules day) now files first) (All-tail (IsDecided others day) later laters second) more
      ]
    where
      rest : map (λ (file : FileVerdicts). file.file) files ≡ map (λ (file : FileVerdicts). file.file) laters
      rest = cc

      file_is : later.file ≡ now.file
      file_is = cc

      here_at : Among acc now later difference → IsOfFile acc IsItsFile rules others day difference
      here_at (audience, is, other) = subst (IsOfFile acc IsItsFile rules others day) (sym is) (record {
        file = now.file;
        described = All-head IsItsFile now.file (map (λ file. file.file) files) described;
        accession = refl;
        slot = refl;
        name = refl;
        here = All-head (IsDecided rules day) now files first audience;
        there = subst (λ f. IsVerdict (Contains others) audience day f (verdict_for audience later)) file_is (All-head (IsDecided others day) later laters second audience);
        other = other;
      })

  in_files : (files laters : List FileVerdicts) (file : Found) (audience : Audience) → map (λ file. file.file) files ≡ map (λ file. file.file) laters
      → All (IsDecided rules day) files → All (IsDecided others day) laters → Contains (map (λ file. file.file) files) file
      → ((now later : FileVerdicts) → now.file ≡ file → later.file ≡ file → IsDecided rules day now → IsDecided others day later → Differ now later audience)
      → (now later : FileVerdicts) × (now.file ≡ file) × (later.file ≡ file) × IsDecided rules day now × IsDecided others day later × Contains (differences_at acc files laters) (line acc now later audience)
  in_files [] laters file audience same first second (k, within, is) differ = absurd (let low : k < 0 = within in omega (arith, low))
  in_files (now ∷ files) [] file audience same first second there differ = absurd cc
  in_files (now ∷ files) (later ∷ laters) file audience same first second (zero, within, is) differ =
      let file_is : later.file ≡ now.file = cc in
      let here = All-head (IsDecided rules day) now files first in
      let there = All-head (IsDecided others day) later laters second in (
        now,
        later,
        is,
        file_is ∙ is,
        here,
        there,
        Contains-append_left (differences_of acc now later) (differences_at acc files laters) (line acc now later audience)
            (in_file acc now later audience (differ now later is (file_is ∙ is) here there)),
      )
  in_files (now ∷ files) (later ∷ laters) file audience same first second (suc k, within, is) differ =
      let rest : map (λ (file : FileVerdicts). file.file) files ≡ map (λ (file : FileVerdicts). file.file) laters = cc in
      let it = in_files files laters file audience rest (All-tail (IsDecided rules day) now files first) (All-tail (IsDecided others day) later laters second) (k, omega (arith, within), is) differ in
      (it.0, it.1, it.2, it.3, it.4, it.5, Contains-append_right (differences_of acc now later) (differences_at acc files laters) (line acc it.0 it.1 audience) it.6)

-- ---- all accessions

module _ (desk after : Desk) (day : ℤ) (same : after.images ≡ desk.images) where
  image_is : (acc : ℕ) (one other : ImageRow) → get desk.images acc ≡ Some one → get after.images acc ≡ Some other → other ≡ one
  image_is acc one other here there = let moved : get desk.images acc ≡ Some other = subst (λ images. get images acc ≡ Some other) same there in cc

  module _ (acc : ℕ) (now later : Verdicts) (here : IsVerdictsOf desk day acc now) (there : IsVerdictsOf after day acc later) where
    founds_there : AreFounds here.image.kind here.image.bytes (map (λ file. file.file) later.files)
    founds_there = subst (λ (row : ImageRow). AreFounds row.kind row.bytes (map (λ file. file.file) later.files)) (image_is acc here.image there.image here.standing there.standing) there.files.all

    same_files : map (λ (file : FileVerdicts). file.file) now.files ≡ map (λ (file : FileVerdicts). file.file) later.files
    same_files = one_survey here.image.kind here.image.bytes (map (λ file. file.file) now.files) (map (λ file. file.file) later.files) here.files.all founds_there

    of_accession : (difference : Difference) → Contains (differences_at now.accession now.files later.files) difference → IsDifference desk after day difference
    of_accession difference inside =
        let it = of_files now.accession (IsFound here.image.kind here.image.bytes) (rules_for desk acc) (rules_for after acc) day now.files later.files difference same_files here.files.all.each
        here.files.decided there.files.decided inside in
        let number : acc ≡ difference.accession = sym (it.accession ∙ here.accession) in
        record {
          image = here.image;
          file = it.file;
          standing = subst (λ n. get desk.images n ≡ Some here.image) number here.standing;
          found = it.described;
          slot = it.slot;
          name = it.name;
          here = subst (λ n. IsVerdict (Contains (rules_for desk n)) difference.audience day it.file difference.before) number it.here;
          there = subst (λ n. IsVerdict (Contains (rules_for after n)) difference.audience day it.file difference.after) number it.there;
          other = it.other;
        }

    in_accession : (difference : Difference) → difference.accession ≡ acc → IsDifference desk after day difference → Contains (differences_at now.accession now.files later.files) difference
    in_accession difference number is =
        let image : is.image ≡ here.image = let mine = subst (λ n. get desk.images n ≡ Some is.image) number is.standing in let theirs = here.standing in cc in
        let described : IsFound here.image.kind here.image.bytes is.file = subst (λ (row : ImageRow). IsFound row.kind row.bytes is.file) image is.found in
        let before : (one : FileVerdicts) → one.file ≡ is.file → IsDecided (rules_for desk acc) day one → verdict_for difference.audience one ≡ difference.before =
        λ one file decided. one_verdict (rules_for desk acc) difference.audience day is.file (verdict_for difference.audience one) difference.before (for_in_order desk acc)
        (subst (λ f. IsVerdict (Contains (rules_for desk acc)) difference.audience day f (verdict_for difference.audience one)) file (decided difference.audience))
        (subst (λ n. IsVerdict (Contains (rules_for desk n)) difference.audience day is.file difference.before) number is.here) in
        let later_on : (one : FileVerdicts) → one.file ≡ is.file → IsDecided (rules_for after acc) day one → verdict_for difference.audience one ≡ difference.after =
        λ one file decided. one_verdict (rules_for after acc) difference.audience day is.file (verdict_for difference.audience one) difference.after (for_in_order after acc)
        (subst (λ f. IsVerdict (Contains (rules_for after acc)) difference.audience day f (verdict_for difference.audience one)) file (decided difference.audience))
        (subst (λ n. IsVerdict (Contains (rules_for after n)) difference.audience day is.file difference.after) number is.there) in
        let it = in_files now.accession (IsFound here.image.kind here.image.bytes) (rules_for desk acc) (rules_for after acc) day now.files later.files is.file difference.audience same_files
        here.files.decided there.files.decided (among_founds here.image.kind here.image.bytes (map (λ file. file.file) now.files) is.file here.files.all described)
        (λ one two first second mine theirs equal. is.other (ap (λ (v : Verdict). v.effect) (sym (before one first mine)) ∙ equal ∙ ap (λ (v : Verdict). v.effect) (later_on two second theirs))) in
        let number_is : now.accession ≡ difference.accession = here.accession ∙ sym number in
        let slot_is : it.0.file.slot ≡ difference.slot = ap (λ (f : Found). f.slot) it.2 ∙ sym is.slot in
        let name_is : it.0.file.name ≡ difference.name = ap (λ (f : Found). f.name) it.2 ∙ sym is.name in
        let before_is : verdict_for difference.audience it.0 ≡ difference.before = before it.0 it.2 it.4 in
        let after_is : verdict_for difference.audience it.1 ≡ difference.after = later_on it.1 it.3 it.5 in
        let line_is : line now.accession it.0 it.1 difference.audience ≡ difference =
        λ i. record { accession = number_is i; slot = slot_is i; name = name_is i; audience = difference.audience; before = before_is i; after = after_is i } in
        subst (Contains (differences_at now.accession now.files later.files)) line_is it.6

  of_each : (accs : List ℕ) (all others : List Verdicts) (difference : Difference) → AllZip (IsVerdictsOf desk day) accs all → AllZip (IsVerdictsOf after day) accs others
      → Contains (differences_between all others) difference → IsDifference desk after day difference
  of_each [] [] [] difference first second (k, within, is) = absurd (let low : k < 0 = within in omega (arith, low))
  of_each [] [] (other ∷ others) difference first second there = absurd second
  of_each [] (one ∷ all) others difference first second there = absurd first
  of_each (acc ∷ accs) [] others difference first second there = absurd first
  of_each (acc ∷ accs) (one ∷ all) [] difference first second there = absurd second
  of_each (acc ∷ accs) (one ∷ all) (other ∷ others) difference first second there =
      elim (Contains-append_cases (differences_at one.accession one.files other.files) (differences_between all others) difference there) [
        | inl here ↦ of_accession acc one other first.0 second.0 difference here
        | inr more ↦ of_each accs all others difference first.1 second.1 more
      ]

  in_each : (accs : List ℕ) (all others : List Verdicts) (difference : Difference) → AllZip (IsVerdictsOf desk day) accs all → AllZip (IsVerdictsOf after day) accs others
      → Contains accs difference.accession → IsDifference desk after day difference → Contains (differences_between all others) difference
  in_each [] all others difference first second (k, within, at) is = absurd (let low : k < 0 = within in omega (arith, low))
  in_each (acc ∷ accs) [] others difference first second there is = absurd first
  in_each (acc ∷ accs) (one ∷ all) [] difference first second there is = absurd second
  in_each (acc ∷ accs) (one ∷ all) (other ∷ others) difference first second (zero, within, at) is =
      Contains-append_left (differences_at one.accession one.files other.files) (differences_between all others) difference (in_accession acc one other first.0 second.0 difference (sym at) is)
  in_each (acc ∷ accs) (one ∷ all) (other ∷ others) difference first second (suc k, within, at) is =
      Contains-append_right (differences_at one.accession one.files other.files) (differences_between all others) difference (in_each accs all others difference first.1 second.1 (k, omega (arith, within), at) is)

-- the lines are the files and audiences whose effects differ
pub is_exact : RehearsalsAreExact
is_exact desk after day differences same is difference =
    let there : AllZip (IsVerdictsOf after day) (keys desk.images) is.others = subst (λ images. AllZip (IsVerdictsOf after day) (keys images) is.others) same is.there in (
      λ inside. of_each desk after day same (keys desk.images) is.verdicts is.others difference is.here there (subst (λ l. Contains l difference) is.are inside),
      λ turned. subst (λ l. Contains l difference) (sym is.are) (in_each desk after day same (keys desk.images) is.verdicts is.others difference is.here there
          (among_keys desk.images difference.accession turned.image turned.standing) turned),
    )
