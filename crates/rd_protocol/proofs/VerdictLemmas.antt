-- The verdicts of a day are one list, and there is one; so is a rehearsal.
use Rattle.std.proofs.Common.{◌≡◌, ◌∙◌, ℕ, ℤ, List, [], ◌∷◌, All, Contains, Some, ap, ap₂, map, refl, subst, sym}
use Rattle.std.specs.FinMap.{entries, entries_sorted, get, get-entries, keys}
use Rattle.std.specs.List.{AllZip}
use Rattle.std.proofs.lemmas.List.Elements.{All-cons, All-head, All-nil, All-tail}
use Rattle.rd_policy.specs.Verdicts.{AreInOrder, IsVerdict}
use Rattle.rd_policy.specs.declared.audience.Audience.{Audience}
use Rattle.rd_policy.specs.declared.audience.Audience.TheVariants.{Public, Room, Staff}
use Rattle.rd_policy.specs.declared.rule.Rule.{Rule}
use Rattle.rd_policy.specs.declared.verdict.Verdict.{Verdict}
use Rattle.rd_policy.proofs.Existence.{verdict_on}
use Rattle.rd_policy.proofs.OrderLemmas.{one_verdict}
use Rattle.rd_volume.specs.Volumes.{AreFounds}
use Rattle.rd_volume.specs.declared.found.Found.{Found}
use Rattle.rd_volume.proofs.Existence.{survey_of}
use Rattle.rd_volume.proofs.OneSurvey.{one_survey}
use Rattle.rd_holdings.specs.State.{Desk, rules_for}
use Rattle.rd_protocol.specs.Laws.{HoldsBytes}
use Rattle.rd_protocol.specs.Rehearsals.{IsRehearsal, differences_between}
use Rattle.rd_protocol.specs.Verdicts.{AreVerdicts, AreVerdictsOf, IsDecided, IsVerdictsOf, verdict_for}
use Rattle.rd_protocol.specs.declared.response.FileVerdicts.{FileVerdicts}
use Rattle.rd_protocol.specs.declared.response.Difference.{Difference}
use Rattle.rd_protocol.specs.declared.response.Verdicts.{Verdicts}
use Rattle.rd_holdings.specs.declared.rows.ImageRow.{ImageRow}
use Rattle.rd_protocol.proofs.Numbers.{each_found}
use Rattle.rd_holdings.proofs.RulesFor.{for_in_order}

-- ---- one list

module _ (rules : List Rule) (day : ℤ) (order : AreInOrder rules) where
  one_file : (one other : FileVerdicts) → one.file ≡ other.file → IsDecided rules day one → IsDecided rules day other → one ≡ other
  one_file one other file first second =
      let same : (audience : Audience) → verdict_for audience one ≡ verdict_for audience other =
      λ audience. one_verdict rules audience day one.file (verdict_for audience one) (verdict_for audience other) order (first audience)
      (subst (λ f. IsVerdict (Contains rules) audience day f (verdict_for audience other)) (sym file) (second audience)) in
      λ i. record { file = file i; public = same Public i; room = same Room i; staff = same Staff i }

  one_files : (files others : List FileVerdicts) → map (λ file. file.file) files ≡ map (λ file. file.file) others → All (IsDecided rules day) files → All (IsDecided rules day) others → files ≡ others
  one_files [] [] same first second = refl
  one_files [] (other ∷ others) same first second = absurd cc
  one_files (one ∷ files) [] same first second = absurd cc
  one_files (one ∷ files) (other ∷ others) same first second =
      let here : one.file ≡ other.file = cc in
      let rest : map (λ (file : FileVerdicts). file.file) files ≡ map (λ (file : FileVerdicts). file.file) others = cc in
      ap₂ (λ x xs. x ∷ xs) (one_file one other here (All-head (IsDecided rules day) one files first) (All-head (IsDecided rules day) other others second))
      (one_files files others rest (All-tail (IsDecided rules day) one files first) (All-tail (IsDecided rules day) other others second))

module _ (desk : Desk) (day : ℤ) where
  pub one_of : (acc : ℕ) (one other : Verdicts) → IsVerdictsOf desk day acc one → IsVerdictsOf desk day acc other → one ≡ other
  one_of acc one other first second =
      let image : first.image ≡ second.image = let here = first.standing in let there = second.standing in cc in
      let accession = first.accession ∙ sym second.accession in
      let deed = first.deed ∙ ap (λ (row : ImageRow). row.deed) image ∙ sym second.deed in
      let kind = first.kind ∙ ap (λ (row : ImageRow). row.kind) image ∙ sym second.kind in
      let all = one_survey first.image.kind first.image.bytes (map (λ file. file.file) one.files) (map (λ file. file.file) other.files) first.files.all
      (subst (λ (row : ImageRow). AreFounds row.kind row.bytes (map (λ file. file.file) other.files)) (sym image) second.files.all) in
      let files = one_files (rules_for desk acc) day (for_in_order desk acc) one.files other.files all first.files.decided second.files.decided in
      λ i. record { accession = accession i; deed = deed i; kind = kind i; files = files i }

  pub one_each : (accs : List ℕ) (all others : List Verdicts) → AreVerdictsOf desk day accs all → AreVerdictsOf desk day accs others → all ≡ others
  one_each [] [] [] first second = refl
  one_each [] [] (other ∷ others) first second = absurd second
  one_each [] (one ∷ all) others first second = absurd first
  one_each (acc ∷ accs) [] others first second = absurd first
  one_each (acc ∷ accs) (one ∷ all) [] first second = absurd second
  one_each (acc ∷ accs) (one ∷ all) (other ∷ others) first second = ap₂ (λ x xs. x ∷ xs) (one_of acc one other first.0 second.0) (one_each accs all others first.1 second.1)

  -- the verdicts of a day are one list
  pub one_verdicts : (all others : List Verdicts) → AreVerdicts desk day all → AreVerdicts desk day others → all ≡ others
  one_verdicts all others first second = one_each (keys desk.images) all others first second

-- a rehearsal is one list
pub one_rehearsal : (desk after : Desk) (day : ℤ) (one other : List Difference) → IsRehearsal desk after day one → IsRehearsal desk after day other → one ≡ other
one_rehearsal desk after day one other first second =
    first.are ∙ ap₂ differences_between (one_verdicts desk day first.verdicts second.verdicts first.here second.here) (one_verdicts after day first.others second.others first.there second.there) ∙ sym second.are

-- ---- there is one

-- rules in order give each of some files its verdicts
module _ (rules : List Rule) (day : ℤ) (order : AreInOrder rules) where
  pub files_said : (files : List Found) → (lines : List FileVerdicts) × (map (λ file. file.file) lines ≡ files) × All (IsDecided rules day) lines
  files_said [] = ([], refl, All-nil (IsDecided rules day))
  files_said (file ∷ files) =
      let rest = files_said files in
      let said : (audience : Audience) → (verdict : Verdict) × IsVerdict (Contains rules) audience day file verdict =
      λ audience. verdict_on rules audience day file order in
      let line : FileVerdicts = record { file = file; public = (said Public).0; room = (said Room).0; staff = (said Staff).0 } in
      let decided : IsDecided rules day line = elim [ Public ↦ (said Public).1 | Room ↦ (said Room).1 | Staff ↦ (said Staff).1 ] in
      (line ∷ rest.0, ap (λ more. file ∷ more) rest.1, All-cons (IsDecided rules day) line rest.0 decided rest.2)

module _ (desk : Desk) (day : ℤ) (bytes : HoldsBytes desk) where
  pub said_at : (acc : ℕ) (image : ImageRow) → get desk.images acc ≡ Some image → (one : Verdicts) × IsVerdictsOf desk day acc one
  said_at acc image stands =
      let files = survey_of image.kind image.bytes (bytes acc image stands) in
      let lines = files_said (rules_for desk acc) day (for_in_order desk acc) files.0 in (
        record { accession = acc; deed = image.deed; kind = image.kind; files = lines.0 },
        record {
          image = image;
          standing = stands;
          accession = refl;
          deed = refl;
          kind = refl;
          files = record { all = subst (AreFounds image.kind image.bytes) (sym lines.1) files.1; decided = lines.2 };
        },
      )

  abbrev Stand : ℕ × ImageRow → Type 0
  Stand e = get desk.images e.0 ≡ Some e.1

  said_of : (es : List (ℕ × ImageRow)) → All Stand es → (all : List Verdicts) × AllZip (IsVerdictsOf desk day) (map (λ e. e.0) es) all
  said_of [] stand = ([], tt)
  said_of (e ∷ es) stand =
      let one = said_at e.0 e.1 (All-head Stand e es stand) in
      let rest = said_of es (All-tail Stand e es stand) in
      (one.0 ∷ rest.0, (one.1, rest.1))

  all_stand : All Stand (entries desk.images)
  all_stand k d inside = get-entries desk.images _ ∙ each_found (entries desk.images) (entries_sorted desk.images) k d inside

  pub verdicts_said : (all : List Verdicts) × AreVerdicts desk day all
  verdicts_said = said_of (entries desk.images) all_stand

pub rehearsal_said : (desk after : Desk) (day : ℤ) → HoldsBytes desk → HoldsBytes after → (differences : List Difference) × IsRehearsal desk after day differences
rehearsal_said desk after day bytes later =
    let here = verdicts_said desk day bytes in
    let there = verdicts_said after day later in
    (differences_between here.0 there.0, record { verdicts = here.0; others = there.0; here = here.1; there = there.1; are = refl })
