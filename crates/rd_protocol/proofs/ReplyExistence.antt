-- Each request has a reply: the file that it asks for, the first reason to refuse it or none, and what is said to it.
use Rattle.std.proofs.Common.{◌≡◌, ◌≢◌, ◌⊎◌, inl, inr, ◌∙◌, ℕ, ℤ, List, [], ◌∷◌, All, Bool, true, false, Contains, IsSomeAnd, Option, Some, None, ap, length, map, refl, subst, sym}
use Rattle.std.specs.FinMap.{entries, entries_sorted, get, get-entries}
use Rattle.std.specs.List.{AllZip}
use Rattle.std.proofs.lemmas.Bool.{cases_eq}
use Rattle.std.proofs.lemmas.List.Elements.{All-head, All-tail}
use Rattle.sha2.specs.Sha256.{sha256}
use Rattle.rd_geometry.specs.Kinds.{size_of}
use Rattle.rd_geometry.specs.declared.kind.Kind.{Kind}
use Rattle.rd_geometry.specs.declared.kind.Kind.TheVariants.{Cpm8, D64, D64e}
use Rattle.rd_geometry.proofs.Decidability.{Decided, decided_as, decided_both, decided_not, decided_same, decided_text, fails, holds, some_member}
use Rattle.rd_policy.specs.Verdicts.{AreInOrder, IsVerdict}
use Rattle.rd_policy.specs.declared.audience.Audience.{Audience}
use Rattle.rd_policy.specs.declared.audience.Audience.TheVariants.{Staff}
use Rattle.rd_policy.specs.declared.rule.Effect.{Effect}
use Rattle.rd_policy.specs.declared.rule.Effect.TheVariants.{Read}
use Rattle.rd_policy.specs.declared.rule.Rule.{Rule}
use Rattle.rd_policy.specs.declared.verdict.Label.{Label}
use Rattle.rd_policy.specs.declared.verdict.Verdict.{Verdict}
use Rattle.rd_policy.proofs.Existence.{date_of, verdict_on}
use Rattle.rd_volume.specs.Founds.{IsSoundFile}
use Rattle.rd_volume.specs.Volumes.{AreBytesOf, IsFound, IsSlotOfFile}
use Rattle.rd_volume.specs.declared.found.Found.{Found}
use Rattle.rd_volume.proofs.Existence.{decided_slot, file_at, report_of, survey_of}
use Rattle.rd_volume.proofs.FoundFile.{told_bytes as told_file_bytes, described_slot}
use Rattle.rd_holdings.specs.Lawful.{IsLawful}
use Rattle.rd_holdings.specs.State.{Desk, HasOtherImage, HasOtherStaff, IsLastStaff, IsSameImage, rules_for}
use Rattle.rd_holdings.specs.declared.rows.DeedRow.{DeedRow}
use Rattle.rd_holdings.specs.declared.rows.ImageRow.{ImageRow}
use Rattle.rd_holdings.proofs.RulesFor.{for_in_order, key_listed, key_stands}
use Rattle.rd_protocol.specs.Checks.{outcome_of}
use Rattle.rd_protocol.specs.Judged.{Conflicts, Holds, IsAccepted, IsAsked, IsJudgedFile, IsRefused, JudgedFile, PassesTo, accession_of, audience_of, deed_of, file_of, image_of}
use Rattle.rd_protocol.specs.Laws.{EachReply, HoldsBytes}
use Rattle.rd_protocol.specs.Lent.{Lent, bytes_lent}
use Rattle.rd_protocol.specs.Queries.{AreLinesOf, AreLinesOfEach, IsCounted}
use Rattle.rd_protocol.specs.Refusals.{number_of}
use Rattle.rd_protocol.specs.Replies.{AreImageLines, AreLines, AreListings, IsAnswered, IsListing, IsReply, IsSurvey, Tells, carried_out}
use Rattle.rd_protocol.specs.Requests.{IsForStaff}
use Rattle.rd_protocol.specs.StaffLists.{check_lines, deed_lines, key_lines, takedown_lines}
use Rattle.rd_protocol.specs.Texts.{reply_of}
use Rattle.rd_protocol.specs.declared.refusal.Refusal.{Refusal}
use Rattle.rd_protocol.specs.declared.refusal.Refusal.TheVariants.{UnknownKey, StaffOnly, BadBody, NoAccession, NoFile, NoDeed, Denied, ListedOnly, Faulty, WrongSize, DigestDiffers, Conflict}
use Rattle.rd_protocol.specs.declared.request.Request.{Request}
use Rattle.rd_protocol.specs.declared.request.What.{What}
use Rattle.rd_protocol.specs.declared.request.What.TheVariants.{Images, Listing, Bytes, Catalogue, Survey, Check, Deeds, Takedowns, Keys, Checks, Today, Verdicts, VerdictsOf, RehearseRule, RehearseDrop, PutImage, PutRule, DropRule, PutKey, DropKey, Unread}
use Rattle.rd_protocol.specs.declared.response.ImageLine.{ImageLine}
use Rattle.rd_protocol.specs.declared.response.Line.{Line}
use Rattle.rd_protocol.specs.declared.response.Listing.{Listing as Lines}
use Rattle.rd_protocol.specs.declared.response.Reply.{Reply}
use Rattle.rd_protocol.specs.declared.response.Response.{Response}
use Rattle.rd_protocol.specs.declared.response.Response.TheVariants as response
use Rattle.rd_protocol.specs.declared.response.Survey.{Survey as Surveyed}
use Rattle.rd_protocol.proofs.StaffRefusals.{is_for_staff, not_none, is_unread}
use Rattle.rd_protocol.proofs.CatalogueLemmas.{listings_are}
use Rattle.rd_protocol.proofs.Numbers.{each_found}
use Rattle.rd_protocol.proofs.OneAnswer.{named}
use Rattle.rd_protocol.proofs.VerdictLemmas.{rehearsal_said, said_at, verdicts_said}
use Rattle.rd_protocol.proofs.RefusalOrder.{accepted, to_5, to_6, to_7, to_8, to_9, to_10, to_11, to_12, to_13, to_14, to_15, to_16}
use Rattle.rd_protocol.proofs.ListedFiles.{image_lines_are, lines_are}
use Rattle.rd_protocol.proofs.ShownDesks.{denies, done_answered}

-- ---- values

decided_none : {X : Type 0} (found : Option X) → Decided (found ≡ None)
decided_none None = holds refl
decided_none (Some x) = fails (λ is. cc)

decided_some : {X : Type 0} (found : Option X) (P : X → Type 0) → ((x : X) → Decided (P x)) → Decided (IsSomeAnd found P)
decided_some None P test = fails (λ h. h)
decided_some (Some x) P test = test x

decided_unset : (b : Bool) → Decided (b ≡ false)
decided_unset false = holds refl
decided_unset true = fails (λ is. cc)

decided_kind : (one other : Kind) → Decided (one ≡ other)
decided_kind Cpm8 Cpm8 = holds refl
decided_kind D64 D64 = holds refl
decided_kind D64e D64e = holds refl
decided_kind one other = fails (λ is. cc)

decided_read : (effect : Effect) → Decided (effect ≡ Read)
decided_read Read = holds refl
decided_read other = fails (λ is. cc)

decided_staff : (audience : Audience) → Decided (audience ≡ Staff)
decided_staff Staff = holds refl
decided_staff other = fails (λ is. cc)

decided_of_staff : (found : Option Audience) → Decided (found ≡ Some Staff)
decided_of_staff None = fails (λ is. cc)
decided_of_staff (Some audience) = decided_as (decided_staff audience)
    (λ same. ap Some same)
    (λ is. (cc))

some_of : {X : Type 0} (found : Option X) → (found ≡ None → ⊥) → (x : X) × (found ≡ Some x)
some_of None other = absurd (other refl)
some_of (Some x) other = (x, refl)

decided_command : (what : What) → Decided (IsForStaff what)
decided_command what = elim (is_for_staff what) [ inl command ↦ holds command | inr question ↦ fails question ]

decided_unread : (what : What) → Decided (what ≡ Unread)
decided_unread what = elim (is_unread what) [ inl unread ↦ holds unread | inr read ↦ fails read ]

served_or : (b : Bool) → Decided (b ≡ true)
served_or true = holds refl
served_or false = fails (λ is. cc)

not_served : (b : Bool) → (b ≡ true → ⊥) → b ≡ false
not_served true other = absurd (other refl)
not_served false other = refl

-- what holds, where it is not so that it does not
by_decision : {P : Type 0} → Decided P → ((P → ⊥) → ⊥) → P
by_decision (holds p) not_none = p
by_decision (fails none) not_none = absurd (not_none none)

-- ---- the file that is asked for

module _ (desk : Desk) (day : ℤ) (bytes : HoldsBytes desk) (request : Request) where
  abbrev HasAsked : Type 0
  HasAsked = (file : Option JudgedFile) × IsAsked desk day request file

  module _ (at : ℕ × ℕ) (is : file_of request.what ≡ Some at) where
    -- whatever is asked for is at that place
    at_place : (judged : JudgedFile) (asked : IsJudgedFile desk day request judged) → at ≡ (asked.accession, judged.file.slot)
    at_place judged asked = ap named (sym is ∙ asked.asked)

    image_there : (image : ImageRow) → get desk.images at.0 ≡ Some image → (judged : JudgedFile) (asked : IsJudgedFile desk day request judged) → asked.image ≡ image
    image_there image stands judged asked =
        let acc : at.0 ≡ asked.accession = ap (λ (p : ℕ × ℕ). p.0) (at_place judged asked) in
        let standing : get desk.images at.0 ≡ Some asked.image = ap (get desk.images) acc ∙ asked.standing in
        cc (standing, stands)

    by_slot : (audience : Audience) → audience_of desk request.badge ≡ Some audience → (image : ImageRow) → get desk.images at.0 ≡ Some image
        → Decided (IsSlotOfFile image.kind image.bytes at.1) → HasAsked
    by_slot audience known image stands (holds slot) =
        let found = file_at image.kind image.bytes (bytes at.0 image stands) at.1 slot in
        let verdict = verdict_on (rules_for desk at.0) audience day found.0 (for_in_order desk at.0) in (
          Some (record { kind = image.kind; file = found.0; verdict = verdict.0 }),
          record {
            accession = at.0;
            image = image;
            audience = audience;
            asked = is ∙ ap (λ k. Some (at.0, k)) (sym found.2);
            caller = known;
            standing = stands;
            of_kind = refl;
            described = found.1;
            decided = verdict.1;
          },
        )
    by_slot audience known image stands (fails none) = (
      None,
      λ judged asked.
          let same : asked.image ≡ image = image_there image stands judged asked in
          let slot : at.1 ≡ judged.file.slot = ap (λ (p : ℕ × ℕ). p.1) (at_place judged asked) in
          none (subst (λ (row : ImageRow). IsSlotOfFile row.kind row.bytes at.1) same
          (subst (IsSlotOfFile asked.image.kind asked.image.bytes) (sym slot) (described_slot asked.image.kind asked.image.bytes judged.file asked.described))),
    )

    by_image : (audience : Audience) → audience_of desk request.badge ≡ Some audience → (found : Option ImageRow) → get desk.images at.0 ≡ found → HasAsked
    by_image audience known None lacks = (
      None,
      λ judged asked.
          let acc : at.0 ≡ asked.accession = ap (λ (p : ℕ × ℕ). p.0) (at_place judged asked) in
          let wrong : None ≡ Some asked.image = sym lacks ∙ ap (get desk.images) acc ∙ asked.standing in cc,
    )
    by_image audience known (Some image) stands = by_slot audience known image stands (decided_slot image.kind image.bytes at.1)

    by_caller : (found : Option Audience) → audience_of desk request.badge ≡ found → HasAsked
    by_caller None unknown = (None, λ judged asked. let wrong : None ≡ Some asked.audience = sym unknown ∙ asked.caller in cc)
    by_caller (Some audience) known = by_image audience known (get desk.images at.0) refl

  by_place : (found : Option (ℕ × ℕ)) → file_of request.what ≡ found → HasAsked
  by_place None is = (None, λ judged asked. let wrong : None ≡ Some (asked.accession, judged.file.slot) = sym is ∙ asked.asked in cc)
  by_place (Some at) is = by_caller at is (audience_of desk request.badge) refl

  asked_for : HasAsked
  asked_for = by_place (file_of request.what) refl

-- ---- why it is refused

decided_other_staff : (desk : Desk) (digest : List ℕ) → Decided (HasOtherStaff desk digest)
decided_other_staff desk digest =
    decided_as (some_member (λ (key : List ℕ × Audience). (key.0 ≢ digest) × (key.1 ≡ Staff))
    (λ key. decided_both (decided_not (decided_text key.0 digest)) (decided_staff key.1)) (entries desk.keys))
    (λ found. (found.0.0, found.2.0, key_stands desk found.0.0 found.0.1 found.1 ∙ ap Some found.2.1))
    (λ has. ((has.0, Staff), key_listed desk has.0 Staff has.2, (has.1, refl)))

decided_last : (desk : Desk) (digest : List ℕ) → Decided (IsLastStaff desk digest)
decided_last desk digest = decided_both (decided_of_staff (get desk.keys digest)) (decided_not (decided_other_staff desk digest))

decided_same_image : (one other : ImageRow) → Decided (IsSameImage one other)
decided_same_image one other =
    decided_as (decided_both (decided_kind one.kind other.kind) (decided_both (decided_same one.deed other.deed) (decided_text one.digest other.digest)))
    (λ is. (is.0, is.1.0, is.1.1))
    (λ is. (is.0, (is.1, is.2)))

other_image : (desk : Desk) (acc : ℕ) (image : ImageRow) (found : Option ImageRow) → get desk.images acc ≡ found → Decided (HasOtherImage desk acc image)
other_image desk acc image None lacks = fails (λ has. let wrong : None ≡ Some has.0 = sym lacks ∙ has.1 in cc)
other_image desk acc image (Some standing) is =
    decided_as (decided_not (decided_same_image standing image))
    (λ other. (standing, is, other))
    (λ has. let same : has.0 ≡ standing = cc (has.1, is) in subst (λ row. IsSameImage row image → ⊥) same has.2)

decided_conflict : (desk : Desk) (what : What) → Decided (Conflicts desk what)
decided_conflict desk (PutImage acc kind deed digest bytes) =
    other_image desk acc (record { kind = kind; deed = deed; digest = digest; bytes = bytes }) (get desk.images acc) refl
decided_conflict desk (PutKey digest audience) = decided_both (decided_not (decided_staff audience)) (decided_last desk digest)
decided_conflict desk (DropKey digest) = decided_last desk digest
decided_conflict desk other = fails (λ h. h)

module _ (desk : Desk) (request : Request) (file : Option JudgedFile) where
  abbrev Held : Refusal → Type 0
  Held = Holds desk request file

  -- it is refused, or accepted
  abbrev IsJudged : Type 0
  IsJudged = ((refusal : Refusal) × IsRefused desk request file refusal) ⊎ IsAccepted desk request file

  -- the next reason, or those after it
  next_reason : (refusal : Refusal) → PassesTo desk request file (number_of refusal) → Decided (Held refusal) → ((Held refusal → ⊥) → IsJudged) → IsJudged
  next_reason refusal passes (holds h) later = inl (refusal, record { holds = h; lowest = passes })
  next_reason refusal passes (fails none) later = later none

  from_16 : PassesTo desk request file 16 → IsJudged
  from_16 passes = next_reason Conflict passes (decided_conflict desk request.what) (λ none. inr (accepted desk request file passes none))

  from_15 : PassesTo desk request file 15 → IsJudged
  from_15 passes = next_reason DigestDiffers passes
      (decided_some (image_of request.what) (λ image. sha256 image.bytes ≢ image.digest) (λ image. decided_not (decided_text (sha256 image.bytes) image.digest)))
      (λ none. from_16 (to_16 desk request file passes none))

  from_14 : PassesTo desk request file 14 → IsJudged
  from_14 passes = next_reason WrongSize passes
      (decided_some (image_of request.what) (λ image. length image.bytes ≢ size_of image.kind) (λ image. decided_not (decided_same (length image.bytes) (size_of image.kind))))
      (λ none. from_15 (to_15 desk request file passes none))

  -- the faults of the file that is asked for
  faulty_in : (found : Option JudgedFile) → Decided ((kind : Kind) × (faults : ℕ) × Holds desk request found (Faulty kind faults))
  faulty_in None = fails (λ some. some.2)
  faulty_in (Some judged) =
      decided_as (decided_not (decided_same judged.file.faults 0))
      (λ faulty. (judged.kind, judged.file.faults, (faulty, refl, refl)))
      (λ some. some.2.0)

  by_faults : PassesTo desk request file 13 → Decided ((kind : Kind) × (faults : ℕ) × Held (Faulty kind faults)) → IsJudged
  by_faults passes (holds some) = inl (Faulty some.0 some.1, record { holds = some.2; lowest = passes })
  by_faults passes (fails none) = from_14 (to_14 desk request file passes (λ kind faults h. none (kind, faults, h)))

  from_12 : PassesTo desk request file 12 → IsJudged
  from_12 passes = next_reason ListedOnly passes
      (decided_some file (λ judged. judged.file.served_class ≡ false) (λ judged. decided_unset judged.file.served_class))
      (λ none. by_faults (to_13 desk request file passes none) (faulty_in file))

  denied_in : (found : Option JudgedFile) → Decided ((label : Label) × Holds desk request found (Denied label))
  denied_in None = fails (λ some. some.1)
  denied_in (Some judged) =
      decided_as (decided_not (decided_read judged.verdict.effect))
      (λ other. (judged.verdict.label, (other, refl)))
      (λ some. some.1.0)

  by_verdict : PassesTo desk request file 11 → Decided ((label : Label) × Held (Denied label)) → IsJudged
  by_verdict passes (holds some) = inl (Denied some.0, record { holds = some.1; lowest = passes })
  by_verdict passes (fails none) = from_12 (to_12 desk request file passes (λ label h. none (label, h)))

  from_10 : PassesTo desk request file 10 → IsJudged
  from_10 passes = next_reason NoDeed passes
      (decided_some (deed_of request.what) (λ num. get desk.deeds num ≡ None) (λ num. decided_none (get desk.deeds num)))
      (λ none. by_verdict (to_11 desk request file passes none) (denied_in file))

  from_9 : PassesTo desk request file 9 → IsJudged
  from_9 passes = next_reason NoFile passes
      (decided_some (file_of request.what) (λ at. IsSomeAnd (get desk.images at.0) (λ image. IsSlotOfFile image.kind image.bytes at.1 → ⊥))
      (λ at. decided_some (get desk.images at.0) (λ image. IsSlotOfFile image.kind image.bytes at.1 → ⊥) (λ image. decided_not (decided_slot image.kind image.bytes at.1))))
      (λ none. from_10 (to_10 desk request file passes none))

  from_8 : PassesTo desk request file 8 → IsJudged
  from_8 passes = next_reason NoAccession passes
      (decided_some (accession_of request.what) (λ acc. get desk.images acc ≡ None) (λ acc. decided_none (get desk.images acc)))
      (λ none. from_9 (to_9 desk request file passes none))

  from_7 : PassesTo desk request file 7 → IsJudged
  from_7 passes = next_reason BadBody passes (decided_unread request.what) (λ none. from_8 (to_8 desk request file passes none))

  from_6 : PassesTo desk request file 6 → IsJudged
  from_6 passes = next_reason StaffOnly passes
      (decided_both (decided_command request.what) (decided_not (decided_of_staff (audience_of desk request.badge))))
      (λ none. from_7 (to_7 desk request file passes
      (λ command. by_decision (decided_of_staff (audience_of desk request.badge)) (λ other. none (command, other)))))

  judged : IsJudged
  judged = next_reason UnknownKey (to_5 desk request file) (decided_none (audience_of desk request.badge))
      (λ known. let caller = some_of (audience_of desk request.badge) known in from_6 (to_6 desk request file caller.0 caller.1))

-- ---- what is said

module _ (desk : Desk) (bytes : HoldsBytes desk) (audience : Audience) (day : ℤ) where
  line_more : (list : List Rule) (file : Found) (files : List Found) (rest : List Line) (verdict : Verdict) → IsVerdict (Contains list) audience day file verdict
      → AreLinesOf list audience day files rest → (lines : List Line) × AreLinesOf list audience day (file ∷ files) lines
  line_more list file files rest verdict decided are = elim (denies verdict.effect) [
    | inl denied ↦ (rest, (verdict, rest, decided, are, inr (denied, refl)))
    | inr shown ↦ (record { file = file; verdict = verdict } ∷ rest, (verdict, rest, decided, are, inl (shown, refl)))
  ]

  lines_of : (list : List Rule) → AreInOrder list → (files : List Found) → (lines : List Line) × AreLinesOf list audience day files lines
  lines_of list order [] = ([], refl)
  lines_of list order (file ∷ files) =
      let verdict = verdict_on list audience day file order in
      let rest = lines_of list order files in
      line_more list file files rest.0 verdict.0 verdict.1 rest.1

  -- the listed files of an accession
  lines_at : (acc : ℕ) (image : ImageRow) → get desk.images acc ≡ Some image → (lines : List Line) × AreLines image (rules_for desk acc) audience day lines
  lines_at acc image stands =
      let files = survey_of image.kind image.bytes (bytes acc image stands) in
      let order = for_in_order desk acc in
      let lines = lines_of (rules_for desk acc) order files.0 in
      (lines.0, lines_are image (rules_for desk acc) audience day files.0 lines.0 order files.1 lines.1)

  listing_at : (acc : ℕ) (image : ImageRow) → get desk.images acc ≡ Some image → (listing : Lines) × IsListing desk audience day acc listing
  listing_at acc image stands =
      let lines = lines_at acc image stands in (
        record { accession = acc; deed = image.deed; kind = image.kind; files = lines.0 },
        record { image = image; standing = stands; accession = refl; deed = refl; kind = refl; listed = lines.1 },
      )

  abbrev Stand : ℕ × ImageRow → Type 0
  Stand e = get desk.images e.0 ≡ Some e.1

  image_line_more : (acc : ℕ) (accs : List ℕ) (line : ImageLine) (rest : List ImageLine) → IsCounted desk audience day acc line → AreLinesOfEach desk audience day accs rest
      → (lines : List ImageLine) × AreLinesOfEach desk audience day (acc ∷ accs) lines
  image_line_more acc accs line rest counted are = elim (cases_eq line.files 0) [
    | inl none ↦ (rest, (line, rest, counted, are, inr (none, refl)))
    | inr some ↦ (line ∷ rest, (line, rest, counted, are, inl (some, refl)))
  ]

  image_lines_of : (es : List (ℕ × ImageRow)) → All Stand es → (lines : List ImageLine) × AreLinesOfEach desk audience day (map (λ e. e.0) es) lines
  image_lines_of [] stand = ([], refl)
  image_lines_of (e ∷ es) stand =
      let here = All-head Stand e es stand in
      let lines = lines_at e.0 e.1 here in
      let line : ImageLine = record { accession = e.0; deed = e.1.deed; kind = e.1.kind; files = length lines.0 } in
      let rest = image_lines_of es (All-tail Stand e es stand) in
      image_line_more e.0 (map (λ e. e.0) es) line rest.0 (record { image = e.1; lines = lines.0; standing = here; listed = lines.1; is = refl }) rest.1

  listings_of : (es : List (ℕ × ImageRow)) → All Stand es → (listings : List Lines) × AllZip (IsListing desk audience day) (map (λ e. e.0) es) listings
  listings_of [] stand = ([], tt)
  listings_of (e ∷ es) stand =
      let listing = listing_at e.0 e.1 (All-head Stand e es stand) in
      let rest = listings_of es (All-tail Stand e es stand) in
      (listing.0 ∷ rest.0, (listing.1, rest.1))

  all_stand : All Stand (entries desk.images)
  all_stand k d inside = get-entries desk.images _ ∙ each_found (entries desk.images) (entries_sorted desk.images) k d inside

  images_said : (lines : List ImageLine) × AreImageLines desk audience day lines
  images_said = let lines = image_lines_of (entries desk.images) all_stand in (lines.0, image_lines_are desk audience day lines.0 lines.1)

  catalogue_said : (listings : List Lines) × AreListings desk audience day listings
  catalogue_said = let listings = listings_of (entries desk.images) all_stand in (listings.0, listings_are desk audience day listings.0 listings.1)

  -- the survey of an accession
  module _ (lawful : IsLawful desk) where
    survey_with : (acc : ℕ) (image : ImageRow) → get desk.images acc ≡ Some image → (deed : DeedRow) → get desk.deeds image.deed ≡ Some deed
        → (survey : Surveyed) × IsSurvey desk acc survey
    survey_with acc image stands deed given =
        let signed = date_of deed.signed (lawful.deeds image.deed deed given).signed in
        let report = report_of image.kind image.bytes in (
          record { accession = acc; deed = image.deed; donor = deed.donor; signed = signed.0; kind = image.kind; report = report.0 },
          record {
            image = image;
            deed = deed;
            standing = stands;
            given = given;
            described = record { accession = refl; number = refl; donor = refl; signed = signed.1; kind = refl; report = report.1 };
          },
        )

    survey_said : (acc : ℕ) (image : ImageRow) → get desk.images acc ≡ Some image → (survey : Surveyed) × IsSurvey desk acc survey
    survey_said acc image stands =
        let deed = some_of (get desk.deeds image.deed) (not_none (get desk.deeds image.deed) (lawful.images acc image stands).1) in
        survey_with acc image stands deed.0 deed.1

    module _ (badge : Option (List ℕ)) (file : Option JudgedFile) where
      abbrev Asks : What → Request
      Asks what = record { badge = badge; what = what }

      abbrev IsToldTo : What → Type 0
      IsToldTo what = (answer : Response) × Tells desk audience day file answer what

      -- the image of an accession that is named and not refused
      standing_at : (what : What) (acc : ℕ) → accession_of what ≡ Some acc → IsAccepted desk (Asks what) file → (image : ImageRow) × (get desk.images acc ≡ Some image)
      standing_at what acc names accepted =
          some_of (get desk.images acc) (λ none. accepted NoAccession (subst (λ o. IsSomeAnd o (λ n. get desk.images n ≡ None)) (sym names) none))

      -- the contents of the file that is asked for
      file_said : (acc slot : ℕ) (found : Option JudgedFile) → IsAsked desk day (Asks (Bytes acc slot)) found → IsAccepted desk (Asks (Bytes acc slot)) found
          → (image : ImageRow) → get desk.images acc ≡ Some image → (caller : audience_of desk badge ≡ Some audience)
          → (answer : Response) × Tells desk audience day found answer (Bytes acc slot)
      file_said acc slot None none accepted image stands caller =
          absurd (accepted NoFile (subst (λ o. IsSomeAnd o (λ row. IsSlotOfFile row.kind row.bytes slot → ⊥)) (sym stands) (λ is.
          let found = file_at image.kind image.bytes (bytes acc image stands) slot is in
          let verdict = verdict_on (rules_for desk acc) audience day found.0 (for_in_order desk acc) in
          none (record { kind = image.kind; file = found.0; verdict = verdict.0 }) (record {
            accession = acc;
            image = image;
            audience = audience;
            asked = ap (λ k. Some (acc, k)) (sym found.2);
            caller = caller;
            standing = stands;
            of_kind = refl;
            described = found.1;
            decided = verdict.1;
          }))))
      file_said acc slot (Some judged) is accepted image stands caller =
          let at : (acc, slot) ≡ (is.accession, judged.file.slot) = ap named is.asked in
          let same : is.image ≡ image = image_there desk day bytes (Asks (Bytes acc slot)) (acc, slot) refl image stands judged is in
          let described : IsFound image.kind image.bytes judged.file = subst (λ (row : ImageRow). IsFound row.kind row.bytes judged.file) same is.described in
          let sound : IsSoundFile judged.file = record {
            class = by_decision (served_or judged.file.served_class) (λ other. accepted ListedOnly (not_served judged.file.served_class other));
            sound = by_decision (decided_same judged.file.faults 0) (λ some. accepted (Faulty judged.kind judged.file.faults) (some, refl, refl));
          } in
          let read : judged.verdict.effect ≡ Read = by_decision (decided_read judged.verdict.effect) (λ other. accepted (Denied judged.verdict.label) (other, refl)) in
          let lent : Lent = record { kind = image.kind; image = image.bytes; file = judged.file } in
          let at_slot : judged.file.slot ≡ slot = sym (ap (λ (p : ℕ × ℕ). p.1) at) in (
            response.File lent,
            (
              read,
              record {
                image = image;
                standing = stands;
                kind = refl;
                from_image = refl;
                at_slot = at_slot;
                described = described;
                are = subst (λ k. AreBytesOf image.kind image.bytes k (bytes_lent lent)) at_slot (told_file_bytes image.kind image.bytes judged.file described sound);
              },
            ),
          )

      told_to : (what : What) → IsAsked desk day (Asks what) file → IsAccepted desk (Asks what) file → audience_of desk badge ≡ Some audience → IsToldTo what
      told_to Images asked accepted caller = (response.Images images_said.0, images_said.1)
      told_to (Listing acc) asked accepted caller =
          let image = standing_at (Listing acc) acc refl accepted in
          let listing = listing_at acc image.0 image.1 in (response.Listed listing.0, listing.1)
      told_to (Bytes acc slot) asked accepted caller =
          let image = standing_at (Bytes acc slot) acc refl accepted in file_said acc slot file asked accepted image.0 image.1 caller
      told_to Catalogue asked accepted caller = (response.Catalogue catalogue_said.0, catalogue_said.1)
      told_to (Survey acc) asked accepted caller =
          let image = standing_at (Survey acc) acc refl accepted in
          let survey = survey_said acc image.0 image.1 in (response.Surveyed survey.0, survey.1)
      told_to (Check acc) asked accepted caller =
          let image = standing_at (Check acc) acc refl accepted in (
            response.Checked (outcome_of image.0.bytes image.0.digest),
            subst (λ o. IsSomeAnd o (λ row. outcome_of image.0.bytes image.0.digest ≡ outcome_of row.bytes row.digest)) (sym image.1) refl,
          )
      told_to Deeds asked accepted caller = (response.Deeds (deed_lines desk), refl)
      told_to Takedowns asked accepted caller = (response.Takedowns (takedown_lines desk), refl)
      told_to Keys asked accepted caller = (response.Keys (key_lines desk), refl)
      told_to Checks asked accepted caller = (response.Checks (check_lines desk), refl)
      told_to Today asked accepted caller = (response.Today day, refl)
      told_to (Verdicts on) asked accepted caller = let all = verdicts_said desk on bytes in (response.Verdicts all.0, all.1)
      told_to (VerdictsOf on acc) asked accepted caller =
          let image = standing_at (VerdictsOf on acc) acc refl accepted in
          let one = said_at desk on bytes acc image.0 image.1 in (response.Verdicts (one.0 ∷ []), (one.1, tt))
      told_to (RehearseRule on rule) asked accepted caller =
          let differences = rehearsal_said desk (carried_out day (PutRule rule) desk) on bytes bytes in (response.Rehearsed differences.0, differences.1)
      told_to (RehearseDrop on band scope rank) asked accepted caller =
          let differences = rehearsal_said desk (carried_out day (DropRule band scope rank) desk) on bytes bytes in (response.Rehearsed differences.0, differences.1)
      told_to what asked accepted caller = (response.Done, tt)

-- ---- the reply

module _ (desk : Desk) (day : ℤ) (request : Request) (lawful : IsLawful desk) (bytes : HoldsBytes desk) where
  abbrev HasReply : Type 0
  HasReply = (reply : Reply) × (after : Desk) × IsReply desk day request reply after

  answered : (answer : Response) (after : Desk) → IsAnswered desk day request answer after → HasReply
  answered answer after is = (reply_of answer, after, record { answer = answer; answered = is; written = refl })

  by_judgement : (file : Option JudgedFile) → IsAsked desk day request file → IsJudged desk request file → HasReply
  by_judgement file asked (inl (refusal, refused)) = answered (response.Refused refusal) desk (record { file = file; asked = asked; refused = refused }, refl)
  by_judgement file asked (inr accepted) =
      let caller = some_of (audience_of desk request.badge) (accepted UnknownKey) in
      let described = told_to desk bytes caller.0 day lawful request.badge file request.what asked accepted caller.1 in
      let after : Desk = carried_out day request.what desk in
      answered described.0 after (done_answered desk day request described.0 after (record {
        file = file;
        audience = caller.0;
        asked = asked;
        caller = caller.1;
        accepted = accepted;
        tells = described.1;
        after = refl;
      }))

-- each request has a reply
pub each_reply : EachReply
each_reply desk day request lawful bytes =
    let asked = asked_for desk day bytes request in
    by_judgement desk day request lawful bytes asked.0 asked.1 (judged desk request asked.0)
