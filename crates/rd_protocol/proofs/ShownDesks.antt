-- Desks that show the same to a caller reply the same to them, unless the staff asks what only they may.
use Rattle.std.proofs.Common.{◌≡◌, ◌≢◌, ◌<◌, ◌⊎◌, inl, inr, ◌∙◌, ℕ, ℤ, List, Contains, IfSome, IsSomeAnd, Option, Some, None, ap, arith, false, get_or, length, map, option_map, refl, subst, sym}
use Rattle.std.specs.FinMap.{get}
use Rattle.std.proofs.lemmas.Option.{none-some}
use Rattle.sha2.specs.Sha256.{sha256}
use Rattle.rd_geometry.specs.Kinds.{size_of}
use Rattle.rd_policy.specs.Verdicts.{IsVerdict}
use Rattle.rd_policy.specs.declared.audience.Audience.{Audience}
use Rattle.rd_policy.specs.declared.audience.Audience.TheVariants.{Staff}
use Rattle.rd_policy.specs.declared.rule.Effect.{Effect}
use Rattle.rd_policy.specs.declared.rule.Effect.TheVariants.{Deny, Read}
use Rattle.rd_policy.specs.declared.rule.Rule.{Rule}
use Rattle.rd_policy.specs.declared.verdict.Label.{Label}
use Rattle.rd_policy.specs.declared.verdict.Verdict.{Verdict}
use Rattle.rd_volume.specs.Founds.{IsSoundFile}
use Rattle.rd_volume.specs.Reports.{IsSoundSlot}
use Rattle.rd_volume.specs.Volumes.{AreBytesOf, IsFound, IsSlotOfFile}
use Rattle.rd_volume.specs.declared.found.Found.{Found}
use Rattle.rd_volume.proofs.OneContents.{one_contents}
use Rattle.rd_volume.proofs.OneFound.{one_found}
use Rattle.rd_volume.proofs.FoundFile.{told_sound, told_bytes as told_file_bytes}
use Rattle.rd_holdings.specs.State.{Desk, rules_for, accession_of as given_of}
use Rattle.rd_holdings.specs.declared.rows.Accession.{Accession}
use Rattle.rd_holdings.specs.declared.rows.ImageRow.{ImageRow}
use Rattle.rd_protocol.specs.Hidden.{IsCallerOf, IsOfStaff, ReadsTheSame, ShowsItself, TellsWhatIsShown, WhatIsShownDecides}
use Rattle.rd_protocol.specs.Judged.{Conflicts, Holds, IsAccepted, IsAsked, IsJudgedFile, IsRefused, IsRefusedOn, JudgedFile, accession_of, audience_of, deed_of, file_of, image_of}
use Rattle.rd_protocol.specs.Refusals.{number_of}
use Rattle.rd_protocol.specs.Lent.{Lent, bytes_lent, held}
use Rattle.rd_protocol.specs.Replies.{AreImageLines, AreLines, AreListings, Answers, IsAnswered, IsDone, IsImageLine, IsLine, IsListing, LendsFile, Tells, carried_out}
use Rattle.rd_protocol.specs.Requests.{IsForStaff}
use Rattle.rd_protocol.specs.Texts.{in_json, reply_of}
use Rattle.rd_protocol.specs.Shown.{AreReadOf, HasBytes, HasFile, IsDenied, IsDeniedAt, IsListed, IsListedAs, IsShown, ListedFile, Shown, ShowsTheSame, listed_of}
use Rattle.rd_protocol.specs.declared.refusal.Refusal.{Refusal}
use Rattle.rd_protocol.specs.declared.refusal.Refusal.TheVariants.{UnknownKey, StaffOnly, BadBody, NoAccession, NoFile, NoDeed, Denied, ListedOnly, Faulty, WrongSize, DigestDiffers, Conflict}
use Rattle.rd_protocol.specs.declared.request.Request.{Request}
use Rattle.rd_protocol.specs.declared.request.What.{What}
use Rattle.rd_protocol.specs.declared.request.What.TheVariants.{Images, Listing, Bytes, Catalogue}
use Rattle.rd_protocol.specs.declared.response.Form.TheVariants.{Csv}
use Rattle.rd_protocol.specs.declared.response.ImageLine.{ImageLine}
use Rattle.rd_protocol.specs.declared.response.Line.{Line}
use Rattle.rd_protocol.specs.declared.response.Listing.{Listing as Lines}
use Rattle.rd_protocol.specs.declared.response.Reply.{Reply}
use Rattle.rd_protocol.specs.declared.response.Response.{Response}
use Rattle.rd_protocol.specs.declared.response.Response.TheVariants as response
use Rattle.rd_protocol.proofs.StaffRefusals.{is_for_staff, nothing_asked}
use Rattle.rd_protocol.proofs.Counterparts.{Counterpart, HasTwin, ascends_too, complete_too, counterpart, same_length}
use Rattle.rd_protocol.proofs.ListedLemmas.{ListedImage, same_catalogue, same_listing, shown_of}
use Rattle.rd_protocol.proofs.OneAnswer.{named, one_listing, sound_slot}
use Rattle.rd_protocol.proofs.RefusalOrder.{to_5}
use Rattle.rd_protocol.proofs.ReplyBodies.{told_bytes, told_catalogue, told_images, told_listing}

-- ---- desks that show the same

pub shows_itself : ShowsItself
shows_itself desk audience day = record { keys = refl; accessions = λ acc. refl; images = λ acc it. (λ h. h, λ h. h) }

turned : (desk other : Desk) (audience : Audience) (day : ℤ) → ShowsTheSame desk audience day other → ShowsTheSame other audience day desk
turned desk other audience day same = record {
  keys = sym same.keys;
  accessions = λ acc. sym (same.accessions acc);
  images = λ acc it. ((same.images acc it).1, (same.images acc it).0);
}

-- an image of the same kind and deed is there too
row_of : (found : Option ImageRow) (image : ImageRow) → option_map given_of found ≡ Some (given_of image)
    → (row : ImageRow) × (found ≡ Some row) × (image.kind ≡ row.kind) × (image.deed ≡ row.deed)
row_of None image is = absurd (none-some (given_of image) is)
row_of (Some row) image is =
    let same : given_of row ≡ given_of image = cc in
    (row, refl, ap (λ (given : Accession). given.kind) (sym same), ap (λ (given : Accession). given.deed) (sym same))

none_of : (found : Option ImageRow) → option_map given_of found ≡ None → found ≡ None
none_of None is = refl
none_of (Some row) is = absurd (none-some (given_of row) (sym is))

module _ (desk other : Desk) (audience : Audience) (day : ℤ) (same : ShowsTheSame desk audience day other) where
  stands : (acc : ℕ) (image : ImageRow) → get desk.images acc ≡ Some image
      → (row : ImageRow) × (get other.images acc ≡ Some row) × (image.kind ≡ row.kind) × (image.deed ≡ row.deed)
  stands acc image is = row_of (get other.images acc) image (same.accessions acc ∙ ap (option_map given_of) is)

  lacks : (acc : ℕ) → get desk.images acc ≡ None → get other.images acc ≡ None
  lacks acc is = none_of (get other.images acc) (same.accessions acc ∙ ap (option_map given_of) is)

  -- what the one image shows, the other shows
  shown_too : (acc : ℕ) (image row : ImageRow) → get desk.images acc ≡ Some image → get other.images acc ≡ Some row → (it : Shown)
      → IsShown image (rules_for desk acc) audience day it → IsShown row (rules_for other acc) audience day it
  shown_too acc image row here there it is =
      subst (λ (found : Option ImageRow). IsSomeAnd found (λ (r : ImageRow). IsShown r (rules_for other acc) audience day it)) there
      ((same.images acc it).0
      (subst (λ (found : Option ImageRow). IsSomeAnd found (λ (r : ImageRow). IsShown r (rules_for desk acc) audience day it)) (sym here) is))

-- ---- what is listed

module _ (desk other : Desk) (audience : Audience) (day : ℤ) (same : ShowsTheSame desk audience day other) where
  line_too : (acc : ℕ) (image row : ImageRow) → get desk.images acc ≡ Some image → get other.images acc ≡ Some row → (line : Line)
      → IsLine image (rules_for desk acc) audience day line → HasTwin listed_of (IsLine row (rules_for other acc) audience day) line
  line_too acc image row here there line is =
      let shows : IsListedAs row (rules_for other acc) audience day (listed_of line) =
      shown_too desk other audience day same acc image row here there (IsListed (listed_of line)) (record { line = line; described = is; shown = refl }) in
      (shows.line, shows.described, shows.shown)

-- lines of one image that show the same are one
one_line : (image : ImageRow) (rules : List Rule) (audience : Audience) (day : ℤ) (line twin : Line) → IsLine image rules audience day line
    → IsLine image rules audience day twin → listed_of line ≡ listed_of twin → line ≡ twin
one_line image rules audience day line twin is too same =
    let file = one_found image.kind image.bytes line.file twin.file is.described too.described (ap (λ (listed : ListedFile). listed.slot) same) in
    λ i. record { file = file i; verdict = (same i).verdict }

-- The files that one image lists, as another lists them.
record ListsTheSame (image : ImageRow) (rules : List Rule) (audience : Audience) (day : ℤ) (lines : List Line) : Type 0 where
  twins : List Line
  listed : AreLines image rules audience day twins
  same : map listed_of twins ≡ map listed_of lines

module _ (desk other : Desk) (audience : Audience) (day : ℤ) (same : ShowsTheSame desk audience day other) where
  files_too : (acc : ℕ) (image row : ImageRow) (lines : List Line) → get desk.images acc ≡ Some image → get other.images acc ≡ Some row
      → AreLines image (rules_for desk acc) audience day lines → ListsTheSame row (rules_for other acc) audience day lines
  files_too acc image row lines here there are =
      let Here : Line → Type 0 = IsLine image (rules_for desk acc) audience day in
      let There : Line → Type 0 = IsLine row (rules_for other acc) audience day in
      let twins : Counterpart listed_of There lines = counterpart listed_of Here There (line_too desk other audience day same acc image row here there) lines are.each in
      record {
        twins = twins.list;
        listed = record {
          each = twins.each;
          ascending = ascends_too listed_of (λ (listed : ListedFile). listed.slot) lines twins.list twins.same are.ascending;
          complete = complete_too listed_of Here There lines twins.list twins.same twins.each
              (line_too other desk audience day (turned desk other audience day same) acc row image there here)
              (one_line row (rules_for other acc) audience day) are.complete;
        };
        same = twins.same;
      }

  image_line_too : (line : ImageLine) → IsImageLine desk audience day line → IsImageLine other audience day line
  image_line_too line is =
      let there = stands desk other audience day same line.accession is.image is.standing in
      let files = files_too line.accession is.image there.0 is.lines is.standing there.1 is.listed in
      record {
        image = there.0;
        lines = files.twins;
        standing = there.1;
        deed = is.deed ∙ there.3;
        kind = is.kind ∙ there.2;
        listed = files.listed;
        count = is.count ∙ sym (same_length listed_of is.lines files.twins files.same);
        some = is.some;
      }

  listing_too : (acc : ℕ) (listing : Lines) → IsListing desk audience day acc listing → HasTwin shown_of (IsListing other audience day acc) listing
  listing_too acc listing is =
      let there = stands desk other audience day same acc is.image is.standing in
      let files = files_too acc is.image there.0 listing.files is.standing there.1 is.listed in (
        record { accession = listing.accession; deed = listing.deed; kind = listing.kind; files = files.twins },
        record {
          image = there.0;
          standing = there.1;
          accession = is.accession;
          deed = is.deed ∙ there.3;
          kind = is.kind ∙ there.2;
          listed = files.listed;
        },
        λ i. record { accession = listing.accession; deed = listing.deed; kind = listing.kind; files = files.same i },
      )

  own_listing_too : (listing : Lines) → IsListing desk audience day listing.accession listing
      → HasTwin shown_of (λ (twin : Lines). IsListing other audience day twin.accession twin) listing
  own_listing_too listing is =
      let there = listing_too listing.accession listing is in
      let accession : there.0.accession ≡ listing.accession = ap (λ (listed : ListedImage). listed.accession) there.2 in
      (there.0, subst (λ acc. IsListing other audience day acc there.0) (sym accession) there.1, there.2)

-- listings of one desk that show the same are one
same_shown : (desk : Desk) (audience : Audience) (day : ℤ) (one twin : Lines) → IsListing desk audience day one.accession one
    → IsListing desk audience day twin.accession twin → shown_of one ≡ shown_of twin → one ≡ twin
same_shown desk audience day one twin is too same =
    let accession : one.accession ≡ twin.accession = ap (λ (listed : ListedImage). listed.accession) same in
    one_listing audience day desk one.accession one twin is (subst (λ acc. IsListing desk audience day acc twin) (sym accession) too)

-- ---- what is asked for

pub audience_too : (desk other : Desk) (badge : Option (List ℕ)) → desk.keys ≡ other.keys → audience_of desk badge ≡ audience_of other badge
audience_too desk other None same = refl
audience_too desk other (Some badge) same = ap (λ keys. get keys badge) same

pub denies : (effect : Effect) → (effect ≡ Deny) ⊎ (effect ≢ Deny)
denies Deny = inl refl
denies other = inr (λ is. cc)

-- Files that are denied, by one rule.
record AreDenied (file twin : JudgedFile) : Type 0 where
  verdict : file.verdict ≡ twin.verdict
  denied : file.verdict.effect ≡ Deny

-- Files of images of one kind, of which a refusal says the same.
record AreListed (file twin : JudgedFile) : Type 0 where
  kind : file.kind ≡ twin.kind
  class : file.file.served_class ≡ twin.file.served_class
  faults : file.file.faults ≡ twin.file.faults
  verdict : file.verdict ≡ twin.verdict

abbrev BothDenied : Option JudgedFile → Option JudgedFile → Type 0
BothDenied (Some file) (Some twin) = AreDenied file twin
BothDenied file twin = ⊥

-- two such files, or none
abbrev BothListed : Option JudgedFile → Option JudgedFile → Type 0
BothListed None None = Unit {0}
BothListed (Some file) (Some twin) = AreListed file twin
BothListed file twin = ⊥

-- files of which the same is shown, or none; or files that are denied
abbrev AreAlike : Option JudgedFile → Option JudgedFile → Type 0
AreAlike file twin = BothListed file twin ⊎ BothDenied file twin

listed_itself : (file : JudgedFile) → AreListed file file
listed_itself file = record { kind = refl; class = refl; faults = refl; verdict = refl }

listed_back : (file twin : Option JudgedFile) → BothListed file twin → BothListed twin file
listed_back None None both = both
listed_back (Some file) (Some twin) both = record { kind = sym both.kind; class = sym both.class; faults = sym both.faults; verdict = sym both.verdict }
listed_back None (Some twin) wrong = absurd wrong
listed_back (Some file) None wrong = absurd wrong

-- what is said of the one is said of the other
said_too : (P : JudgedFile → Type 0) → ((file twin : JudgedFile) → AreListed file twin → P file → P twin)
    → (file twin : Option JudgedFile) → BothListed file twin → IsSomeAnd file P → IsSomeAnd twin P
said_too P too None twin both h = absurd h
said_too P too (Some file) None wrong h = absurd wrong
said_too P too (Some file) (Some twin) both h = too file twin both h

module _ (desk other : Desk) (audience : Audience) (day : ℤ) (same : ShowsTheSame desk audience day other) (request : Request) (of_caller : IsCallerOf desk request audience) where
  same_caller : (caller : Audience) → audience_of desk request.badge ≡ Some caller → caller ≡ audience
  same_caller caller is = subst (λ (found : Option Audience). IfSome found (λ who. who ≡ audience)) is of_caller

  caller_there : (caller : Audience) → audience_of desk request.badge ≡ Some caller → audience_of other request.badge ≡ Some caller
  caller_there caller is = audience_too other desk request.badge same.keys ∙ is

  -- a file that is denied
  denied_there : (judged : JudgedFile) → IsJudgedFile desk day request judged → judged.verdict.effect ≡ Deny
      → (twin : Option JudgedFile) × IsAsked other day request twin × AreAlike (Some judged) twin
  denied_there judged is denied =
      let label = judged.verdict.label in
      let verdict : judged.verdict ≡ record { effect = Deny; label = label } = λ i. record { effect = denied i; label = label } in
      let row = stands desk other audience day same is.accession is.image is.standing in
      let decided = subst (λ v. IsVerdict (Contains (rules_for desk is.accession)) audience day judged.file v) verdict
      (subst (λ who. IsVerdict (Contains (rules_for desk is.accession)) who day judged.file judged.verdict) (same_caller is.audience is.caller) is.decided) in
      let here : IsDeniedAt is.image (rules_for desk is.accession) audience day judged.file.slot label = record { file = judged.file; at_slot = refl; described = is.described; decided = decided } in
      let there : IsDeniedAt row.0 (rules_for other is.accession) audience day judged.file.slot label =
      shown_too desk other audience day same is.accession is.image row.0 is.standing row.1 (IsDenied judged.file.slot label) here in
      let twin : JudgedFile = record { kind = row.0.kind; file = there.file; verdict = record { effect = Deny; label = label } } in (
        Some twin,
        record {
          accession = is.accession;
          image = row.0;
          audience = audience;
          asked = is.asked ∙ ap (λ slot. Some (is.accession, slot)) (sym there.at_slot);
          caller = caller_there is.audience is.caller ∙ ap Some (same_caller is.audience is.caller);
          standing = row.1;
          of_kind = refl;
          described = there.described;
          decided = there.decided;
        },
        inr (record { verdict = verdict; denied = denied }),
      )

  -- and one that is not
  listed_there : (judged : JudgedFile) → IsJudgedFile desk day request judged → judged.verdict.effect ≢ Deny
      → (twin : Option JudgedFile) × IsAsked other day request twin × AreAlike (Some judged) twin
  listed_there judged is shown =
      let row = stands desk other audience day same is.accession is.image is.standing in
      let line : Line = record { file = judged.file; verdict = judged.verdict } in
      let here : IsLine is.image (rules_for desk is.accession) audience day line = record {
        described = is.described;
        decided = subst (λ who. IsVerdict (Contains (rules_for desk is.accession)) who day judged.file judged.verdict) (same_caller is.audience is.caller) is.decided;
        shown = shown;
      } in
      let there = line_too desk other audience day same is.accession is.image row.0 is.standing row.1 line here in
      let described : IsLine row.0 (rules_for other is.accession) audience day there.0 = there.1 in
      let twin : JudgedFile = record { kind = row.0.kind; file = there.0.file; verdict = there.0.verdict } in (
        Some twin,
        record {
          accession = is.accession;
          image = row.0;
          audience = audience;
          asked = is.asked ∙ ap (λ (listed : ListedFile). Some (is.accession, listed.slot)) (sym there.2);
          caller = caller_there is.audience is.caller ∙ ap Some (same_caller is.audience is.caller);
          standing = row.1;
          of_kind = refl;
          described = described.described;
          decided = described.decided;
        },
        inl (record {
          kind = is.of_kind ∙ row.2;
          class = ap (λ (listed : ListedFile). listed.served_class) (sym there.2);
          faults = ap (λ (listed : ListedFile). listed.faults) (sym there.2);
          verdict = ap (λ (listed : ListedFile). listed.verdict) (sym there.2);
        }),
      )

  judged_there : (judged : JudgedFile) → IsJudgedFile desk day request judged
      → (twin : Option JudgedFile) × IsAsked other day request twin × AreAlike (Some judged) twin
  judged_there judged is = elim (denies judged.verdict.effect) [
    | inl denied ↦ denied_there judged is denied
    | inr shown ↦ listed_there judged is shown
  ]

-- a caller of the audience is one there too
caller_too : (desk other : Desk) (request : Request) (audience : Audience) → desk.keys ≡ other.keys → IsCallerOf desk request audience → IsCallerOf other request audience
caller_too desk other request audience same of_caller =
    subst (λ (found : Option Audience). IfSome found (λ who. who ≡ audience)) (audience_too desk other request.badge same) of_caller

-- where a file is asked for there, one is asked for here
asked_here : (desk : Desk) (day : ℤ) (request : Request) (file : JudgedFile) (twin : Option JudgedFile) → IsAsked desk day request twin → AreAlike (Some file) twin
    → (judged : JudgedFile) × IsJudgedFile desk day request judged
asked_here desk day request file (Some twin) is alike = (twin, is)
asked_here desk day request file None none (inl wrong) = absurd wrong
asked_here desk day request file None none (inr wrong) = absurd wrong

asked_too : (desk other : Desk) (audience : Audience) (day : ℤ) → ShowsTheSame desk audience day other → (request : Request) → IsCallerOf desk request audience
    → (file : Option JudgedFile) → IsAsked desk day request file → (twin : Option JudgedFile) × IsAsked other day request twin × AreAlike file twin
asked_too desk other audience day same request of_caller None none = (
  None,
  λ judged is.
      let there = judged_there other desk audience day (turned desk other audience day same) request (caller_too desk other request audience (sym same.keys) of_caller) judged is in
      let here = asked_here desk day request judged there.0 there.1 there.2 in
      none here.0 here.1,
  inl tt,
)
asked_too desk other audience day same request of_caller (Some judged) is = judged_there desk other audience day same request of_caller judged is

-- ---- why it is refused

-- a question names no deed, brings no image, and stands against nothing
no_deed : (what : What) → ¬ IsForStaff what → deed_of what ≡ None
no_deed Images question = refl
no_deed (Listing acc) question = refl
no_deed (Bytes acc slot) question = refl
no_deed Catalogue question = refl
no_deed what question = absurd (question tt)

no_image : (what : What) → ¬ IsForStaff what → image_of what ≡ None
no_image Images question = refl
no_image (Listing acc) question = refl
no_image (Bytes acc slot) question = refl
no_image Catalogue question = refl
no_image what question = absurd (question tt)

no_conflict : (desk : Desk) (what : What) → ¬ IsForStaff what → ¬ Conflicts desk what
no_conflict desk Images question = λ h. h
no_conflict desk (Listing acc) question = λ h. h
no_conflict desk (Bytes acc slot) question = λ h. h
no_conflict desk Catalogue question = λ h. h
no_conflict desk what question = absurd (question tt)

module _ (desk other : Desk) (audience : Audience) (day : ℤ) (same : ShowsTheSame desk audience day other) where
  no_accession_too : (acc : Option ℕ) → IsSomeAnd acc (λ acc. get desk.images acc ≡ None) → IsSomeAnd acc (λ acc. get other.images acc ≡ None)
  no_accession_too None h = absurd h
  no_accession_too (Some acc) h = lacks desk other audience day same acc h

  -- the same of a slot at which no file is
  no_slot : (acc slot : ℕ) (here there : Option ImageRow) → get desk.images acc ≡ here → get other.images acc ≡ there
      → IsSomeAnd here (λ image. ¬ IsSlotOfFile image.kind image.bytes slot) → IsSomeAnd there (λ image. ¬ IsSlotOfFile image.kind image.bytes slot)
  no_slot acc slot None there here_is there_is h = absurd h
  no_slot acc slot (Some image) None here_is there_is h =
      absurd (none-some image (sym (lacks other desk audience day (turned desk other audience day same) acc there_is) ∙ here_is))
  no_slot acc slot (Some image) (Some row) here_is there_is h =
      λ is. h (shown_too other desk audience day (turned desk other audience day same) acc row image there_is here_is (HasFile slot) is)

  no_file_too : (at : Option (ℕ × ℕ)) → IsSomeAnd at (λ at. IsSomeAnd (get desk.images at.0) (λ image. ¬ IsSlotOfFile image.kind image.bytes at.1))
      → IsSomeAnd at (λ at. IsSomeAnd (get other.images at.0) (λ image. ¬ IsSlotOfFile image.kind image.bytes at.1))
  no_file_too None h = absurd h
  no_file_too (Some at) h = no_slot at.0 at.1 (get desk.images at.0) (get other.images at.0) refl refl h

  module _ (request : Request) (question : ¬ IsForStaff request.what) where
    -- of files of which the same is shown
    holds_too : (file twin : Option JudgedFile) → BothListed file twin → (refusal : Refusal) → Holds desk request file refusal → Holds other request twin refusal
    holds_too file twin both UnknownKey h = audience_too other desk request.badge same.keys ∙ h
    holds_too file twin both StaffOnly h = absurd (question h.0)
    holds_too file twin both BadBody h = h
    holds_too file twin both NoAccession h = no_accession_too (accession_of request.what) h
    holds_too file twin both NoFile h = no_file_too (file_of request.what) h
    holds_too file twin both NoDeed h = absurd (subst (λ num. IsSomeAnd num (λ num. get desk.deeds num ≡ None)) (no_deed request.what question) h)
    holds_too file twin both (Denied label) h =
        said_too (λ judged. (judged.verdict.effect ≢ Read) × (judged.verdict.label ≡ label))
        (λ one too alike held. (
          λ read. held.0 (ap (λ (v : Verdict). v.effect) alike.verdict ∙ read),
          ap (λ (v : Verdict). v.label) (sym alike.verdict) ∙ held.1,
        )) file twin both h
    holds_too file twin both ListedOnly h =
        said_too (λ judged. judged.file.served_class ≡ false) (λ one too alike held. sym alike.class ∙ held) file twin both h
    holds_too file twin both (Faulty kind faults) h =
        said_too (λ judged. (judged.file.faults ≢ 0) × (judged.kind ≡ kind) × (judged.file.faults ≡ faults))
        (λ one too alike held. (λ none. held.0 (alike.faults ∙ none), sym alike.kind ∙ held.1, sym alike.faults ∙ held.2)) file twin both h
    holds_too file twin both WrongSize h = absurd (subst (λ image. IsSomeAnd image (λ image. length image.bytes ≢ size_of image.kind)) (no_image request.what question) h)
    holds_too file twin both DigestDiffers h = absurd (subst (λ image. IsSomeAnd image (λ image. sha256 image.bytes ≢ image.digest)) (no_image request.what question) h)
    holds_too file twin both Conflict h = absurd (no_conflict desk request.what question h)

    -- of a file that is denied, up to its denial
    holds_denied : (file twin : JudgedFile) → AreDenied file twin → (refusal : Refusal) → number_of refusal < 12
        → Holds desk request (Some file) refusal → Holds other request (Some twin) refusal
    holds_denied file twin denied (Denied label) low h = (
      λ read. h.0 (ap (λ (v : Verdict). v.effect) denied.verdict ∙ read),
      ap (λ (v : Verdict). v.label) (sym denied.verdict) ∙ h.1,
    )
    holds_denied file twin denied ListedOnly low h = absurd (omega (arith, low))
    holds_denied file twin denied (Faulty kind faults) low h = absurd (omega (arith, low))
    holds_denied file twin denied refusal low h = holds_too (Some file) (Some file) (listed_itself file) refusal h

-- it is denied
is_denied : (desk : Desk) (request : Request) (file : JudgedFile) → file.verdict.effect ≡ Deny → Holds desk request (Some file) (Denied file.verdict.label)
is_denied desk request file denied = (λ read. let wrong : Deny ≡ Read = sym denied ∙ read in cc, refl)

at_most : (n : ℕ) → (11 < n → ⊥) → n < 12
at_most n none = omega arith

module _ (desk other : Desk) (audience : Audience) (day : ℤ) (same : ShowsTheSame desk audience day other) (request : Request) (question : ¬ IsForStaff request.what) where
  refused_as : (file twin : Option JudgedFile) (refusal : Refusal) → AreAlike file twin → IsRefused desk request file refusal → IsRefused other request twin refusal
  refused_as file twin refusal (inl both) is = record {
    holds = holds_too desk other audience day same request question file twin both refusal is.holds;
    lowest = λ lower below h.
        is.lowest lower below (holds_too other desk audience day (turned desk other audience day same) request question twin file (listed_back file twin both) lower h);
  }
  refused_as (Some file) (Some twin) refusal (inr denied) is =
      let back : AreDenied twin file = record { verdict = sym denied.verdict; denied = ap (λ (v : Verdict). v.effect) (sym denied.verdict) ∙ denied.denied } in
      let low : number_of refusal < 12 = at_most (number_of refusal) (λ above. is.lowest (Denied file.verdict.label) above (is_denied desk request file denied.denied)) in
      record {
        holds = holds_denied desk other audience day same request question file twin denied refusal low is.holds;
        lowest = λ lower below h.
            is.lowest lower below (holds_denied other desk audience day (turned desk other audience day same) request question twin file back lower (omega (arith, below, low)) h);
      }
  refused_as (Some file) None refusal (inr wrong) is = absurd wrong
  refused_as None twin refusal (inr wrong) is = absurd wrong

  -- an accepted request asks for no file that is denied
  accepted_listed : (file twin : Option JudgedFile) → AreAlike file twin → IsAccepted desk request file → BothListed file twin
  accepted_listed file twin (inl both) accepted = both
  accepted_listed (Some file) (Some twin) (inr denied) accepted = absurd (accepted (Denied file.verdict.label) (is_denied desk request file denied.denied))
  accepted_listed (Some file) None (inr wrong) accepted = absurd wrong
  accepted_listed None twin (inr wrong) accepted = absurd wrong

  accepted_too : (file twin : Option JudgedFile) → BothListed file twin → IsAccepted desk request file → IsAccepted other request twin
  accepted_too file twin both accepted refusal h =
      accepted refusal (holds_too other desk audience day (turned desk other audience day same) request question twin file (listed_back file twin both) refusal h)

  refused_too : (refusal : Refusal) → IsCallerOf desk request audience → IsRefusedOn desk day request refusal → IsRefusedOn other day request refusal
  refused_too refusal of_caller is =
      let there = asked_too desk other audience day same request of_caller is.file is.asked in
      record { file = there.0; asked = there.1; refused = refused_as is.file there.0 refusal there.2 is.refused }

-- ---- what is said

nothing_changes : (day : ℤ) (what : What) (desk : Desk) → ¬ IsForStaff what → desk ≡ carried_out day what desk
nothing_changes day Images desk question = refl
nothing_changes day (Listing acc) desk question = refl
nothing_changes day (Bytes acc slot) desk question = refl
nothing_changes day Catalogue desk question = refl
nothing_changes day what desk question = absurd (question tt)

-- a reply reads the same as itself
reads_itself : (reply : Reply) → ReadsTheSame reply reply
reads_itself reply = record { status = refl; form = refl; bytes = refl; lent = refl }

-- Contents of one file of images of one kind, with the same bytes.
record LendTheSame (lent other : Lent) : Type 0 where
  kind : lent.kind ≡ other.kind
  file : lent.file ≡ other.file
  bytes : bytes_lent lent ≡ bytes_lent other

-- they read the same
contents_read : (answer : Response) (lent other : Lent) → answer ≡ response.File lent → LendTheSame lent other → ReadsTheSame (reply_of answer) (reply_of (response.File other))
contents_read answer lent other is same =
    subst (λ described. ReadsTheSame (reply_of described) (reply_of (response.File other))) (sym is)
    (record { status = refl; form = refl; bytes = same.bytes; lent = λ i. Some (same.kind i, same.file i) })

-- the reply whose body is this table
abbrev table : List ℕ → Reply
table text = record { status = 200; form = Csv; body = held text }

-- a text that is the same reads the same
text_read : (answer twin : Response) → reply_of answer ≡ reply_of twin → ReadsTheSame (reply_of answer) (reply_of twin)
text_read answer twin same = subst (ReadsTheSame (reply_of answer)) same (reads_itself (reply_of answer))

-- what is done is answered
pub done_answered : (desk : Desk) (day : ℤ) (request : Request) (answer : Response) (new : Desk) → IsDone desk day request answer new → IsAnswered desk day request answer new
done_answered desk day request (response.Refused refusal) new done = absurd done.tells
done_answered desk day request answer new done = done

-- an answer that reads the same
abbrev AnswersToo : Desk → ℤ → Request → Response → Type 0
AnswersToo other day request answer = (same : Response) × ReadsTheSame (reply_of answer) (reply_of same) × IsAnswered other day request same other

-- the contents of a file that is read are lent, by its description
lent_there : (other : Desk) (acc : ℕ) (row : ImageRow) (rules : List Rule) (audience : Audience) (day : ℤ) (slot : ℕ) (lent : Lent) → get other.images acc ≡ Some row
    → AreReadOf row rules audience day lent.file (bytes_lent lent) → lent.kind ≡ row.kind → lent.file.slot ≡ slot
    → (same : Lent) × LendTheSame lent same × LendsFile other acc slot same
lent_there other acc row rules audience day slot lent standing is kind at_slot =
    let sound : IsSoundFile lent.file = (told_sound row.kind row.bytes lent.file is.described).1 is.sound in
    let same : Lent = record { kind = row.kind; image = row.bytes; file = lent.file } in
    let are : AreBytesOf row.kind row.bytes lent.file.slot (bytes_lent same) = told_file_bytes row.kind row.bytes lent.file is.described sound in (
      same,
      record { kind = kind; file = refl; bytes = one_contents row.kind row.bytes lent.file.slot (bytes_lent lent) (bytes_lent same) is.sound is.are are },
      record {
        image = row;
        standing = standing;
        kind = refl;
        from_image = refl;
        at_slot = at_slot;
        described = is.described;
        are = subst (λ k. AreBytesOf row.kind row.bytes k (bytes_lent same)) at_slot are;
      },
    )

module _ (desk other : Desk) (audience : Audience) (day : ℤ) (same : ShowsTheSame desk audience day other) where
  images_too : (lines : List ImageLine) → AreImageLines desk audience day lines → AreImageLines other audience day lines
  images_too lines are = record {
    each = λ k line inside. image_line_too desk other audience day same (get_or lines k line) (are.each k line inside);
    ascending = are.ascending;
    complete = λ line is. are.complete line (image_line_too other desk audience day (turned desk other audience day same) line is);
  }

  listings_too : (listings : List Lines) → AreListings desk audience day listings
      → (twins : List Lines) × AreListings other audience day twins × (map shown_of twins ≡ map shown_of listings)
  listings_too listings are =
      let Here : Lines → Type 0 = λ (listing : Lines). IsListing desk audience day listing.accession listing in
      let There : Lines → Type 0 = λ (listing : Lines). IsListing other audience day listing.accession listing in
      let twins : Counterpart shown_of There listings = counterpart shown_of Here There (own_listing_too desk other audience day same) listings are.each in (
        twins.list,
        record {
          each = twins.each;
          ascending = ascends_too shown_of (λ (listed : ListedImage). listed.accession) listings twins.list twins.same are.ascending;
          complete = complete_too shown_of Here There listings twins.list twins.same twins.each
              (own_listing_too other desk audience day (turned desk other audience day same))
              (same_shown other audience day) are.complete;
        },
        twins.same,
      )

  module _ (badge : Option (List ℕ)) (caller : audience_of desk badge ≡ Some audience) (acc slot : ℕ) where
    abbrev asking : Request
    asking = record { badge = badge; what = Bytes acc slot }

    file_too : (file : Option JudgedFile) (lent : Lent) → IsAsked desk day asking file → IsAccepted desk asking file
        → IsSomeAnd file (λ judged. judged.verdict.effect ≡ Read) → LendsFile desk acc slot lent
        → (same : Lent) × LendTheSame lent same × LendsFile other acc slot same
    file_too None lent none accepted read lends = absurd read
    file_too (Some judged) lent is accepted read lends =
        let at : named (Some (acc, slot)) ≡ named (Some (is.accession, judged.file.slot)) = ap named is.asked in
        let accession : acc ≡ is.accession = ap (λ (p : ℕ × ℕ). p.0) at in
        let same_slot : slot ≡ judged.file.slot = ap (λ (p : ℕ × ℕ). p.1) at in
        let standing = ap (get desk.images) accession in
        let image : is.image ≡ lends.image = cc (standing, lends.standing, is.standing) in
        let who : is.audience ≡ audience = cc (is.caller, caller) in
        let label : Label = judged.verdict.label in
        let verdict : judged.verdict ≡ record { effect = Read; label = label } = λ i. record { effect = read i; label = label } in
        let described : IsFound lends.image.kind lends.image.bytes judged.file = subst (λ (r : ImageRow). IsFound r.kind r.bytes judged.file) image is.described in
        let file : judged.file ≡ lent.file =
        one_found lends.image.kind lends.image.bytes judged.file lent.file described lends.described (sym same_slot ∙ sym lends.at_slot) in
        let decided : IsVerdict (Contains (rules_for desk acc)) audience day judged.file judged.verdict =
        subst (λ n. IsVerdict (Contains (rules_for desk n)) audience day judged.file judged.verdict) (sym accession)
        (subst (λ a. IsVerdict (Contains (rules_for desk is.accession)) a day judged.file judged.verdict) who is.decided) in
        let sound : IsSoundSlot lends.image.kind lends.image.bytes slot = sound_slot desk day badge acc slot judged lends.image is accepted lends.standing in
        let here : AreReadOf lends.image (rules_for desk acc) audience day lent.file (bytes_lent lent) = record {
          label = label;
          described = lends.described;
          decided = subst (λ (f : Found). IsVerdict (Contains (rules_for desk acc)) audience day f (record { effect = Read; label = label })) file
              (subst (λ (v : Verdict). IsVerdict (Contains (rules_for desk acc)) audience day judged.file v) verdict decided);
          sound = subst (IsSoundSlot lends.image.kind lends.image.bytes) (sym lends.at_slot) sound;
          are = subst (λ k. AreBytesOf lends.image.kind lends.image.bytes k (bytes_lent lent)) (sym lends.at_slot) lends.are;
        } in
        let row = stands desk other audience day same acc lends.image lends.standing in
        let there : AreReadOf row.0 (rules_for other acc) audience day lent.file (bytes_lent lent) =
        shown_too desk other audience day same acc lends.image row.0 lends.standing row.1 (HasBytes lent.file (bytes_lent lent)) here in
        lent_there other acc row.0 (rules_for other acc) audience day slot lent row.1 there (lends.kind ∙ row.2) lends.at_slot

  module _ (badge : Option (List ℕ)) (caller : audience_of desk badge ≡ Some audience) (file twin : Option JudgedFile) (both : BothListed file twin) (answer : Response) where
    abbrev Asks : What → Request
    Asks what = record { badge = badge; what = what }

    abbrev TellsToo : What → Type 0
    TellsToo what = (same : Response) × ReadsTheSame (reply_of answer) (reply_of same) × Tells other audience day twin same what

    tells_too : (what : What) → ¬ IsForStaff what → IsAsked desk day (Asks what) file → IsAccepted desk (Asks what) file
        → Tells desk audience day file answer what → TellsToo what
    tells_too Images question asked accepted tells =
        let described = told_images desk audience day file answer tells in
        (response.Images described.0, text_read answer (response.Images described.0) (ap reply_of described.1), images_too described.0 described.2)
    tells_too (Listing acc) question asked accepted tells =
        let described = told_listing desk audience day file acc answer tells in
        let there = listing_too desk other audience day same acc described.0 described.2 in (
          response.Listed there.0,
          text_read answer (response.Listed there.0) (ap reply_of described.1 ∙ ap (in_json 200) (same_listing described.0 there.0 (sym there.2))),
          there.1,
        )
    tells_too (Bytes acc slot) question asked accepted tells =
        let described = told_bytes desk audience day file acc slot answer tells in
        let there = file_too badge caller acc slot file described.0 asked accepted described.2 described.3 in
        let read = said_too (λ judged. judged.verdict.effect ≡ Read)
        (λ one too alike read. ap (λ (v : Verdict). v.effect) (sym alike.verdict) ∙ read) file twin both described.2 in
        (response.File there.0, contents_read answer described.0 there.0 described.1 there.1, (read, there.2))
    tells_too Catalogue question asked accepted tells =
        let described = told_catalogue desk audience day file answer tells in
        let there = listings_too described.0 described.2 in (
          response.Catalogue there.0,
          text_read answer (response.Catalogue there.0) (ap reply_of described.1 ∙ ap table (same_catalogue described.0 there.0 (sym there.2))),
          there.1,
        )
    tells_too what question asked accepted tells = absurd (question tt)

  module _ (request : Request) (of_caller : IsCallerOf desk request audience) (question : ¬ IsForStaff request.what) where
    done_too : (answer : Response) (new : Desk) → IsDone desk day request answer new → AnswersToo other day request answer
    done_too answer new done =
        let there = asked_too desk other audience day same request of_caller done.file done.asked in
        let both : BothListed done.file there.0 = accepted_listed desk other audience day same request question done.file there.0 there.2 done.accepted in
        let who : done.audience ≡ audience = same_caller desk other audience day same request of_caller done.audience done.caller in
        let caller : audience_of desk request.badge ≡ Some audience = done.caller ∙ ap Some who in
        let described = tells_too request.badge caller done.file there.0 both answer request.what question done.asked done.accepted
        (subst (λ a. Tells desk a day done.file answer request.what) who done.tells) in (
          described.0,
          described.1,
          done_answered other day request described.0 other (record {
            file = there.0;
            audience = audience;
            asked = there.1;
            caller = caller_there desk other audience day same request of_caller audience caller;
            accepted = accepted_too desk other audience day same request question done.file there.0 both done.accepted;
            tells = described.2;
            after = nothing_changes day request.what other question;
          }),
        )

    answered_too : (answer : Response) (new : Desk) → IsAnswered desk day request answer new → AnswersToo other day request answer
    answered_too (response.Refused refusal) new answered = (
      response.Refused refusal,
      reads_itself (reply_of (response.Refused refusal)),
      (refused_too desk other audience day same request question refusal of_caller answered.0, refl),
    )
    answered_too answer new done = done_too answer new done

-- ---- what is for the staff, from anyone else

module _ (desk other : Desk) (day : ℤ) (request : Request) (same : other.keys ≡ desk.keys) (command : IsForStaff request.what) (away : audience_of desk request.badge ≢ Some Staff) where
  key_there : audience_of desk request.badge ≡ audience_of other request.badge
  key_there = audience_too desk other request.badge (sym same)

  away_there : audience_of other request.badge ≢ Some Staff
  away_there staff = away (key_there ∙ staff)

  -- it is refused by the caller's key alone
  away_refused : (file : Option JudgedFile) (refusal : Refusal) → IsRefused desk request file refusal → IsRefused other request None refusal
  away_refused file UnknownKey is = record { holds = sym key_there ∙ is.holds; lowest = to_5 other request None }
  away_refused file StaffOnly is = record { holds = (command, away_there); lowest = known }
    where
      known : (lower : Refusal) → number_of lower < 6 → Holds other request None lower → ⊥
      known UnknownKey below h = is.lowest UnknownKey (omega arith) (key_there ∙ h)
      known lower below h = absurd (omega (arith, below))
  away_refused file refusal is = absurd (is.lowest StaffOnly (omega arith) (command, away))

  away_answered : (answer : Response) (new : Desk) → IsAnswered desk day request answer new → AnswersToo other day request answer
  away_answered (response.Refused refusal) new answered = (
    response.Refused refusal,
    reads_itself (reply_of (response.Refused refusal)),
    (record { file = None; asked = nothing_asked other day request command; refused = away_refused answered.0.file refusal answered.0.refused }, refl),
  )
  away_answered answer new done = absurd (done.accepted StaffOnly (command, away))

-- ---- any request but one of the staff

any_answered : (desk other : Desk) (audience : Audience) (day : ℤ) (request : Request) (answer : Response) (new : Desk) → ¬ IsOfStaff desk request → IsCallerOf desk request audience
    → ShowsTheSame desk audience day other → IsAnswered desk day request answer new → AnswersToo other day request answer
any_answered desk other audience day request answer new open_to_him caller same is = elim (is_for_staff request.what) [
  | inl command ↦ away_answered desk other day request same.keys command (λ staff. open_to_him (command, staff)) answer new is
  | inr question ↦ answered_too desk other audience day same request caller question answer new is
]

-- what is replied is replied in each desk that shows the same to the caller
pub shown_decides : WhatIsShownDecides
shown_decides desk other audience day request reply new open_to_him caller same is =
    let there = any_answered desk other audience day request is.answer new open_to_him caller same is.answered in (
      reply_of there.0,
      subst (λ described. ReadsTheSame described (reply_of there.0)) (sym is.written) there.1,
      record { answer = there.0; answered = there.2; written = refl },
    )

-- and so each answer tells what is shown
pub tells_what_is_shown : (desk : Desk) (day : ℤ) (request : Request) (reply : Reply) (new : Desk) → Answers desk day request reply new → TellsWhatIsShown desk day request reply
tells_what_is_shown desk day request reply new (inl answered) open_to_him audience other caller same =
    let there = shown_decides desk other audience day request reply new open_to_him caller same answered in (there.0, there.1, inl there.2)
tells_what_is_shown desk day request reply new (inr unavailable) open_to_him audience other caller same =
    (reply, reads_itself reply, inr (record { written = unavailable.written; after = refl }))
