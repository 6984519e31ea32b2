-- What is said of a file is what is said to the request for it.
use Rattle.std.proofs.Common.{◌≡◌, ℕ, ℤ, List, Option, Some, None, Result, Ok, Err, IfOk, Contains, IsSomeAnd, true, false, refl, sym, ap, subst, ◌∙◌}
use Rattle.std.specs.FinMap.{get}
use Rattle.rd_policy.specs.Verdicts.{IsVerdict}
use Rattle.rd_policy.specs.declared.audience.Audience.{Audience}
use Rattle.rd_policy.specs.declared.verdict.Verdict.{Verdict}
use Rattle.rd_volume.specs.Founds.{IsSoundFile}
use Rattle.rd_geometry.specs.declared.kind.Kind.{Kind}
use Rattle.rd_volume.specs.Volumes.{AreBytesOf, IsFound, IsSlotOfFile, contents_of}
use Rattle.rd_volume.specs.declared.found.Found.{Found}
use Rattle.rd_volume.proofs.FoundFile.{told_bytes, described_slot}
use Rattle.rd_holdings.specs.State.{Desk, rules_for}
use Rattle.rd_holdings.specs.declared.rows.ImageRow.{ImageRow}
use Rattle.rd_protocol.specs.Judged.{Conflicts, IsAccepted, IsAsked, IsJudgedFile, IsRefused, JudgedFile, PassesTo, accession_of, audience_of, deed_of, file_of, image_of}
use Rattle.rd_protocol.specs.Lent.{Lent}
use Rattle.rd_protocol.specs.Queries.{IsAtSlot, IsRead, IsWithheld, Standing}
use Rattle.rd_protocol.specs.Replies.{IsAnswered, LendsFile}
use Rattle.rd_protocol.specs.declared.refusal.Refusal.{Refusal}
use Rattle.rd_protocol.specs.declared.refusal.Refusal.TheVariants.{UnknownKey, StaffOnly, BadBody, NoAccession, NoFile, NoDeed, Denied, ListedOnly, Faulty, WrongSize, DigestDiffers, Conflict}
use Rattle.rd_protocol.specs.Requests.{IsForStaff}
use Rattle.rd_protocol.specs.declared.request.Request.{Request}
use Rattle.rd_protocol.specs.declared.request.What.{What}
use Rattle.rd_protocol.specs.declared.request.What.TheVariants.{Bytes, Catalogue, Images, Unread}
use Rattle.rd_protocol.specs.declared.response.Response.{Response}
use Rattle.rd_protocol.specs.declared.response.Response.TheVariants.{Refused, Done, Images as Told, Listed, File, Catalogue as Catalogued, Surveyed, Checked, Deeds, Takedowns, Keys, Checks, Today, Verdicts, Rehearsed}
use Rattle.rd_protocol.proofs.RefusalOrder.{to_6, to_7, to_8, to_9, to_10, to_11, to_12, to_13, to_14, to_15, to_16, accepted}

pub if_ok : {T X : Type 0} → (r : Result T X) → (P Q : T → Type 0) → ((value : T) → P value → Q value) → IfOk r P → IfOk r Q
if_ok (Ok value) P Q then h = then value h
if_ok (Err fault) P Q then h = tt

-- where a file stands in an image, with the verdict on it
at_slot : (standing : Standing) (audience : Audience) (day : ℤ) (file : Found) (verdict : Verdict)
    → IsFound standing.image.kind standing.image.bytes file → IsVerdict (Contains standing.rules) audience day file verdict → IsAtSlot standing audience day file.slot file verdict
at_slot standing audience day file verdict described decided = record { described = described; at_slot = refl; decided = decided }

-- a file that is withheld is told of by the reason
pub withheld_read : (standing : Standing) (kind : Kind) (audience : Audience) (day : ℤ) (file : Found) (refusal : Refusal) → kind ≡ standing.image.kind
    → IsFound standing.image.kind standing.image.bytes file → IsWithheld kind standing.rules audience day file (Some refusal) → IsRead standing audience day file.slot (Refused refusal)
withheld_read standing kind audience day file (Denied label) same described (verdict, decided, why) = (file, verdict, at_slot standing audience day file verdict described decided, why)
withheld_read standing kind audience day file ListedOnly same described (verdict, decided, why) = (file, verdict, at_slot standing audience day file verdict described decided, why)
withheld_read standing kind audience day file (Faulty other faults) same described (verdict, decided, why) =
    (file, verdict, at_slot standing audience day file verdict described decided, (why.0, why.1, why.2, why.3 ∙ same, why.4))
withheld_read standing kind audience day file UnknownKey same described (verdict, decided, why) = absurd why
withheld_read standing kind audience day file StaffOnly same described (verdict, decided, why) = absurd why
withheld_read standing kind audience day file BadBody same described (verdict, decided, why) = absurd why
withheld_read standing kind audience day file NoAccession same described (verdict, decided, why) = absurd why
withheld_read standing kind audience day file NoFile same described (verdict, decided, why) = absurd why
withheld_read standing kind audience day file NoDeed same described (verdict, decided, why) = absurd why
withheld_read standing kind audience day file WrongSize same described (verdict, decided, why) = absurd why
withheld_read standing kind audience day file DigestDiffers same described (verdict, decided, why) = absurd why
withheld_read standing kind audience day file Conflict same described (verdict, decided, why) = absurd why

-- and one that is not is told of by its contents
pub served_read : (standing : Standing) (kind : Kind) (audience : Audience) (day : ℤ) (file : Found) (lent : Lent)
    → IsFound standing.image.kind standing.image.bytes file → IsWithheld kind standing.rules audience day file None
    → lent ≡ record { kind = standing.image.kind; image = standing.image.bytes; file = file } → IsRead standing audience day file.slot (File lent)
served_read standing kind audience day file lent described (verdict, decided, why) is = (file, verdict, at_slot standing audience day file verdict described decided, (why.0, why.1, is))

first_of : Option (ℕ × ℕ) → ℕ
first_of None = 0
first_of (Some pair) = pair.0

second_of : Option (ℕ × ℕ) → ℕ
second_of None = 0
second_of (Some pair) = pair.1

same_pair : (a b c d : ℕ) → (let one : Option (ℕ × ℕ) = Some (a, b) in let other : Option (ℕ × ℕ) = Some (c, d) in one ≡ other) → (a ≡ c) × (b ≡ d)
unfolding first_of second_of
same_pair a b c d is = (ap first_of is, ap second_of is)

module _ (desk : Desk) (day : ℤ) (badge : Option (List ℕ)) (audience : Audience) (acc slot : ℕ) (holding : Standing) (caller : audience_of desk badge ≡ Some audience) (standing : get desk.images acc ≡ Some holding.image) (rules_are : holding.rules ≡ rules_for desk acc) where
  abbrev request : Request
  request = record { badge = badge; what = Bytes acc slot }

  abbrev Passes : Option JudgedFile → ℕ → Type 0
  Passes = PassesTo desk request

  before_9 : (file : Option JudgedFile) → Passes file 9
  before_9 file =
      to_9 desk request file (to_8 desk request file (to_7 desk request file (to_6 desk request file audience caller) (λ none. absurd none)) (λ is. cc))
      (λ none. let h : get desk.images acc ≡ None = none in cc)

  there : (file : Found) → IsFound holding.image.kind holding.image.bytes file → file.slot ≡ slot → IsSlotOfFile holding.image.kind holding.image.bytes slot
  there file described at = subst (IsSlotOfFile holding.image.kind holding.image.bytes) at (described_slot holding.image.kind holding.image.bytes file described)

  -- the slot of a file that is told is that of a file
  before_11 : (judged : Option JudgedFile) (file : Found) → IsFound holding.image.kind holding.image.bytes file → file.slot ≡ slot → Passes judged 11
  before_11 judged file described at =
      to_11 desk request judged
      (to_10 desk request judged (before_9 judged)
      (λ none. subst (λ o. IsSomeAnd o (λ image. IsSlotOfFile image.kind image.bytes slot → ⊥)) standing none (there file described at)))
      (λ none. none)

  module _ (file : Found) (verdict : Verdict) (is : IsAtSlot holding audience day slot file verdict) where
    abbrev judged : JudgedFile
    judged = record { kind = holding.image.kind; file = file; verdict = verdict }

    is_judged : IsJudgedFile desk day request judged
    is_judged = record {
      accession = acc;
      image = holding.image;
      audience = audience;
      asked = ap (λ s. Some (acc, s)) (sym is.at_slot);
      caller = caller;
      standing = standing;
      of_kind = refl;
      described = is.described;
      decided = subst (λ r. IsVerdict (Contains r) audience day file verdict) rules_are is.decided;
    }

    before_verdict : Passes (Some judged) 11
    before_verdict = before_11 (Some judged) file is.described is.at_slot

    given : (refusal : Refusal) → IsRefused desk request (Some judged) refusal → IsAnswered desk day request (Refused refusal) desk
    given refusal refused = (record { file = Some judged; asked = is_judged; refused = refused }, refl)

  -- the contents of a sound file are lent from its image
  lends : (file : Found) (verdict : Verdict) → IsAtSlot holding audience day slot file verdict → IsSoundFile file
      → LendsFile desk acc slot (record { kind = holding.image.kind; image = holding.image.bytes; file = file })
  lends file verdict is sound = record {
    image = holding.image;
    standing = standing;
    kind = refl;
    from_image = refl;
    at_slot = is.at_slot;
    described = is.described;
    are = subst (λ k. AreBytesOf holding.image.kind holding.image.bytes k (contents_of holding.image.kind holding.image.bytes file)) is.at_slot
        (told_bytes holding.image.kind holding.image.bytes file is.described sound);
  }

  same_image : (one other : ImageRow) → get desk.images acc ≡ Some one → get desk.images acc ≡ Some other → one ≡ other
  same_image one other a b = cc

  none_asked : (IsSlotOfFile holding.image.kind holding.image.bytes slot → ⊥) → (judged : JudgedFile) → IsJudgedFile desk day request judged → ⊥
  none_asked none judged asked =
      let both = same_pair acc slot asked.accession judged.file.slot asked.asked in
      let at : judged.file.slot ≡ slot = sym both.1 in
      let standing_there : get desk.images acc ≡ Some asked.image = subst (λ n. get desk.images n ≡ Some asked.image) (sym both.0) asked.standing in
      let same : asked.image ≡ holding.image = same_image asked.image holding.image standing_there standing in
      none (there judged.file (subst (λ (i : ImageRow). IsFound i.kind i.bytes judged.file) same asked.described) at)

  -- the answer to the request is what is said of its file
  pub read_answered : (answer : Response) → IsRead holding audience day slot answer → IsAnswered desk day (record { badge = badge; what = Bytes acc slot }) answer desk
  read_answered (Refused NoFile) none = (
    record {
      file = None;
      asked = none_asked none;
      refused = record {
        holds = subst (λ o. IsSomeAnd o (λ image. IsSlotOfFile image.kind image.bytes slot → ⊥)) (sym standing) none;
        lowest = before_9 None;
      };
    },
    refl,
  )
  read_answered (Refused (Denied label)) (file, verdict, is, denied) =
      given file verdict is (Denied label) (record { holds = denied; lowest = before_verdict file verdict is })
  read_answered (Refused ListedOnly) (file, verdict, is, (read, other)) =
      given file verdict is ListedOnly (record {
        holds = other;
        lowest = to_12 desk request (Some (judged file verdict is)) (before_verdict file verdict is) (λ label h. h.0 read);
      })
  read_answered (Refused (Faulty kind faults)) (file, verdict, is, (read, served, faulty, kind_is, faults_are)) =
      let asked = Some (judged file verdict is) in
      given file verdict is (Faulty kind faults) (record {
        holds = (faulty, sym kind_is, sym faults_are);
        lowest = to_13 desk request asked (to_12 desk request asked (before_verdict file verdict is) (λ label h. h.0 read)) (λ h. let e : file.served_class ≡ false = h in cc);
      })
  read_answered (File contents) (file, verdict, is, (read, sound, from)) =
      let asked = Some (judged file verdict is) in
      record {
        file = asked;
        audience = audience;
        asked = is_judged file verdict is;
        caller = caller;
        accepted = accepted desk request asked
            (to_16 desk request asked (to_15 desk request asked (to_14 desk request asked
            (to_13 desk request asked (to_12 desk request asked (before_verdict file verdict is) (λ label h. h.0 read))
            (λ h. let e : file.served_class ≡ false = h in let s : file.served_class ≡ true = sound.class in cc))
            (λ kind faults h. h.0 sound.sound)) (λ none. none)) (λ none. none)) (λ none. none);
        tells = (read, subst (LendsFile desk acc slot) (sym from) (lends file verdict is sound));
        after = refl;
      }
  read_answered (Refused UnknownKey) none = absurd none
  read_answered (Refused StaffOnly) none = absurd none
  read_answered (Refused BadBody) none = absurd none
  read_answered (Refused NoAccession) none = absurd none
  read_answered (Refused NoDeed) none = absurd none
  read_answered (Refused WrongSize) none = absurd none
  read_answered (Refused DigestDiffers) none = absurd none
  read_answered (Refused Conflict) none = absurd none
  read_answered Done none = absurd none
  read_answered (Told lines) none = absurd none
  read_answered (Listed listing) none = absurd none
  read_answered (Catalogued listings) none = absurd none
  read_answered (Surveyed survey) none = absurd none
  read_answered (Checked outcome) none = absurd none
  read_answered (Deeds lines) none = absurd none
  read_answered (Takedowns lines) none = absurd none
  read_answered (Keys lines) none = absurd none
  read_answered (Checks lines) none = absurd none
  read_answered (Today told) none = absurd none
  read_answered (Verdicts all) none = absurd none
  read_answered (Rehearsed differences) none = absurd none

-- A question that names nothing: no accession, file, deed or image.
pub record NamesNothing (what : What) : Type 0 where
  pub question : IsForStaff what → ⊥
  pub accession : accession_of what ≡ None
  pub file : file_of what ≡ None
  pub deed : deed_of what ≡ None
  pub image : image_of what ≡ None
  pub conflict : (desk : Desk) → Conflicts desk what → ⊥
  pub read : what ≡ Unread → ⊥

-- nothing stands in the way of a caller who is known and asks it
pub question_accepted : (desk : Desk) (badge : Option (List ℕ)) (audience : Audience) (what : What) → NamesNothing what → audience_of desk badge ≡ Some audience
    → IsAccepted desk (record { badge = badge; what = what }) None
question_accepted desk badge audience what names known UnknownKey h = cc
question_accepted desk badge audience what names known StaffOnly h = names.question h.0
question_accepted desk badge audience what names known BadBody h = names.read h
question_accepted desk badge audience what names known NoAccession h = rw names.accession at h
question_accepted desk badge audience what names known NoFile h = rw names.file at h
question_accepted desk badge audience what names known NoDeed h = rw names.deed at h
question_accepted desk badge audience what names known (Denied label) h = h
question_accepted desk badge audience what names known ListedOnly h = h
question_accepted desk badge audience what names known (Faulty kind faults) h = h
question_accepted desk badge audience what names known WrongSize h = rw names.image at h
question_accepted desk badge audience what names known DigestDiffers h = rw names.image at h
question_accepted desk badge audience what names known Conflict h = names.conflict desk h

-- and it asks for no file
pub question_asked : (desk : Desk) (day : ℤ) (badge : Option (List ℕ)) (what : What) → NamesNothing what → IsAsked desk day (record { badge = badge; what = what }) None
question_asked desk day badge what names judged asked = let none = names.file in let some = asked.asked in cc

pub images_name_nothing : NamesNothing Images
images_name_nothing = record { question = λ h. h; accession = refl; file = refl; deed = refl; image = refl; conflict = λ desk h. h; read = λ is. cc }

pub catalogue_names_nothing : NamesNothing Catalogue
catalogue_names_nothing = record { question = λ h. h; accession = refl; file = refl; deed = refl; image = refl; conflict = λ desk h. h; read = λ is. cc }
