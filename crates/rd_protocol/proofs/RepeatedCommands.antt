-- What is for the staff carried out again.
use Rattle.std.proofs.Common.{◌≡◌, ℕ, ℤ, Option, Some, None, IsSomeAnd, ap, nat_cmp, refl, subst, sym, ◌∙◌}
use Rattle.std.specs.FinMap.{get}
use Rattle.rd_policy.specs.declared.audience.Audience.{Audience}
use Rattle.rd_holdings.specs.State.{Desk, HasOtherImage, digest_cmp, place_cmp, place_of, put_or_kept, terms_of, with_image}
use Rattle.rd_holdings.specs.declared.rows.ImageRow.{ImageRow}
use Rattle.rd_holdings.proofs.KeyOrders.{digest_order, number_order, place_order}
use Rattle.rd_protocol.specs.Judged.{Conflicts, IsAccepted, IsRefusedOn, JudgedFile, accession_of, audience_of, deed_of}
use Rattle.rd_protocol.specs.Laws.{SameAgain}
use Rattle.rd_protocol.specs.Replies.{IsAnswered, IsDone, Tells, carried_out}
use Rattle.rd_protocol.specs.Checks.{outcome_of}
use Rattle.rd_protocol.specs.Requests.{IsForStaff}
use Rattle.rd_protocol.specs.declared.refusal.Refusal.TheVariants.{UnknownKey, StaffOnly, BadBody, NoAccession, NoFile, NoDeed, WrongSize, DigestDiffers, Conflict}
use Rattle.rd_protocol.specs.declared.request.Request.{Request}
use Rattle.rd_protocol.specs.declared.request.What.{What}
use Rattle.rd_protocol.specs.declared.request.What.TheVariants.{Images, Listing, Bytes, Catalogue, Survey, Check, Deeds, Takedowns, Keys, Checks, Today, Verdicts, VerdictsOf, RehearseRule, RehearseDrop, PutImage, PutDeed, PutRule, DropRule, PutKey, DropKey}
use Rattle.rd_protocol.specs.declared.response.Response.{Response}
use Rattle.rd_protocol.specs.declared.response.Response.TheVariants as response
use Rattle.rd_protocol.proofs.StaffRefusals.{no_file}
use Rattle.rd_protocol.proofs.CheckLemmas.{checked_again, same_images}
use Rattle.rd_holdings.proofs.Maps.{get_inserted, get_removed, insert_again, remove_again}
use Rattle.rd_protocol.proofs.ReplyBodies.{told_done}

-- ---- an image

module _ (acc : ℕ) (image : ImageRow) (desk : Desk) where
  abbrev put : Option ImageRow → Desk
  put found = put_or_kept found acc image desk

  -- an image that is put stands
  image_again : (found : Option ImageRow) → get desk.images acc ≡ found → with_image acc image (put found) ≡ put found
  image_again None is = ap (λ stands. put_or_kept stands acc image (put None)) (get_inserted nat_cmp number_order.total desk.images acc image)
  image_again (Some standing) is = ap (λ stands. put_or_kept stands acc image desk) is

  image_stands : (found : Option ImageRow) → ¬ HasOtherImage desk acc image → ¬ HasOtherImage (put found) acc image
  image_stands None none other =
      let there = get_inserted nat_cmp number_order.total desk.images acc image in
      let stands = other.1 in
      let same : other.0 ≡ image = cc in
      other.2 (ap (λ (row : ImageRow). row.kind) same, ap (λ (row : ImageRow). row.deed) same, ap (λ (row : ImageRow). row.digest) same)
  image_stands (Some standing) none other = none other

  image_keeps_deeds : (found : Option ImageRow) → (put found).deeds ≡ desk.deeds
  image_keeps_deeds None = refl
  image_keeps_deeds (Some standing) = refl

-- ---- the desk

module _ (day : ℤ) where
  -- what is carried out twice is carried out once
  carried_again : (what : What) (desk : Desk) → carried_out day what (carried_out day what desk) ≡ carried_out day what desk
  carried_again (Check acc) desk = checked_again acc day desk
  carried_again (PutImage acc kind deed digest bytes) desk =
      image_again acc (record { kind = kind; deed = deed; digest = digest; bytes = bytes }) desk (get desk.images acc) refl
  carried_again (PutDeed num donor signed) desk =
      ap (λ deeds. record desk { deeds = deeds }) (insert_again nat_cmp number_order.total number_order.same desk.deeds num (record { donor = donor; signed = signed }))
  carried_again (PutRule rule) desk =
      ap (λ rules. record desk { rules = rules }) (insert_again place_cmp place_order.total place_order.same desk.rules (place_of rule) (terms_of rule))
  carried_again (DropRule band scope rank) desk =
      ap (λ rules. record desk { rules = rules }) (remove_again place_cmp place_order.total place_order.same desk.rules (record { band = band; scope = scope; rank = rank }))
  carried_again (PutKey digest audience) desk =
      ap (λ keys. record desk { keys = keys }) (insert_again digest_cmp digest_order.total digest_order.same desk.keys digest audience)
  carried_again (DropKey digest) desk =
      ap (λ keys. record desk { keys = keys }) (remove_again digest_cmp digest_order.total digest_order.same desk.keys digest)
  carried_again question desk = refl

  -- ---- refusals

  still_accession : (what : What) (desk : Desk) → IsSomeAnd (accession_of what) (λ acc. get (carried_out day what desk).images acc ≡ None)
      → IsSomeAnd (accession_of what) (λ acc. get desk.images acc ≡ None)
  still_accession (Check acc) desk none = ap (λ images. get images acc) (sym (same_images acc day desk (get desk.images acc))) ∙ none
  still_accession (PutImage acc kind deed digest bytes) desk none = none
  still_accession other desk none = none

  still_deed : (what : What) (desk : Desk) → IsSomeAnd (deed_of what) (λ num. get (carried_out day what desk).deeds num ≡ None)
      → IsSomeAnd (deed_of what) (λ num. get desk.deeds num ≡ None)
  still_deed (PutImage acc kind deed digest bytes) desk none =
      let same = image_keeps_deeds acc (record { kind = kind; deed = deed; digest = digest; bytes = bytes }) desk (get desk.images acc) in
      ap (λ deeds. get deeds deed) (sym same) ∙ none
  still_deed other desk none = none

  still_conflict : (what : What) (desk : Desk) → ¬ Conflicts desk what → ¬ Conflicts (carried_out day what desk) what
  still_conflict (PutImage acc kind deed digest bytes) desk none other =
      image_stands acc (record { kind = kind; deed = deed; digest = digest; bytes = bytes }) desk (get desk.images acc) none other
  still_conflict (PutKey digest audience) desk none last =
      last.0 (let there = get_inserted digest_cmp digest_order.total desk.keys digest audience in let staff = last.1.0 in cc)
  still_conflict (DropKey digest) desk none last = let there = get_removed digest_cmp digest_order.total desk.keys digest in let staff = last.0 in cc
  still_conflict other desk none conflict = conflict

  -- ---- what is told

  -- what is told of the desk as it was is told of it as it is
  told_again : (desk : Desk) (audience : Audience) (file : Option JudgedFile) (what : What) (answer : Response) → IsForStaff what
      → Tells desk audience day file answer what → Tells (carried_out day what desk) audience day None answer what
  told_again desk audience file Images answer command described = absurd command
  told_again desk audience file (Listing acc) answer command described = absurd command
  told_again desk audience file (Bytes acc slot) answer command described = absurd command
  told_again desk audience file Catalogue answer command described = absurd command
  told_again desk audience file (Survey acc) (response.Surveyed survey) command described = described
  told_again desk audience file (Survey acc) other command described = absurd described
  told_again desk audience file (Check acc) (response.Checked outcome) command described =
      subst (λ images. IsSomeAnd (get images acc) (λ image. outcome ≡ outcome_of image.bytes image.digest)) (sym (same_images acc day desk (get desk.images acc))) described
  told_again desk audience file (Check acc) other command described = absurd described
  told_again desk audience file Deeds (response.Deeds lines) command described = described
  told_again desk audience file Deeds other command described = absurd described
  told_again desk audience file Takedowns (response.Takedowns lines) command described = described
  told_again desk audience file Takedowns other command described = absurd described
  told_again desk audience file Keys (response.Keys lines) command described = described
  told_again desk audience file Keys other command described = absurd described
  told_again desk audience file Checks (response.Checks lines) command described = described
  told_again desk audience file Checks other command described = absurd described
  told_again desk audience file Today (response.Today told) command described = described
  told_again desk audience file Today other command described = absurd described
  told_again desk audience file (Verdicts on) (response.Verdicts all) command described = described
  told_again desk audience file (Verdicts on) other command described = absurd described
  told_again desk audience file (VerdictsOf on acc) (response.Verdicts all) command described = described
  told_again desk audience file (VerdictsOf on acc) other command described = absurd described
  told_again desk audience file (RehearseRule on rule) (response.Rehearsed differences) command described = described
  told_again desk audience file (RehearseRule on rule) other command described = absurd described
  told_again desk audience file (RehearseDrop on band scope rank) (response.Rehearsed differences) command described = described
  told_again desk audience file (RehearseDrop on band scope rank) other command described = absurd described
  told_again desk audience file what answer command described =
      subst (λ a. Tells (carried_out day what desk) audience day None a what) (sym (told_done desk audience day file answer what tt described)) tt

  module _ (desk : Desk) (request : Request) (command : IsForStaff request.what) (file : Option JudgedFile) (accepted : IsAccepted desk request file) where
    abbrev after : Desk
    after = carried_out day request.what desk

    -- an accepted request is accepted again where its caller's key stays
    accepted_again : audience_of after request.badge ≡ audience_of desk request.badge → IsAccepted after request None
    accepted_again stays UnknownKey h = accepted UnknownKey (sym stays ∙ h)
    accepted_again stays StaffOnly h = accepted StaffOnly (h.0, λ staff. h.1 (stays ∙ staff))
    accepted_again stays BadBody h = accepted BadBody h
    accepted_again stays NoAccession h = accepted NoAccession (still_accession request.what desk h)
    accepted_again stays NoFile h = rw (no_file request.what command) at h
    accepted_again stays NoDeed h = accepted NoDeed (still_deed request.what desk h)
    accepted_again stays WrongSize h = accepted WrongSize h
    accepted_again stays DigestDiffers h = accepted DigestDiffers h
    accepted_again stays Conflict h = still_conflict request.what desk (accepted Conflict) h
    accepted_again stays other h = h

    -- and it is done again
    done_again : (answer : Response) → audience_of after request.badge ≡ audience_of desk request.badge
        → (audience : Audience) → audience_of desk request.badge ≡ Some audience → Tells desk audience day file answer request.what
        → IsDone after day request answer after
    done_again answer stays audience caller described = record {
      file = None;
      audience = audience;
      asked = λ judged is. let none = no_file request.what command in let some = is.asked in cc;
      caller = stays ∙ caller;
      accepted = accepted_again stays;
      tells = told_again desk audience file request.what answer command described;
      after = sym (carried_again request.what desk);
    }

-- ---- answers and replies

-- what leaves its caller's key as it is has the same answer again
pub answered_again : (old : Desk) (day : ℤ) (request : Request) (answer : Response) (new : Desk) → IsForStaff request.what
    → audience_of new request.badge ≡ audience_of old request.badge → IsAnswered old day request answer new → IsAnswered new day request answer new
answered_again old day request (response.Refused refusal) new command stays refused = (subst (λ desk. IsRefusedOn desk day request refusal) (sym refused.1) refused.0, refl)
answered_again old day request answer new command stays done =
    subst (λ desk. IsDone desk day request answer desk) (sym done.after)
    (done_again day old request command done.file done.accepted answer
    (subst (λ desk. audience_of desk request.badge ≡ audience_of old request.badge) done.after stays) done.audience done.caller done.tells)

-- and the same reply
pub same_again : SameAgain
same_again old day request reply new command stays is =
    record { answer = is.answer; answered = answered_again old day request is.answer new command stays is.answered; written = is.written }
