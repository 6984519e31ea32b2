-- Which refusals a request of the staff can have.
use Rattle.std.proofs.Common.{◌≡◌, ◌≢◌, ◌⊎◌, inl, inr, ℕ, Option, Some, None, IsSome, IsSomeAnd, is_some, false, ap, refl, ℤ}
use Rattle.std.specs.FinMap.{get}
use Rattle.rd_policy.specs.declared.audience.Audience.TheVariants.{Staff}
use Rattle.rd_policy.specs.declared.rule.Band.{Band}
use Rattle.rd_policy.specs.declared.rule.Band.TheVariants.{Takedown, Deed}
use Rattle.rd_holdings.specs.State.{Desk, Stands}
use Rattle.rd_protocol.specs.Judged.{Holds, IsAccepted, accession_at, audience_of, deed_at, file_of, IsAsked}
use Rattle.rd_protocol.specs.Requests.{IsForStaff}
use Rattle.rd_protocol.specs.declared.refusal.Refusal.{Refusal}
use Rattle.rd_protocol.specs.declared.refusal.Refusal.TheVariants.{UnknownKey, StaffOnly, BadBody, NoAccession, NoFile, NoDeed, WrongSize, DigestDiffers, Conflict}
use Rattle.rd_protocol.specs.declared.request.Request.{Request}
use Rattle.rd_protocol.specs.declared.request.What.{What}
use Rattle.rd_protocol.specs.declared.request.What.TheVariants.{Images, Listing, Bytes, Catalogue, Unread}

-- a request is for the staff, or it is a question
pub is_for_staff : (what : What) → IsForStaff what ⊎ (IsForStaff what → ⊥)
is_for_staff Images = inr (λ h. h)
is_for_staff (Listing acc) = inr (λ h. h)
is_for_staff (Bytes acc slot) = inr (λ h. h)
is_for_staff Catalogue = inr (λ h. h)
is_for_staff command = inl tt

-- what is for the staff asks for no file
pub no_file : (what : What) → IsForStaff what → file_of what ≡ None
no_file (Bytes acc slot) command = absurd command
no_file other command = refl

pub not_none : {A : Type 0} (found : Option A) → IsSome found → found ≢ None
not_none found some none = let e : is_some found ≡ false = ap is_some none in cc

-- what a rule names stands
module _ (desk : Desk) (scope : ℕ) where
  pub has_accession : (band : Band) → Stands desk band scope → ¬ IsSomeAnd (accession_at band scope) (λ acc. get desk.images acc ≡ None)
  has_accession Takedown stands none = not_none (get desk.images scope) stands none
  has_accession Deed stands none = none

  pub has_deed : (band : Band) → Stands desk band scope → ¬ IsSomeAnd (deed_at band scope) (λ num. get desk.deeds num ≡ None)
  has_deed Takedown stands none = none
  has_deed Deed stands none = not_none (get desk.deeds scope) stands none

module _ (desk : Desk) (request : Request) (command : IsForStaff request.what) (read : request.what ≢ Unread) (staff : audience_of desk request.badge ≡ Some Staff) where
  abbrev Passes : Refusal → Type 0
  Passes refusal = ¬ Holds desk request None refusal

  -- a request of the staff that could be read is accepted where none of these holds
  pub command_accepted : Passes NoAccession → Passes NoDeed → Passes WrongSize → Passes DigestDiffers → Passes Conflict → IsAccepted desk request None
  command_accepted accession deed size digest conflict UnknownKey h = cc
  command_accepted accession deed size digest conflict StaffOnly h = h.1 staff
  command_accepted accession deed size digest conflict BadBody h = read h
  command_accepted accession deed size digest conflict NoAccession h = accession h
  command_accepted accession deed size digest conflict NoFile h = rw (no_file request.what command) at h
  command_accepted accession deed size digest conflict NoDeed h = deed h
  command_accepted accession deed size digest conflict WrongSize h = size h
  command_accepted accession deed size digest conflict DigestDiffers h = digest h
  command_accepted accession deed size digest conflict Conflict h = conflict h
  command_accepted accession deed size digest conflict other h = h

-- what is for the staff asks for no file
pub nothing_asked : (old : Desk) (day : ℤ) (request : Request) → IsForStaff request.what → IsAsked old day request None
nothing_asked old day request command judged asked = let none = no_file request.what command in let some = asked.asked in cc

pub is_unread : (what : What) → (what ≡ Unread) ⊎ (what ≡ Unread → ⊥)
is_unread Unread = inl refl
is_unread other = inr (λ is. cc)
