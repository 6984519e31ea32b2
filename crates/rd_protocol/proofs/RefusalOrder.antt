-- One reason to refuse after the other is ruled out.
use Rattle.std.proofs.Common.{◌≡◌, ℕ, Option, Some, arith}
use Rattle.rd_policy.specs.declared.audience.Audience.{Audience}
use Rattle.rd_policy.specs.declared.audience.Audience.TheVariants.{Staff}
use Rattle.rd_policy.specs.declared.verdict.Label.{Label}
use Rattle.rd_geometry.specs.declared.kind.Kind.{Kind}
use Rattle.rd_holdings.specs.State.{Desk}
use Rattle.rd_protocol.specs.Judged.{JudgedFile, Holds, PassesTo, IsAccepted, audience_of}
use Rattle.rd_protocol.specs.Requests.{IsForStaff}
use Rattle.rd_protocol.specs.declared.refusal.Refusal.TheVariants.{UnknownKey, StaffOnly, BadBody, NoAccession, NoFile, NoDeed, Denied, ListedOnly, Faulty, WrongSize, DigestDiffers, Conflict}
use Rattle.rd_protocol.specs.declared.request.Request.{Request}
use Rattle.rd_protocol.specs.declared.request.What.TheVariants.{Unread}

module _ (desk : Desk) (request : Request) (file : Option JudgedFile) where
  -- none has a number below 5
  pub to_5 : PassesTo desk request file 5
  to_5 UnknownKey lt h = absurd (omega arith)
  to_5 other lt h = absurd (omega arith)

  pub to_6 : (audience : Audience) → audience_of desk request.badge ≡ Some audience → PassesTo desk request file 6
  to_6 audience is UnknownKey lt h = cc
  to_6 audience is other lt h = absurd (omega arith)

  pub to_7 : PassesTo desk request file 6 → (IsForStaff request.what → audience_of desk request.badge ≡ Some Staff) → PassesTo desk request file 7
  to_7 before known StaffOnly lt h = h.1 (known h.0)
  to_7 before known other lt h = before other (omega arith) h

  pub to_8 : PassesTo desk request file 7 → (request.what ≡ Unread → ⊥) → PassesTo desk request file 8
  to_8 before read BadBody lt h = read h
  to_8 before read other lt h = before other (omega arith) h

  pub to_9 : PassesTo desk request file 8 → (Holds desk request file NoAccession → ⊥) → PassesTo desk request file 9
  to_9 before none NoAccession lt h = none h
  to_9 before none other lt h = before other (omega arith) h

  pub to_10 : PassesTo desk request file 9 → (Holds desk request file NoFile → ⊥) → PassesTo desk request file 10
  to_10 before none NoFile lt h = none h
  to_10 before none other lt h = before other (omega arith) h

  pub to_11 : PassesTo desk request file 10 → (Holds desk request file NoDeed → ⊥) → PassesTo desk request file 11
  to_11 before none NoDeed lt h = none h
  to_11 before none other lt h = before other (omega arith) h

  pub to_12 : PassesTo desk request file 11 → ((label : Label) → Holds desk request file (Denied label) → ⊥) → PassesTo desk request file 12
  to_12 before none (Denied label) lt h = none label h
  to_12 before none other lt h = before other (omega arith) h

  pub to_13 : PassesTo desk request file 12 → (Holds desk request file ListedOnly → ⊥) → PassesTo desk request file 13
  to_13 before none ListedOnly lt h = none h
  to_13 before none other lt h = before other (omega arith) h

  pub to_14 : PassesTo desk request file 13 → ((kind : Kind) (faults : ℕ) → Holds desk request file (Faulty kind faults) → ⊥) → PassesTo desk request file 14
  to_14 before none (Faulty kind faults) lt h = none kind faults h
  to_14 before none other lt h = before other (omega arith) h

  pub to_15 : PassesTo desk request file 14 → (Holds desk request file WrongSize → ⊥) → PassesTo desk request file 15
  to_15 before none WrongSize lt h = none h
  to_15 before none other lt h = before other (omega arith) h

  pub to_16 : PassesTo desk request file 15 → (Holds desk request file DigestDiffers → ⊥) → PassesTo desk request file 16
  to_16 before none DigestDiffers lt h = none h
  to_16 before none other lt h = before other (omega arith) h

  pub accepted : PassesTo desk request file 16 → (Holds desk request file Conflict → ⊥) → IsAccepted desk request file
  accepted before none Conflict h = none h
  accepted before none other h = before other (omega arith) h
