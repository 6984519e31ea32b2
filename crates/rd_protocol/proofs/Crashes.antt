-- A crash that leaves a changed desk leaves that of an accepted request.
use Rattle.std.proofs.Common.{◌≡◌, ◌≢◌, ◌⊎◌, inl, inr, ℕ, ℤ, List, Option, Some, None, ap, nat_cmp, refl, sym, ◌∙◌}
use Rattle.std.specs.FinMap.{get}
use Rattle.rd_geometry.specs.declared.kind.Kind.{Kind}
use Rattle.rd_policy.specs.declared.audience.Audience.{Audience}
use Rattle.rd_policy.specs.declared.audience.Audience.TheVariants.{Staff}
use Rattle.rd_holdings.specs.Lawful.{IsLawful}
use Rattle.rd_holdings.specs.State.{Desk, Place, Terms, IsLastStaff, digest_cmp, place_cmp, place_of, put_or_kept, terms_of, with_key, with_rule, without_key, without_rule}
use Rattle.rd_holdings.specs.declared.rows.ImageRow.{ImageRow}
use Rattle.rd_holdings.proofs.Lawful.{others_left, others_stay}
use Rattle.rd_holdings.proofs.KeyOrders.{digest_order, number_order, place_order}
use Rattle.rd_protocol.specs.Judged.{Holds, IsAccepted, audience_of}
use Rattle.rd_protocol.specs.Replies.{carried_out, with_checked}
use Rattle.rd_protocol.specs.Requests.{IsForStaff}
use Rattle.rd_protocol.specs.declared.refusal.Refusal.TheVariants.{DigestDiffers}
use Rattle.rd_protocol.specs.declared.request.Request.{Request}
use Rattle.rd_protocol.specs.declared.request.What.{What}
use Rattle.rd_protocol.specs.declared.request.What.TheVariants.{Survey, Check, Deeds, Takedowns, Keys, Checks, Today, Verdicts, VerdictsOf, RehearseRule, RehearseDrop, PutImage, PutDeed, PutRule, DropRule, PutKey, DropKey, Unread}
use Rattle.rd_protocol.proofs.StaffRefusals.{command_accepted, has_accession, has_deed, not_none}
use Rattle.rd_holdings.proofs.Maps.{get_inserted, get_removed, remove_kept}

-- where a lawful desk is left, a staff key is left
module _ (desk : Desk) (digest : List ℕ) where
  put_leaves_staff : (audience : Audience) → IsLawful (with_key digest audience desk) → audience ≢ Staff → ¬ IsLastStaff desk digest
  put_leaves_staff audience left other last =
      let apart : left.staff.0 ≢ digest = λ same. other (let there = get_inserted digest_cmp digest_order.total desk.keys digest audience in let here = left.staff.1 in cc) in
      last.1 (left.staff.0, apart, sym (others_stay digest_cmp digest_order desk.keys digest audience left.staff.0 apart) ∙ left.staff.1)

  drop_leaves_staff : IsLawful (without_key digest desk) → ¬ IsLastStaff desk digest
  drop_leaves_staff left last =
      let apart : left.staff.0 ≢ digest = λ same. let there = get_removed digest_cmp digest_order.total desk.keys digest in let here = left.staff.1 in cc in
      last.1 (left.staff.0, apart, sym (others_left digest_cmp digest_order desk.keys digest left.staff.0 apart) ∙ left.staff.1)

module _ (day : ℤ) (desk : Desk) (badge : Option (List ℕ)) (staff : audience_of desk badge ≡ Some Staff) (lawful : IsLawful desk) where
  abbrev asking : What → Request
  asking what = record { badge = badge; what = what }

  abbrev IsLeftAccepted : What → Type 0
  IsLeftAccepted what = ¬ Holds desk (asking what) None DigestDiffers → IsLawful (carried_out day what desk) → (carried_out day what desk ≡ desk) ⊎ IsAccepted desk (asking what) None

  left_image : (acc : ℕ) (kind : Kind) (deed : ℕ) (digest bytes : List ℕ) → IsLeftAccepted (PutImage acc kind deed digest bytes)
  left_image acc kind deed digest bytes same_digest = at (get desk.images acc) refl
    where
      image : ImageRow
      image = record { kind = kind; deed = deed; digest = digest; bytes = bytes }

      at : (found : Option ImageRow) → get desk.images acc ≡ found → IsLawful (put_or_kept found acc image desk)
          → (put_or_kept found acc image desk ≡ desk) ⊎ IsAccepted desk (asking (PutImage acc kind deed digest bytes)) None
      at (Some standing) is left = inl refl
      at None is left =
          let put = left.images acc image (get_inserted nat_cmp number_order.total desk.images acc image) in
          inr (command_accepted desk (asking (PutImage acc kind deed digest bytes)) tt (λ e. cc) staff
          (λ h. h) (not_none (get desk.deeds deed) put.1) (λ other. other put.0.bytes) same_digest (λ h. let there = h.1 in cc))

  left_drop : (place : Place) → IsLeftAccepted (DropRule place.band place.scope place.rank)
  left_drop place same_digest left = at (get desk.rules place) refl
    where
      at : (found : Option Terms) → get desk.rules place ≡ found
          → (without_rule place desk ≡ desk) ⊎ IsAccepted desk (asking (DropRule place.band place.scope place.rank)) None
      at None is = inl (ap (λ rules. record desk { rules = rules }) (remove_kept place_cmp place_order.total place_order.same desk.rules place is))
      at (Some terms) is =
          let stands = (lawful.rules place terms is).1 in
          inr (command_accepted desk (asking (DropRule place.band place.scope place.rank)) tt (λ e. cc) staff
          (has_accession desk place.scope place.band stands) (has_deed desk place.scope place.band stands) (λ h. h) same_digest (λ h. h))

  left_check : (acc : ℕ) → IsLeftAccepted (Check acc)
  left_check acc same_digest left = at (get desk.images acc) refl
    where
      at : (found : Option ImageRow) → get desk.images acc ≡ found → (with_checked found acc day desk ≡ desk) ⊎ IsAccepted desk (asking (Check acc)) None
      at None is = inl refl
      at (Some image) is =
          inr (command_accepted desk (asking (Check acc)) tt (λ e. cc) staff
          (λ none. let absent : get desk.images acc ≡ None = none in cc) (λ h. h) (λ h. h) same_digest (λ h. h))

  left_what : (what : What) → IsForStaff what → what ≢ Unread → IsLeftAccepted what
  left_what (Survey acc) command read same_digest left = inl refl
  left_what Deeds command read same_digest left = inl refl
  left_what Takedowns command read same_digest left = inl refl
  left_what Keys command read same_digest left = inl refl
  left_what Checks command read same_digest left = inl refl
  left_what Today command read same_digest left = inl refl
  left_what (Verdicts on) command read same_digest left = inl refl
  left_what (VerdictsOf on acc) command read same_digest left = inl refl
  left_what (RehearseRule on rule) command read same_digest left = inl refl
  left_what (RehearseDrop on band scope rank) command read same_digest left = inl refl
  left_what (Check acc) command read same_digest left = left_check acc same_digest left
  left_what (PutImage acc kind deed digest bytes) command read same_digest left = left_image acc kind deed digest bytes same_digest left
  left_what (PutDeed num donor signed) command read same_digest left =
      inr (command_accepted desk (asking (PutDeed num donor signed)) tt read staff (λ h. h) (λ h. h) (λ h. h) same_digest (λ h. h))
  left_what (PutRule rule) command read same_digest left =
      let stands = (left.rules (place_of rule) (terms_of rule) (get_inserted place_cmp place_order.total desk.rules (place_of rule) (terms_of rule))).1 in
      let after : Desk = with_rule (place_of rule) (terms_of rule) desk in
      inr (command_accepted desk (asking (PutRule rule)) tt read staff
      (has_accession after rule.scope rule.band stands) (has_deed after rule.scope rule.band stands) (λ h. h) same_digest (λ h. h))
  left_what (DropRule band scope rank) command read same_digest left = left_drop (record { band = band; scope = scope; rank = rank }) same_digest left
  left_what (PutKey digest audience) command read same_digest left =
      inr (command_accepted desk (asking (PutKey digest audience)) tt read staff (λ h. h) (λ h. h) (λ h. h) same_digest
      (λ h. put_leaves_staff desk digest audience left h.0 h.1))
  left_what (DropKey digest) command read same_digest left =
      inr (command_accepted desk (asking (DropKey digest)) tt read staff (λ h. h) (λ h. h) (λ h. h) same_digest (drop_leaves_staff desk digest left))
  left_what Unread command read same_digest left = absurd (read refl)
  left_what question command read same_digest left = absurd command

-- a request of the staff that leaves another lawful desk is accepted
pub left_accepted : (day : ℤ) (desk : Desk) (request : Request) → IsForStaff request.what → (request.what ≡ Unread → ⊥) → audience_of desk request.badge ≡ Some Staff
    → (Holds desk request None DigestDiffers → ⊥) → IsLawful desk → IsLawful (carried_out day request.what desk)
    → (carried_out day request.what desk ≡ desk) ⊎ IsAccepted desk request None
left_accepted day desk request command read staff same_digest lawful left = left_what day desk request.badge staff lawful request.what command read same_digest left
