-- What a check finds, and what it makes of the desk.
use Rattle.std.proofs.Common.{◌≡◌, ◌∙◌, ℕ, ℤ, List, Bool, true, false, cond, Option, Some, None, ap, is_eq, refl, sym}
use Rattle.std.specs.FinMap.{get}
use Rattle.sha2.specs.Sha256.{sha256}
use Rattle.std.proofs.lemmas.Cmp.{eq_by_cmp_equiv}
use Rattle.rd_holdings.specs.State.{Desk, checkup_cmp, digest_cmp, with_check}
use Rattle.rd_holdings.specs.declared.rows.ImageRow.{ImageRow}
use Rattle.rd_holdings.specs.declared.rows.Outcome.TheVariants.{Sound, Changed}
use Rattle.rd_holdings.proofs.KeyOrders.{checkup_order, digest_order}
use Rattle.rd_protocol.specs.Checks.{outcome_of}
use Rattle.rd_protocol.specs.Replies.{carried_out, with_checked}
use Rattle.rd_protocol.specs.declared.request.What.TheVariants.{Check}
use Rattle.rd_holdings.proofs.Maps.{insert_again, tied}

-- ---- what it finds

pub found_sound : (bytes digest : List ℕ) → sha256 bytes ≡ digest → outcome_of bytes digest ≡ Sound
found_sound bytes digest same =
    ap (λ b. cond b Sound Changed) (ap (λ d. is_eq (digest_cmp (sha256 bytes) d)) (sym same) ∙ (eq_by_cmp_equiv digest_order.total).refl (sha256 bytes))

pub found_changed : (bytes digest : List ℕ) → (sha256 bytes ≡ digest → ⊥) → outcome_of bytes digest ≡ Changed
found_changed bytes digest other = by_test (is_eq (digest_cmp (sha256 bytes) digest)) refl
  where
    by_test : (b : Bool) → is_eq (digest_cmp (sha256 bytes) digest) ≡ b → cond b Sound Changed ≡ Changed
    by_test true is = absurd (other (digest_order.same (sha256 bytes) digest (tied (digest_cmp (sha256 bytes) digest) is)))
    by_test false is = refl

-- ---- what it makes of the desk

module _ (acc : ℕ) (day : ℤ) (desk : Desk) where
  -- the images stay
  pub same_images : (found : Option ImageRow) → (with_checked found acc day desk).images ≡ desk.images
  same_images None = refl
  same_images (Some image) = refl

  -- what is recorded of an image that stands
  pub recorded : (image : ImageRow) → get desk.images acc ≡ Some image
      → with_check acc day (outcome_of image.bytes image.digest) desk ≡ carried_out day (Check acc) desk
  recorded image standing = ap (λ found. with_checked found acc day desk) (sym standing)

  -- to check again is to check once
  check_again : (found : Option ImageRow) → get desk.images acc ≡ found
      → with_checked (get (with_checked found acc day desk).images acc) acc day (with_checked found acc day desk) ≡ with_checked found acc day desk
  check_again None is = ap (λ found. with_checked found acc day desk) is
  check_again (Some image) is =
      let outcome = outcome_of image.bytes image.digest in
      ap (λ found. with_checked found acc day (with_check acc day outcome desk)) is
      ∙ ap (λ checks. record desk { checks = checks }) (insert_again checkup_cmp checkup_order.total checkup_order.same desk.checks (record { acc = acc; day = day }) outcome)

  pub checked_again : carried_out day (Check acc) (carried_out day (Check acc) desk) ≡ carried_out day (Check acc) desk
  checked_again = check_again (get desk.images acc) refl
