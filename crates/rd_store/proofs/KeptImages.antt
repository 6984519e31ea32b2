-- What becomes of the image that is kept in memory.
use Rattle.rd_store.proofs.Common.{◌≡◌, ℕ, Option, Some, None, Result, Ok, Err, OnOk, OnErr, refl, sym, ap, subst, ◌∙◌, nat_cmp, FinMap, get, insert, Ghosts, Held, KeptImage, ImageRow, Desk, put_or_kept, with_image, Changes, desk, IsAmong, IsLastOf}
use Rattle.rd_store.specs.declared.image_cache.KeptImage.TheVariants.{Unasked, AskedFor, Kept}
use Rattle.rd_store.proofs.Maps.{others_stay}
use Rattle.rd_store.proofs.Orders.{number_order}

abbrev Images : Type 0
Images = FinMap nat_cmp ImageRow

-- an image that is put where none stands leaves the others
stands_still : (images : Images) (acc : ℕ) (image : ImageRow) (at : ℕ) (kept : ImageRow) → get images acc ≡ None → get images at ≡ Some kept → get (insert images acc image) at ≡ Some kept
stands_still images acc image at kept free is =
    others_stay nat_cmp number_order images acc image at (λ same. let wrong : None ≡ Some kept = sym free ∙ ap (get images) (sym same) ∙ is in cc) ∙ is

among_put : (d : Desk) (acc : ℕ) (image : ImageRow) (found : Option ImageRow) → get d.images acc ≡ found → (last : KeptImage) → IsAmong last d.images → IsAmong last (put_or_kept found acc image d).images
among_put d acc image found there Unasked is = tt
among_put d acc image found there (AskedFor at) is = tt
among_put d acc image None there (Kept at kept) is = stands_still d.images acc image at kept there is
among_put d acc image (Some standing) there (Kept at kept) is = is

module _ {S : Type 0} (g : Ghosts S) (old new : Held S) (last : KeptImage) where
  -- a change that leaves each image that stands
  pub last_changes : {T X : Type 0} (after : Desk) (r : Result T X) → Changes g old new after r → (IsAmong last (desk g old).images → IsAmong last after.images) → IsLastOf g old last → IsLastOf g new last
  last_changes {T} {X} after r changes leaves was o = both r (changes.ok o) (changes.err o)
    where
      both : (q : Result T X) → OnOk q (desk g new ≡ after) → OnErr q (desk g new ≡ desk g old) → IsAmong last (desk g new).images
      both (Ok value) ok err = subst (λ (d : Desk). IsAmong last d.images) (sym ok) (leaves (was (changes.lasts.was_open o)))
      both (Err fault) ok err = subst (λ (d : Desk). IsAmong last d.images) (sym err) (was (changes.lasts.was_open o))

  -- a put
  pub last_put : {T X : Type 0} (acc : ℕ) (image : ImageRow) (r : Result T X) → Changes g old new (with_image acc image (desk g old)) r → IsLastOf g old last → IsLastOf g new last
  last_put acc image r changes was = last_changes (with_image acc image (desk g old)) r changes (among_put (desk g old) acc image (get (desk g old).images acc) refl last) was
  -- ---- all that a store keeps true
