-- A transaction that puts an image and its files.
use Rattle.rd_store.proofs.Common.{◌≡◌, ◌⊎◌, ℕ, None, IsSome, OnOk, Result, Option, sym, subst, ap, get, Ghosts, Held, state, ImageRow, RestsIn, Turns, Changes, HoldsDesk, IsLeft, IsOf, IsOpen, LacksImage, desk, IsImage, Desk, put_or_kept, with_image, with_new_image, lawful_insert}
use Rattle.rd_store.proofs.StatementCalls.{LeavesDesk}
use Rattle.rd_tables.proofs.ConnectionLaws.{Laws}
use Rattle.rd_store.proofs.Transactions.{starts, changes}

-- the same change, told by a desk that is the same where the connection was open
pub changes_as : {S T X : Type 0} (g : Ghosts S) (old new : Held S) (after other : Desk) (r : Result T X) → (IsOpen g old → after ≡ other) → Changes g old new after r → Changes g old new other r
changes_as g old new after other r same h = record {
  lasts = h.lasts;
  ok = λ o. subst (λ (d : Desk). OnOk r (desk g new ≡ d)) (same (h.lasts.was_open o)) (h.ok o);
  err = h.err;
  ends_open = h.ends_open;
  crash = λ was clean left may. subst (λ (d : Desk). IsLeft (desk g old) left ⊎ IsLeft d left) (same was) (h.crash was clean left may);
  durable = h.durable;
}

module _ {S : Type 0} (g : Ghosts S) (laws : Laws g) (old : Held S) (holds : HoldsDesk (state g old)) (acc : ℕ) (image : ImageRow) (free : IsOpen g old → get (desk g old).images acc ≡ None) where
  pub lacks : IsOpen g old → RestsIn (LacksImage acc (desk g old)) (state g old)
  lacks was = let at = starts g old holds was in record { settled = at.settled; autocommit = at.autocommit; holds = (at.holds, free was) }

  pub deposited : {T X : Type 0} {last : Held S} (r : Result T X) → IsImage acc image → (IsOpen g old → IsSome (get (desk g old).deeds image.deed)) → Turns g old last (IsOf (with_new_image acc image (desk g old))) r → LeavesDesk g old last (with_image acc image (desk g old)) r
  deposited {last} r is deed turns =
      let all = changes g laws old last holds (λ was. lawful_insert acc image (desk g old) is (deed was)) r turns in
      record { kept = all.kept; changes = changes_as g old last (with_new_image acc image (desk g old)) (with_image acc image (desk g old)) r (λ was. sym (ap (λ (found : Option ImageRow). put_or_kept found acc image (desk g old)) (free was))) all.changes }
