-- Calls that change the desk, after a call that reads.
use Rattle.rd_store.proofs.Common.{◌≡◌, ◌⊎◌, ◌∙◌, Result, Ok, Err, OnOk, OnErr, ap, inl, subst, sym, Ghosts, Held, state, KeptImage, Desk, Changes, HoldsDesk, IsLeft, Keeps, Reads, desk, IsAmong, IsLastOf, Register, IsRegisterOf, register_of}
use Rattle.rd_store.proofs.KeptImages.{last_changes}
use Rattle.rd_tables.proofs.ConnectionLaws.{lasts_then}

-- a call that fails before it changes anything
pub unchanged : {S T X : Type 0} (g : Ghosts S) (old new : Held S) (after : Desk) (fault : X) → Keeps g old new → Changes {T = T} g old new after (Err fault)
unchanged g old new after fault keeps = record {
  lasts = keeps.lasts;
  ok = λ o. tt;
  err = keeps.same;
  ends_open = λ clean. tt;
  crash = λ was clean left may. inl (keeps.crash was clean left may);
  durable = keeps.durable;
}

module _ {S T U X Y : Type 0} (g : Ghosts S) (old new : Held S) (after : Desk) where
  -- it is done, whatever else it answers
  pub done_as : (value : T) (told : U) → Changes {X = X} g old new after (Ok value) → Changes {X = Y} g old new after (Ok told)
  done_as value told changes = record { lasts = changes.lasts; ok = changes.ok; err = λ o. tt; ends_open = changes.ends_open; crash = changes.crash; durable = changes.durable }

  -- it failed, whatever the fault
  pub failed_as : (fault : X) (told : Y) → Changes {T = T} g old new after (Err fault) → Changes {T = U} g old new after (Err told)
  failed_as fault told changes = record { lasts = changes.lasts; ok = λ o. tt; err = changes.err; ends_open = λ clean. tt; crash = changes.crash; durable = changes.durable }

-- a call that read, and then one that changes what it read
module _ {S A F : Type 0} (g : Ghosts S) (old mid at new : Held S) (same : at ≡ mid) (value : A) {Answers : A → Type 0} (reads : Reads {X = F} g old mid (Ok value) Answers) (after : Desk → Desk) where
  pub read_then : {T X : Type 0} (r : Result T X) → Changes g at new (after (desk g at)) r → Changes g old new (after (desk g old)) r
  read_then {T} {X} r changed =
      let changes : Changes g mid new (after (desk g mid)) r = subst (λ (h : Held S). Changes g h new (after (desk g h)) r) same changed in
      record {
        lasts = lasts_then g old mid new reads.keeps.lasts changes.lasts;
        ok = λ o. subst (λ (d : Desk). OnOk r (desk g new ≡ after d)) (reads.keeps.same (changes.lasts.was_open o)) (changes.ok o);
        err = λ o. subst (λ (d : Desk). OnErr r (desk g new ≡ d)) (reads.keeps.same (changes.lasts.was_open o)) (changes.err o);
        ends_open = changes.ends_open;
        crash = λ was clean left may.
            let opens = reads.ends_open (changes.lasts.clean clean) in
            subst (λ (d : Desk). IsLeft d left ⊎ IsLeft (after d) left) (reads.keeps.same opens) (changes.crash opens clean left may);
        durable = changes.durable;
      }

-- what a store keeps true, after a change that leaves all images
module _ {S T X : Type 0} (g : Ghosts S) (old new : Held S) (register : Register) (last : KeptImage) (after : Desk) (r : Result T X) (same : after.images ≡ (desk g old).images) (changes : Changes g old new after r) where
  listed_still : IsRegisterOf g old register → IsRegisterOf g new register
  listed_still was o = was (changes.lasts.was_open o) ∙ ap register_of (sym (both r (changes.ok o) (changes.err o)))
    where
      both : (q : Result T X) → OnOk q (desk g new ≡ after) → OnErr q (desk g new ≡ desk g old) → (desk g new).images ≡ (desk g old).images
      both (Ok value) ok err = ap (λ (d : Desk). d.images) ok ∙ same
      both (Err fault) ok err = ap (λ (d : Desk). d.images) err

  pub images_left : HoldsDesk (state g new) → HoldsDesk (state g old) × IsRegisterOf g old register × IsLastOf g old last → HoldsDesk (state g new) × IsRegisterOf g new register × IsLastOf g new last
  images_left holds was = (holds, listed_still was.1, last_changes g old new last after r changes (subst (IsAmong last) (sym same)) was.2)
