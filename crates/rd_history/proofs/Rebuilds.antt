-- A store in which changes are carried out, one after the other.
use Rattle.std.proofs.Common.{◌≡◌, ◌≢◌, ◌∙◌, ◌<◌, ◌↔◌, ◌+◌, inl, inr, ℕ, zero, suc, Bool, true, false, true≢false, cond, Contains, MatchBool, Option, None, Some, OnOk, Result, Ok, Err, IsTrue, List, [], ◌∷◌, ◌++◌, ap, arith, append_assoc, append-nil, get_or, length, nat_cmp, option_map, refl, slice_index_or, subst, sym, take}
use Rattle.std.proofs.lemmas.List.{take_more}
use Rattle.std.specs.FinMap.{get, get-from_entries, get-insert, get-remove, insert, remove, same_map}
use Rattle.std.specs.Ordering.{eq_by_cmp}
use Rattle.sqlite.specs.Held.{Held}
use Rattle.sqlite.specs.Schema.{Schema}
use Rattle.sqlite.specs.Store.{Ghosts}
use Rattle.rd_policy.specs.declared.audience.Audience.{Audience}
use Rattle.rd_policy.specs.declared.audience.Audience.TheVariants.{Staff}
use Rattle.rd_tables.proofs.ConnectionLaws.{lasts_then}
use Rattle.rd_tables.specs.Connections.{Lasts}
use Rattle.rd_tables.specs.Schemas.{IsBlank, has_desk}
use Rattle.rd_holdings.proofs.KeyOrders.{digest_order, number_order}
use Rattle.rd_holdings.specs.State.{Desk, digest_cmp, place_of, put_or_kept as desk_with, terms_of, with_image}
use Rattle.rd_holdings.specs.declared.rows.ImageRow.{ImageRow}
use Rattle.rd_store.specs.Created.{IsCreated, IsNotCreated, new_desk}
use Rattle.rd_store.specs.Held.{Changes, IsClean, IsLeft, IsOpen, Keeps, desk as desk_of}
use Rattle.rd_history.specs.Rebuilt.{AreMissing, AreWhole, CarriesOut, GiveNoStaffKey, IsMissing, IsNotRebuilt, IsRebuilt, IsWhole}
use Rattle.rd_history.specs.Replayed.{standing_of, standing_with}
use Rattle.rd_history.specs.Settled.{StandsAs, deposit_of}
use Rattle.rd_history.specs.Standings.{Deposit, NOTHING, Standing, changed, put_or_kept}
use Rattle.rd_history.specs.declared.entry.Change.{Change}
use Rattle.rd_history.specs.declared.entry.Change.TheVariants.{Deed, DropKey, DropRule, Image, Key, Rule}
use Rattle.rd_store.specs.declared.faults.CreateFault.{CreateFault}
use Rattle.rd_store.specs.declared.faults.CreateFault.TheVariants.{Exists as Occupied, Sql as Unmade}
use Rattle.rd_history.specs.declared.rebuilding.RebuildFault.{RebuildFault}
use Rattle.rd_history.specs.declared.rebuilding.RebuildFault.TheVariants.{Exists, NoStaff}
use Rattle.rd_history.proofs.Carried.{image_carried}
use Rattle.rd_history.proofs.SoLemmas.{same_in}

-- ---- a key of the staff that stood before its put

module _ (k : List ℕ) where
  -- what stands is the same, but perhaps for a key
  record AgreeBut (one other : Standing) : Type 0 where
    deeds : one.deeds ≡ other.deeds
    images : one.images ≡ other.images
    rules : one.rules ≡ other.rules
    keys : (q : List ℕ) → eq_by_cmp digest_cmp q k ≡ false → get one.keys q ≡ get other.keys q

  agree_kept : (found : Option Deposit) (acc : ℕ) (deposit : Deposit) (one other : Standing) → AgreeBut one other → AgreeBut (put_or_kept found acc deposit one) (put_or_kept found acc deposit other)
  agree_kept None acc deposit one other agree = record { deeds = agree.deeds; images = ap (λ m. insert m acc deposit) agree.images; rules = agree.rules; keys = agree.keys }
  agree_kept (Some standing) acc deposit one other agree = agree

  agree_changed : (change : Change) (one other : Standing) → AgreeBut one other → AgreeBut (changed change one) (changed change other)
  agree_changed (Deed num donor signed) one other agree =
      record { deeds = ap (λ m. insert m num (record { donor = donor; signed = signed })) agree.deeds; images = agree.images; rules = agree.rules; keys = agree.keys }
  agree_changed (Image acc kind deed digest) one other agree =
      let deposit : Deposit = record { kind = kind; deed = deed; digest = digest } in
      subst (λ f. AgreeBut (put_or_kept (get one.images acc) acc deposit one) (put_or_kept f acc deposit other)) (ap (λ m. get m acc) agree.images)
      (agree_kept (get one.images acc) acc deposit one other agree)
  agree_changed (Rule rule) one other agree =
      record { deeds = agree.deeds; images = agree.images; rules = ap (λ m. insert m (place_of rule) (terms_of rule)) agree.rules; keys = agree.keys }
  agree_changed (DropRule band scope rank) one other agree =
      record { deeds = agree.deeds; images = agree.images; rules = ap (λ m. remove m (record { band = band; scope = scope; rank = rank })) agree.rules; keys = agree.keys }
  agree_changed (Key digest audience) one other agree = record {
    deeds = agree.deeds;
    images = agree.images;
    rules = agree.rules;
    keys = λ q apart.
        get-insert digest_order.total one.keys digest audience q
        ∙ ap (λ (found : Option Audience). cond (eq_by_cmp digest_cmp q digest) (Some audience) found) (agree.keys q apart)
        ∙ sym (get-insert digest_order.total other.keys digest audience q);
  }
  agree_changed (DropKey digest) one other agree = record {
    deeds = agree.deeds;
    images = agree.images;
    rules = agree.rules;
    keys = λ q apart.
        get-remove digest_order.total one.keys digest q
        ∙ ap (λ (found : Option Audience). cond (eq_by_cmp digest_cmp q digest) None found) (agree.keys q apart)
        ∙ sym (get-remove digest_order.total other.keys digest q);
  }
  agree_changed change one other agree = agree

  -- once the key is put, all is the same
  agree_put : (one other : Standing) → AgreeBut one other → changed (Key k Staff) one ≡ changed (Key k Staff) other
  agree_put one other agree = λ i. record { deeds = agree.deeds i; images = agree.images i; rules = agree.rules i; keys = keys i }
    where
      either : (q : List ℕ) (b : Bool) → eq_by_cmp digest_cmp q k ≡ b → cond b (Some Staff) (get one.keys q) ≡ cond b (Some Staff) (get other.keys q)
      either q true is = refl
      either q false is = agree.keys q is

      gets : (q : List ℕ) → get (insert one.keys k Staff) q ≡ get (insert other.keys k Staff) q
      gets q = get-insert digest_order.total one.keys k Staff q ∙ either q (eq_by_cmp digest_cmp q k) refl ∙ sym (get-insert digest_order.total other.keys k Staff q)

      keys : insert one.keys k Staff ≡ insert other.keys k Staff
      keys = same_map digest_order.total digest_order.same (insert one.keys k Staff) (insert other.keys k Staff) gets

  agree_with : (changes : List Change) (at : ℕ) (one other : Standing) → AgreeBut one other → at < length changes → slice_index_or changes at (Key k Staff) ≡ Key k Staff → standing_with one changes ≡ standing_with other changes
  agree_with [] at one other agree low is = absurd (omega (arith, low))
  agree_with (change ∷ changes) zero one other agree low is =
      ap (λ now. standing_with now changes) (subst (λ c. changed c one ≡ changed c other) (sym is) (agree_put one other agree))
  agree_with (change ∷ changes) (suc at) one other agree low is = agree_with changes at (changed change one) (changed change other) (agree_changed change one other agree) (omega (arith, low)) is

  pub key_first : (changes : List Change) → Contains changes (Key k Staff) → standing_with (changed (Key k Staff) NOTHING) changes ≡ standing_of changes
  key_first changes there = agree_with changes there.0 (changed (Key k Staff) NOTHING) NOTHING (record {
    deeds = refl;
    images = refl;
    rules = refl;
    keys = λ q apart. get-insert digest_order.total NOTHING.keys k Staff q ∙ ap (λ (b : Bool). cond b (Some Staff) (get NOTHING.keys q)) apart;
  }) there.1 there.2

  -- a new desk has it and nothing else
  pub new_stands : StandsAs (new_desk k) (changed (Key k Staff) NOTHING)
  new_stands = record {
    deeds = refl;
    images = λ acc. ap (option_map deposit_of) (get-from_entries number_order.total [] acc) ∙ sym (get-from_entries number_order.total [] acc);
    rules = refl;
    keys = refl;
  }

  pub new_whole : AreWhole (new_desk k)
  new_whole acc image is = absurd (let none : None ≡ Some image = sym (get-from_entries number_order.total [] acc) ∙ is in cc)

pub blank_no_desk : (schema : Schema) → IsBlank schema → has_desk schema ≡ false
blank_no_desk schema blank = rw (blank.tables, blank.views) refl

-- ---- one change

on_ok : {T X P Q : Type 0} (result : Result T X) → OnOk result P → (P → Q) → OnOk result Q
on_ok (Ok value) is then = then is
on_ok (Err fault) is then = tt

pub carries : {S T X : Type 0} (g : Ghosts S) (old new : Held S) (after : Desk) (change : Change) (result : Result T X) → Changes g old new after result
    → ((now : Standing) → StandsAs (desk_of g old) now → StandsAs after (changed change now)) → (AreWhole (desk_of g old) → AreWhole after) → CarriesOut g old new change result
carries g old new after change result changes stands whole = record {
  lasts = changes.lasts;
  stands = λ is_open now told. on_ok result (changes.ok is_open) (λ is. subst (λ (d : Desk). StandsAs d (changed change now)) (sym is) (stands now told));
  whole = λ is_open all. on_ok result (changes.ok is_open) (λ is. subst AreWhole (sym is) (whole all));
  ends_open = changes.ends_open;
}

pub whole_with : (desk : Desk) (acc : ℕ) (image : ImageRow) → IsWhole image → AreWhole desk → AreWhole (with_image acc image desk)
whole_with desk acc image is all = go (get desk.images acc)
  where
    either : (b : Bool) (q : ℕ) (row : ImageRow) → cond b (Some image) (get desk.images q) ≡ Some row → IsWhole row
    either true q row found = subst IsWhole (same_in image row found) is
    either false q row found = all q row found

    go : (found : Option ImageRow) → AreWhole (desk_with found acc image desk)
    go None q row found = either (eq_by_cmp nat_cmp q acc) q row (sym (get-insert number_order.total desk.images acc image q) ∙ found)
    go (Some standing) q row found = all q row found

module _ {S T X : Type 0} (g : Ghosts S) (old new : Held S) (result : Result T X) where
  pub image_put : (acc : ℕ) (image : ImageRow) → IsWhole image → Changes g old new (with_image acc image (desk_of g old)) result → CarriesOut g old new (Image acc image.kind image.deed image.digest) result
  image_put acc image whole changes =
      let desk = desk_of g old in
      carries g old new (with_image acc image desk) (Image acc image.kind image.deed image.digest) result changes
      (λ now told. image_carried desk now acc image (get desk.images acc) (get now.images acc) refl refl told) (whole_with desk acc image whole)

-- what was carried out, told in another way
pub carries_so : {S T U X Y : Type 0} (g : Ghosts S) (old new : Held S) (change : Change) (value : T) (told : U) → CarriesOut {X = X} g old new change (Ok value) → CarriesOut {X = Y} g old new change (Ok told)
carries_so g old new change value told carries = record { lasts = carries.lasts; stands = carries.stands; whole = carries.whole; ends_open = carries.ends_open }

-- ---- several changes

-- one call that reads after another
pub keeps_on : {S : Type 0} (g : Ghosts S) (a b c : Held S) → Keeps g a b → (IsOpen g a → IsClean g b → IsOpen g b) → Keeps g b c → Keeps g a c
keeps_on g a b c first opens next = record {
  lasts = lasts_then g a b c first.lasts next.lasts;
  same = λ is_open. next.same is_open ∙ first.same (next.lasts.was_open is_open);
  crash = λ was clean left may.
      let mid = opens was (next.lasts.clean clean) in
      subst (λ (d : Desk). IsLeft d left) (first.same mid) (next.crash mid clean left may);
  durable = next.durable;
}

pub standing_snoc : (now : Standing) (changes : List Change) (change : Change) → standing_with now (changes ++ change ∷ []) ≡ changed change (standing_with now changes)
standing_snoc now [] change = refl
standing_snoc now (first ∷ changes) change = standing_snoc (changed first now) changes change

pub missing_snoc : (desk : Desk) (changes : List Change) (change : Change) (missing more : List ℕ) → AreMissing desk changes missing → IsMissing desk change more → AreMissing desk (changes ++ change ∷ []) (missing ++ more)
missing_snoc desk [] change missing more none is = (more, [], is, refl, ap (λ l. l ++ more) none ∙ sym (append-nil more))
missing_snoc desk (first ∷ changes) change missing more are is =
    let rest = missing_snoc desk changes change are.1 more are.3 is in
    (are.0, are.1 ++ more, are.2, rest, ap (λ l. l ++ more) are.4 ∙ append_assoc are.0 are.1 more)

-- one change more of a list
pub one_more : (changes : List Change) (at : ℕ) (change : Change) → at < length changes → change ≡ get_or changes at change → take (at + 1) changes ≡ take at changes ++ change ∷ []
one_more changes at change low is = take_more changes at change low ∙ ap (λ one. take at changes ++ one ∷ []) (sym is)

-- ---- the whole

given : (changes : List Change) (staff : List ℕ) → Contains changes (Key staff Staff) → ¬ GiveNoStaffKey changes
given changes staff there none = none there.0 (Key staff Staff) there.1 (staff, there.2)

made_or_not : (has : Bool) (fault : CreateFault) → MatchBool has (fault ≡ Occupied) (fault ≡ Unmade) → (fault ≡ Occupied) ↔ IsTrue has
made_or_not true fault is = ((λ e. refl), (λ t. is))
made_or_not false fault is = ((λ e. absurd (let never : Occupied ≡ Unmade = sym e ∙ is in cc)), (λ t. absurd (true≢false (sym t))))

module _ {S : Type 0} (g : Ghosts S) (old : Held S) (staff : List ℕ) (changes : List Change) (there : Contains changes (Key staff Staff)) where
  -- no new desk was made
  pub not_made : (new : Held S) (why : CreateFault) (fault : RebuildFault) → IsNotCreated g old new staff why → (fault ≡ Exists) ↔ (why ≡ Occupied) → fault ≢ NoStaff → IsNotRebuilt g old new changes fault
  not_made new why fault refused exists named =
      let has = made_or_not (has_desk old.schema) why refused.exists in
      record {
        lasts = refused.lasts;
        no_staff = ((λ e. absurd (named e)), (λ none. absurd (given changes staff there none)));
        exists = ((λ e. (given changes staff there, has.0 (exists.0 e))), (λ both. exists.1 (has.1 both.1)));
        same = λ either. elim either [ inl e ↦ absurd (named e) | inr e ↦ refused.same (exists.0 e) ];
      }

  module _ (mid new : Held S) (created : IsCreated g old mid staff) (lasts : Lasts g mid new) where
    -- a change was not carried out
    pub not_carried : (fault : RebuildFault) → (fault ≢ NoStaff) × (fault ≢ Exists) → IsNotRebuilt g old new changes fault
    not_carried fault named = record {
      lasts = lasts_then g old mid new created.lasts lasts;
      no_staff = ((λ e. absurd (named.0 e)), (λ none. absurd (given changes staff there none)));
      exists = ((λ e. absurd (named.1 e)), (λ both. absurd (true≢false (sym both.1 ∙ blank_no_desk old.schema created.blank))));
      same = λ either. elim either [ inl e ↦ absurd (named.0 e) | inr e ↦ absurd (named.1 e) ];
    }

    -- all changes were carried out
    pub all_carried : (IsOpen g new → (now : Standing) → StandsAs (desk_of g mid) now → StandsAs (desk_of g new) (standing_with now changes)) → (IsOpen g new → AreWhole (desk_of g mid) → AreWhole (desk_of g new))
        → ((IsClean g mid → IsOpen g mid) → IsClean g new → IsOpen g new) → IsRebuilt g old new changes
    all_carried stands whole opens = record {
      lasts = lasts_then g old mid new created.lasts lasts;
      blank = created.blank;
      stands = λ is_open.
          let is = created.is (lasts.was_open is_open) in
          subst (StandsAs (desk_of g new)) (key_first staff changes there)
          (stands is_open (changed (Key staff Staff) NOTHING) (subst (λ (d : Desk). StandsAs d (changed (Key staff Staff) NOTHING)) (sym is) (new_stands staff)));
      whole = λ is_open. whole is_open (subst AreWhole (sym (created.is (lasts.was_open is_open))) (new_whole staff));
      ends_open = λ clean. opens (λ was. created.ends_open was) clean;
    }
