-- The commands keep a desk lawful.
use Rattle.std.proofs.Common.{◌≡◌, ◌≢◌, ◌⊎◌, inl, inr, ℕ, ℤ, List, Bool, true, false, cond, Option, Some, None, IsSome, refl, sym, ap, subst, ◌∙◌, Ordering, Less, Equal, Greater, is_eq, true≢false, nat_cmp}
use Rattle.std.specs.Ordering.{eq_by_cmp}
use Rattle.std.specs.FinMap.{FinMap, get, insert, remove, get-insert, get-remove}
use Rattle.std.proofs.lemmas.Bool.{cases_Bool}
use Rattle.rd_policy.specs.Days.{IsDay}
use Rattle.rd_policy.specs.Rules.{IsRule}
use Rattle.rd_policy.specs.declared.audience.Audience.{Audience}
use Rattle.rd_policy.specs.declared.audience.Audience.TheVariants.{Staff}
use Rattle.rd_policy.specs.declared.rule.Band.{Band}
use Rattle.rd_policy.specs.declared.rule.Band.TheVariants.{Takedown, Deed}
use Rattle.rd_holdings.specs.declared.rows.DeedRow.{DeedRow}
use Rattle.rd_holdings.specs.declared.rows.ImageRow.{ImageRow}
use Rattle.rd_holdings.specs.declared.rows.Outcome.{Outcome}
use Rattle.rd_holdings.specs.State.{Desk, Place, Terms, Checkup, rule_of, place_cmp, digest_cmp, checkup_cmp, put_or_kept, Stands, IsStaff, HasOtherStaff, with_deed, with_image, with_rule, without_rule, with_check, with_key, without_key}
use Rattle.rd_holdings.specs.Lawful.{IsLawful, IsDeed, IsImage, IsKey}
use Rattle.rd_holdings.proofs.KeyOrders.{number_order, place_order, checkup_order, digest_order}
use Rattle.rd_holdings.proofs.Members.{IsKeyOrder}
use Rattle.rd_holdings.proofs.Maps.{get_inserted}

-- ---- maps

module _ {K X : Type 0} (cmp : K → K → Ordering) (order : IsKeyOrder cmp) (m : FinMap cmp X) where
  tied : (o : Ordering) → is_eq o ≡ true → o ≡ Equal
  tied Equal e = refl
  tied Less e = absurd (true≢false (sym e))
  tied Greater e = absurd (true≢false (sym e))

  -- what is found after a put is what was put, or was there
  pub found_after : (k : K) (v : X) (q : K) (x : X) → get (insert m k v) q ≡ Some x → ((q ≡ k) × (v ≡ x)) ⊎ (get m q ≡ Some x)
  found_after k v q x is = elim (cases_Bool (eq_by_cmp cmp q k)) [
    | inl same ↦ inl (order.same q k (tied (cmp q k) same), let e : cond (eq_by_cmp cmp q k) (Some v) (get m q) ≡ Some x = sym (get-insert order.total m k v q) ∙ is in let f = rw same at e in cc)
    | inr other ↦ inr (let e : cond (eq_by_cmp cmp q k) (Some v) (get m q) ≡ Some x = sym (get-insert order.total m k v q) ∙ is in rw other at e)
  ]

  -- what was there is there
  pub still_some : (k : K) (v : X) (q : K) → IsSome (get m q) → IsSome (get (insert m k v) q)
  still_some k v q some = subst IsSome (sym (get-insert order.total m k v q)) (go (eq_by_cmp cmp q k))
    where
      go : (b : Bool) → IsSome (cond b (Some v) (get m q))
      go true = refl
      go false = some

  -- another entry stays
  pub others_stay : (k : K) (v : X) (q : K) → (q ≢ k) → get (insert m k v) q ≡ get m q
  others_stay k v q other = get-insert order.total m k v q ∙ elim (cases_Bool (eq_by_cmp cmp q k)) [
    | inl same ↦ absurd (other (order.same q k (tied (cmp q k) same)))
    | inr apart ↦ rw apart refl
  ]

  -- what is found after a drop was there
  pub found_before : (k q : K) (x : X) → get (remove m k) q ≡ Some x → get m q ≡ Some x
  found_before k q x is = go (eq_by_cmp cmp q k) (sym (get-remove order.total m k q) ∙ is)
    where
      go : (b : Bool) → cond b None (get m q) ≡ Some x → get m q ≡ Some x
      go true e = absurd cc
      go false e = e

  pub others_left : (k q : K) → (q ≢ k) → get (remove m k) q ≡ get m q
  others_left k q other = get-remove order.total m k q ∙ elim (cases_Bool (eq_by_cmp cmp q k)) [
    | inl same ↦ absurd (other (order.same q k (tied (cmp q k) same)))
    | inr apart ↦ rw apart refl
  ]

-- ---- deeds

pub lawful_deed : (num : ℕ) (deed : DeedRow) (desk : Desk) → IsDeed num deed → IsLawful desk → IsLawful (with_deed num deed desk)
lawful_deed num deed desk is lawful = record {
  deeds = λ n d found. elim (found_after nat_cmp number_order desk.deeds num deed n d found) [
    | inl new ↦ subst (λ x. IsDeed x d) (sym new.0) (subst (IsDeed num) new.1 is)
    | inr was ↦ lawful.deeds n d was
  ];
  images = λ acc image found. let it = lawful.images acc image found in (it.0, still_some nat_cmp number_order desk.deeds num deed image.deed it.1);
  rules = λ place terms found. let it = lawful.rules place terms found in (it.0, stands place.band place.scope it.1);
  keys = lawful.keys;
  staff = lawful.staff;
  checks = lawful.checks;
}
  where
    stands : (band : Band) (scope : ℕ) → Stands desk band scope → Stands (with_deed num deed desk) band scope
    stands Takedown scope some = some
    stands Deed scope some = still_some nat_cmp number_order desk.deeds num deed scope some

-- ---- images

module _ (acc : ℕ) (image : ImageRow) (desk : Desk) (is : IsImage acc image) (deed : IsSome (get desk.deeds image.deed)) (lawful : IsLawful desk) where
  stands_too : (band : Band) (scope : ℕ) → Stands desk band scope → Stands (record desk { images = insert desk.images acc image }) band scope
  stands_too Takedown scope some = still_some nat_cmp number_order desk.images acc image scope some
  stands_too Deed scope some = some

  pub lawful_insert : IsLawful (record desk { images = insert desk.images acc image })
  lawful_insert = record {
    deeds = lawful.deeds;
    images = λ n other found. elim (found_after nat_cmp number_order desk.images acc image n other found) [
      | inl new ↦ (subst (λ x. IsImage x other) (sym new.0) (subst (IsImage acc) new.1 is), subst (λ (i : ImageRow). IsSome (get desk.deeds i.deed)) new.1 deed)
      | inr was ↦ lawful.images n other was
    ];
    rules = λ place terms found. let it = lawful.rules place terms found in (it.0, stands_too place.band place.scope it.1);
    keys = lawful.keys;
    staff = lawful.staff;
    checks = λ checkup outcome found. let it = lawful.checks checkup outcome found in (it.0, still_some nat_cmp number_order desk.images acc image checkup.acc it.1);
  }

  pub lawful_image : IsLawful (with_image acc image desk)
  lawful_image = go (get desk.images acc)
    where
      go : (found : Option ImageRow) → IsLawful (put_or_kept found acc image desk)
      go None = lawful_insert
      go (Some standing) = lawful

-- ---- rules

pub lawful_rule : (place : Place) (terms : Terms) (desk : Desk) → IsRule (rule_of (place, terms)) → Stands desk place.band place.scope → IsLawful desk → IsLawful (with_rule place terms desk)
lawful_rule place terms desk is stands lawful = record {
  deeds = lawful.deeds;
  images = lawful.images;
  rules = λ p t found. elim (found_after place_cmp place_order desk.rules place terms p t found) [
    | inl new ↦ subst (λ x. IsRule (rule_of (x, t)) × Stands desk x.band x.scope) (sym new.0) (subst (λ y. IsRule (rule_of (place, y)) × Stands desk place.band place.scope) new.1 (is, stands))
    | inr was ↦ lawful.rules p t was
  ];
  keys = lawful.keys;
  staff = lawful.staff;
  checks = lawful.checks;
}

pub lawful_no_rule : (place : Place) (desk : Desk) → IsLawful desk → IsLawful (without_rule place desk)
lawful_no_rule place desk lawful = record {
  deeds = lawful.deeds;
  images = lawful.images;
  rules = λ p t found. lawful.rules p t (found_before place_cmp place_order desk.rules place p t found);
  keys = lawful.keys;
  staff = lawful.staff;
  checks = lawful.checks;
}

-- ---- checks

pub lawful_check : (acc : ℕ) (day : ℤ) (outcome : Outcome) (desk : Desk) → IsDay day → IsSome (get desk.images acc) → IsLawful desk → IsLawful (with_check acc day outcome desk)
lawful_check acc day outcome desk is stands lawful = record {
  deeds = lawful.deeds;
  images = lawful.images;
  rules = lawful.rules;
  keys = lawful.keys;
  staff = lawful.staff;
  checks = λ checkup o found. elim (found_after checkup_cmp checkup_order desk.checks (record { acc = acc; day = day }) outcome checkup o found) [
    | inl new ↦ subst (λ (c : Checkup). IsDay c.day × IsSome (get desk.images c.acc)) (sym new.0) (is, stands)
    | inr was ↦ lawful.checks checkup o was
  ];
}

-- ---- desk keys

module _ (digest : List ℕ) (desk : Desk) (lawful : IsLawful desk) where
  pub lawful_key : (audience : Audience) → IsKey digest audience → (audience ≡ Staff) ⊎ HasOtherStaff desk digest → IsLawful (with_key digest audience desk)
  lawful_key audience is stays = record {
    deeds = lawful.deeds;
    images = lawful.images;
    rules = lawful.rules;
    keys = λ d a found. elim (found_after digest_cmp digest_order desk.keys digest audience d a found) [
      | inl new ↦ subst (λ x. IsKey x a) (sym new.0) (subst (IsKey digest) new.1 is)
      | inr was ↦ lawful.keys d a was
    ];
    staff = elim stays [
      | inl staff ↦ (digest, get_inserted digest_cmp digest_order.total desk.keys digest audience ∙ ap Some staff)
      | inr other ↦ (other.0, others_stay digest_cmp digest_order desk.keys digest audience other.0 other.1 ∙ other.2)
    ];
    checks = lawful.checks;
  }

  pub lawful_no_key : HasOtherStaff desk digest → IsLawful (without_key digest desk)
  lawful_no_key other = record {
    deeds = lawful.deeds;
    images = lawful.images;
    rules = lawful.rules;
    keys = λ d a found. lawful.keys d a (found_before digest_cmp digest_order desk.keys digest d a found);
    staff = (other.0, others_left digest_cmp digest_order desk.keys digest other.0 other.1 ∙ other.2);
    checks = lawful.checks;
  }

  -- where the key with this digest is not staff's, another is
  pub other_staff : ¬ IsStaff desk digest → HasOtherStaff desk digest
  other_staff none = (lawful.staff.0, (λ same. none (subst (IsStaff desk) same lawful.staff.1)), lawful.staff.1)
