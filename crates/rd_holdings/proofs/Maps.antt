-- What a finite map has after a put or a drop, and where these leave it as it is.
use Rattle.std.proofs.Common.{◌≡◌, Bool, true, false, cond, Option, Some, None, Ordering, Less, Equal, Greater, ap, is_eq, refl, sym, ◌∙◌}
use Rattle.std.specs.Cmp.{IsTotalOrder}
use Rattle.std.specs.FinMap.{FinMap, IsAntisymmetric, get, insert, remove, same_map, get-insert, get-remove}
use Rattle.std.specs.Ordering.{eq_by_cmp}
use Rattle.std.proofs.lemmas.Cmp.{eq_by_cmp_equiv}

pub tied : (order : Ordering) → is_eq order ≡ true → order ≡ Equal
tied Equal is = refl
tied Less is = absurd cc
tied Greater is = absurd cc

module _ {K X : Type 0} (cmp : K → K → Ordering) (total : IsTotalOrder cmp) (m : FinMap cmp X) (k : K) where
  pub get_inserted : (v : X) → get (insert m k v) k ≡ Some v
  get_inserted v = get-insert total m k v k ∙ rw ((eq_by_cmp_equiv total).refl k) refl

  pub get_removed : get (remove m k) k ≡ None
  get_removed = get-remove total m k k ∙ rw ((eq_by_cmp_equiv total).refl k) refl

module _ {K X : Type 0} (cmp : K → K → Ordering) (total : IsTotalOrder cmp) (same : IsAntisymmetric cmp) (m : FinMap cmp X) (k : K) where
  -- a map that differs at most at a key, and not there, is the same
  kept : (n : FinMap cmp X) (found : Option X) → get m k ≡ found → ((q : K) → get n q ≡ cond (eq_by_cmp cmp q k) found (get m q)) → n ≡ m
  kept n found is gets = same_map total same n m (λ q. gets q ∙ at q (eq_by_cmp cmp q k) refl)
    where
      at : (q : K) (b : Bool) → eq_by_cmp cmp q k ≡ b → cond b found (get m q) ≡ get m q
      at q true e = sym is ∙ ap (get m) (sym (same q k (tied (cmp q k) e)))
      at q false e = refl

  -- to put what stands changes nothing
  pub insert_kept : (v : X) → get m k ≡ Some v → insert m k v ≡ m
  insert_kept v is = kept (insert m k v) (Some v) is (get-insert total m k v)

  -- and so does to drop where nothing stands
  pub remove_kept : get m k ≡ None → remove m k ≡ m
  remove_kept is = kept (remove m k) None is (get-remove total m k)

-- to put twice is to put once, and to drop twice is to drop once
module _ {K X : Type 0} (cmp : K → K → Ordering) (total : IsTotalOrder cmp) (same : IsAntisymmetric cmp) (m : FinMap cmp X) (k : K) where
  pub insert_again : (v : X) → insert (insert m k v) k v ≡ insert m k v
  insert_again v = insert_kept cmp total same (insert m k v) k v (get_inserted cmp total m k v)

  pub remove_again : remove (remove m k) k ≡ remove m k
  remove_again = remove_kept cmp total same (remove m k) k (get_removed cmp total m k)
