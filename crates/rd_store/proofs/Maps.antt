-- What a finite map has after a put, for keys in an order that lemmas of tables take.
use Rattle.rd_store.proofs.Common.{◌≡◌, ◌≢◌, ◌⊎◌, Some, Ordering, FinMap, get, insert, IsKeyOrder}
use Rattle.rd_holdings.proofs.Lawful.{found_after as found_of, others_stay as others_of}

module _ {K X : Type 0} (cmp : K → K → Ordering) (order : IsKeyOrder cmp) (m : FinMap cmp X) where
  pub found_after : (k : K) (v : X) (q : K) (x : X) → get (insert m k v) q ≡ Some x → ((q ≡ k) × (v ≡ x)) ⊎ (get m q ≡ Some x)
  found_after = found_of cmp (record { total = order.total; same = order.same }) m

  pub others_stay : (k : K) (v : X) (q : K) → (q ≢ k) → get (insert m k v) q ≡ get m q
  others_stay = others_of cmp (record { total = order.total; same = order.same }) m
