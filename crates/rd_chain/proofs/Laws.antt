-- What a crash leaves of a chain.
use Rattle.rd_chain.proofs.Common.{◌≡◌, ◌∙◌, List, ℕ, sym, ap, subst, Trees, Ghosts, Database, Held, state, IsChain, IsChainOf, HoldsChain, IsAtRest, IsLeft, LeavesOnly, IsOpen, Keeps, Stays, false, lines, lines_of, refl}
use Rattle.rd_tables.proofs.ConnectionLaws.{Laws, lasts_still, lasts_then}
use Rattle.rd_tables.specs.Connections.{IsClean}

pub left_is : (these : List (List ℕ)) (db : Database) (left : Trees) → IsChainOf these db → left ≡ db.trees → IsLeft these left
left_is these db left h is = subst (IsChainOf these) (λ i. record { schema = h.schema i; trees = sym is i }) h

module _ {S : Type 0} (g : Ghosts S) (laws : Laws g) where
  pub leaves_only : (h : Held S) → HoldsChain (state g h) → IsOpen g h → LeavesOnly g h (lines g h)
  leaves_only h holds is_open left may =
      let at = holds is_open in
      left_is (lines g h) (state g h).now left at.holds (laws.settles h.store left is_open may ∙ ap (λ (db : Database). db.trees) at.settled)

  pub at_rest : (h : Held S) → HoldsChain (state g h) → IsAtRest g h
  at_rest h holds = record { chain = λ is_open. (holds is_open).holds; leaves = λ is_open. leaves_only h holds is_open }

module _ {S : Type 0} (g : Ghosts S) (old new : Held S) (stays : Stays g old new) where
  -- a query outside a transaction changes nothing
  pub keeps_of : (IsOpen g old → (state g old).in_transaction ≡ false) → Keeps g old new
  keeps_of outside = record {
    lasts = stays.lasts;
    untouched = λ is_open.
        let was = stays.lasts.was_open is_open in
        record { was_open = was; now = stays.now is_open; committed = stays.committed is_open; autocommit = stays.autocommit is_open ∙ sym (outside was) };
    crash = stays.quiet;
  }

  -- and the chain
  pub stays_chain : HoldsChain (state g old) → HoldsChain (state g new)
  stays_chain holds is_open =
      let was = holds (stays.lasts.was_open is_open) in
      record { settled = stays.committed is_open ∙ was.settled ∙ sym (stays.now is_open); autocommit = stays.autocommit is_open; holds = subst IsChain (sym (stays.now is_open)) was.holds }

-- ---- one call after another

pub keeps_still : {S : Type 0} (g : Ghosts S) (h : Held S) → Keeps g h h
keeps_still g h = record {
  lasts = lasts_still g h;
  untouched = λ is_open. record { was_open = is_open; now = refl; committed = refl; autocommit = refl };
  crash = λ was clean left may. may;
}

pub keeps_then : {S : Type 0} (g : Ghosts S) (a b c : Held S) → Keeps g a b → (IsOpen g a → IsClean g b → IsOpen g b) → Keeps g b c → Keeps g a c
keeps_then g a b c first opens next = record {
  lasts = lasts_then g a b c first.lasts next.lasts;
  untouched = λ is_open.
      let two = next.untouched is_open in
      let one = first.untouched two.was_open in
      record { was_open = one.was_open; now = two.now ∙ one.now; committed = two.committed ∙ one.committed; autocommit = two.autocommit ∙ one.autocommit };
  crash = λ was clean left may.
      let early = next.lasts.clean clean in
      first.crash was early left (next.crash (opens was early) clean left may);
}

-- what shows the database that it showed has the lines that it had
pub lines_kept : {S : Type 0} (g : Ghosts S) (a b : Held S) → Keeps g a b → IsOpen g b → lines g b ≡ lines g a
lines_kept g a b keeps is_open = ap (λ (db : Database). lines_of db.trees) (keeps.untouched is_open).now
