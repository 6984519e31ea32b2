-- What a transaction makes of a chain.
use Rattle.rd_chain.proofs.Common.{◌≡◌, ◌++◌, ℕ, List, [], inl, inr, Result, Ok, Err, OnOk, OnErr, ap, subst, sym, Database, Ghosts, Held, state, Appends, HoldsChain, IsChain, IsChainOf, IsOpen, LeavesOldOrNew, RestsIn, Turns, lines, lines_of}
use Rattle.rd_tables.proofs.ConnectionLaws.{Laws}
use Rattle.rd_chain.proofs.Laws.{leaves_only, left_is}
use Rattle.rd_chain.proofs.LineLemmas.{lines_are}

-- a database is the chain of its lines, if it is that of any
pub chain_is : (these : List (List ℕ)) (db : Database) → IsChainOf these db → IsChain db × (lines_of db.trees ≡ these)
chain_is these db chain = let is = lines_are these db.trees chain.rows in (subst (λ l. IsChainOf l db) (sym is) chain, is)

-- ---- the chain after it

module _ {S : Type 0} (g : Ghosts S) (laws : Laws g) (old new : Held S) (these : List (List ℕ)) where
  pub rests : RestsIn (IsChainOf these) (state g new) → RestsIn IsChain (state g new) × (lines g new ≡ these)
  rests at = let it = chain_is these (state g new).now at.holds in (record { settled = at.settled; autocommit = at.autocommit; holds = it.0 }, it.1)

  -- what a crash leaves of the making
  pub made_or_old : {T X : Type 0} (r : Result T X) → Turns g old new (IsChainOf []) r → LeavesOldOrNew g old new
  made_or_old r turns was clean left may = elim (turns.crash was clean left may) [
    | inl before ↦ inl before
    | inr made ↦ inr (left_is [] made.0 left made.1 made.2)
  ]

module _ {S : Type 0} (g : Ghosts S) (laws : Laws g) (old new : Held S) (holds : HoldsChain (state g old)) (more : List (List ℕ)) where
  abbrev after : List (List ℕ)
  after = lines g old ++ more

  Ended : {T X : Type 0} → Result T X → Type 0
  Ended (Ok value) = lines g new ≡ after
  Ended (Err e) = lines g new ≡ lines g old

  rested : {T X : Type 0} (r : Result T X) → Turns g old new (IsChainOf after) r → IsOpen g new → RestsIn IsChain (state g new) × Ended r
  unfolding Ended
  rested (Ok value) turns is_open = rests g laws old new after (turns.ok is_open)
  rested (Err e) turns is_open =
      let at = turns.err is_open in
      let was = holds (turns.lasts.was_open is_open) in
      (record { settled = at.settled; autocommit = at.autocommit; holds = subst IsChain (sym at.holds) was.holds }, ap (λ (db : Database). lines_of db.trees) at.holds)

  done : {T X : Type 0} (r : Result T X) → Ended r → OnOk r (lines g new ≡ after)
  unfolding Ended
  done (Ok value) h = h
  done (Err e) h = tt

  left_as : {T X : Type 0} (r : Result T X) → Ended r → OnErr r (lines g new ≡ lines g old)
  unfolding Ended
  left_as (Ok value) h = tt
  left_as (Err e) h = h

  pub keeps_chain : {T X : Type 0} (r : Result T X) → Turns g old new (IsChainOf after) r → HoldsChain (state g new)
  keeps_chain r turns is_open = (rested r turns is_open).0

  pub appends : {T X : Type 0} (r : Result T X) → Turns g old new (IsChainOf after) r → Appends g old new more r
  appends r turns = record {
    lasts = turns.lasts;
    ok = λ is_open. done r (rested r turns is_open).1;
    err = λ is_open. left_as r (rested r turns is_open).1;
    ends_open = turns.ends_open;
    crash = λ was clean left may. elim (turns.crash was clean left may) [
      | inl before ↦ inl (leaves_only g laws old holds was left before)
      | inr made ↦ inr (left_is after made.0 left made.1 made.2)
    ];
    durable = λ is_open. leaves_only g laws new (keeps_chain r turns) is_open;
  }
