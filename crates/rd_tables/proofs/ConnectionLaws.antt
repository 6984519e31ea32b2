-- The laws of a store that are used, what they say of a connection, and one call after another.
use Rattle.rd_tables.proofs.Common.{◌≡◌, inl, inr, ◌∙◌, false, sym, ap, subst, IsTrue, refl, arith, Result, Trees, Database, Survives}
use Rattle.sqlite.specs.Held.{Held, state}
use Rattle.sqlite.specs.Store.{Ghosts}
use Rattle.sqlite.proofs.StateLemmas.{clean_if_open}
use Rattle.std.proofs.lemmas.Result.{IfOk-weaker}
use Rattle.rd_tables.specs.Connections.{Asks, IsClean, IsOpen, Lasts, LeavesOld, Stays}

pub record Laws {S : Type 0} (g : Ghosts S) : Type 0 where
  -- while the store is open, a crash leaves the last commit
  pub settles : (s : S) (trees : Trees) → IsTrue (g.view s).is_open → g.recovers s trees → trees ≡ (g.view s).committed
  -- an open store is clean
  pub shuts : (s : S) → (g.view s).is_clean ≡ false → (g.view s).is_open ≡ false

module _ {S : Type 0} (g : Ghosts S) (laws : Laws g) where
  pub clean_at : (h : Held S) → IsOpen g h → IsClean g h
  clean_at h is_open = clean_if_open (g.view h.store) (laws.shuts h.store) is_open

  -- where the last commit is what it was, a crash leaves what it left
  pub same_commit : ((s : S) → IsTrue (g.view s).is_open → g.recovers s (g.view s).committed) → (old new : Held S) → IsOpen g new → (state g new).committed ≡ (state g old).committed → LeavesOld g old new
  same_commit stays old new is_open same was clean left may =
      subst (g.recovers old.store) (sym (laws.settles new.store left is_open may ∙ ap (λ (db : Database). db.trees) same)) (stays old.store was)

-- ---- one call after another

pub lasts_of : {S : Type 0} (g : Ghosts S) (old new : Held S) (Commits : Trees → Type 0) → Survives (state g old) (state g new) Commits → (IsOpen g new → IsOpen g old) → Lasts g old new
lasts_of g old new Commits survives was = record {
  was_open = was;
  clean = λ clean. omega (arith, survives.clean, clean);
  faults = survives.counts;
  closes = λ is_open clean. survives.closes clean is_open;
  limit = survives.limit;
}

pub lasts_still : {S : Type 0} (g : Ghosts S) (h : Held S) → Lasts g h h
lasts_still g h = record { was_open = λ o. o; clean = λ clean. clean; faults = omega arith; closes = λ o clean. inl o; limit = refl }

pub lasts_then : {S : Type 0} (g : Ghosts S) (a b c : Held S) → Lasts g a b → Lasts g b c → Lasts g a c
lasts_then g a b c one two = record {
  was_open = λ o. one.was_open (two.was_open o);
  clean = λ clean. one.clean (two.clean clean);
  faults = omega (arith, one.faults, two.faults);
  closes = λ was clean. elim (one.closes was (two.clean clean)) [
    | inl still ↦ elim (two.closes still clean) [ inl last ↦ inl last | inr more ↦ inr (omega (arith, one.faults, more)) ]
    | inr more ↦ inr (omega (arith, two.faults, more))
  ];
  limit = two.limit ∙ one.limit;
}

-- no query at all
pub stays_here : {S : Type 0} (g : Ghosts S) (h : Held S) → (IsOpen g h → (state g h).in_transaction ≡ false) → Stays g h h
stays_here g h outside = record { lasts = lasts_still g h; now = λ o. refl; committed = λ o. refl; autocommit = outside; quiet = λ was clean left may. may }

-- one query after another
pub stays_then : {S : Type 0} (g : Ghosts S) (a b c : Held S) → Stays g a b → (IsClean g b → IsOpen g b) → Stays g b c → Stays g a c
stays_then g a b c first opens next = record {
  lasts = lasts_then g a b c first.lasts next.lasts;
  now = λ o. next.now o ∙ first.now (next.lasts.was_open o);
  committed = λ o. next.committed o ∙ first.committed (next.lasts.was_open o);
  autocommit = next.autocommit;
  quiet = λ was clean left may.
      let early = next.lasts.clean clean in
      first.quiet was early left (next.quiet (opens early) clean left may);
}

-- what a query answers, told in another way
pub asks_as : {S T X : Type 0} (g : Ghosts S) (old new : Held S) {P Q : T → Type 0} {r : Result T X} {only : X} → Asks g old new r only P → (IsOpen g new → (value : T) → P value → Q value) → Asks g old new r only Q
asks_as g old new {P} {Q} {r} asks told_so = record { stays = asks.stays; answer = λ o. IfOk-weaker r P Q (told_so o) (asks.answer o); ends_open = asks.ends_open; fault = asks.fault }
