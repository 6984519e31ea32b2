-- Lines that are put in one after another, and the transaction that commits them.
use Rattle.rd_chain.proofs.Common.{◌≡◌, ◌∙◌, ◌+◌, ◌++◌, ◌<◌, ◌≤◌, ℕ, List, [], ◌∷◌, length, map, inl, refl, sym, ap, subst, arith, true≢false, IsErr, OnOk, Result, Ok, Err, inr, Database, Ghosts, Held, state, Appends, EndsAt, HoldsChain, IsEndOf, IsFullFor, IsOpen, Makes, Moves, RestsIn, Turns, End, MOST_LINES, end_of, end_with, history_schema, lines, next_end}
use Rattle.rd_chain.specs.declared.faults.ChainFault.{ChainFault}
use Rattle.rd_chain.specs.declared.faults.ChainFault.TheVariants.{Full, Sql}
use Rattle.rd_tables.proofs.ConnectionLaws.{Laws}
use Rattle.rd_chain.proofs.Laws.{leaves_only}
use Rattle.std.proofs.Common.{append_assoc, get_or, take, take_all}
use Rattle.std.proofs.lemmas.List.{append-nil, map_more}
use Rattle.rd_chain.proofs.LineLemmas.{end_push}
use Rattle.rd_chain.proofs.Statements.{makes_line, params, put_line, put_text, put_writes}
use Rattle.rd_tables.proofs.TransactionSteps.{then_told}
use Rattle.rd_chain.proofs.Transactions.{appends, chain_is, keeps_chain}

-- nothing is done
pub still : {S T X : Type 0} (g : Ghosts S) (h : Held S) (P : Database → Type 0) (value : T) → Moves {X = X} g h h P P (Ok value)
still g h P value = record {
  quiet = record { clean = omega arith; shield = λ s. s; counts = omega arith; limit = refl; closes = λ clean o. inl o; crash = λ clean db may. inl may };
  kept = λ clean. record { was_open = λ o. o; committed = λ o. refl };
  ok = λ clean o inside held. (o, inside, held);
}

-- it is done, whatever it answers
pub told_next : {S T U X Y : Type 0} (g : Ghosts S) {old new : Held S} {P Q : Database → Type 0} {value : T} (told : U) → Moves {X = X} g old new P Q (Ok value) → Moves {X = Y} g old new P Q (Ok told)
told_next g told moves = record { quiet = moves.quiet; kept = moves.kept; ok = moves.ok }

-- the statement that puts the next line
pub makes_next : (end next : End) (line : List ℕ) (before : List (List ℕ)) → next ≡ next_end end line → end.number < MOST_LINES → Makes history_schema put_text put_line put_writes (params next line) (EndsAt end before) (EndsAt (next_end end line) (before ++ line ∷ []))
makes_next end next line before is few = subst (λ (e : End). Makes history_schema put_text put_line put_writes (params e line) (EndsAt end before) (EndsAt (next_end end line) (before ++ line ∷ []))) (sym is) (makes_line end line before few)

module _ {R : Type 0} (text : R → List ℕ) (lines : List R) where
  -- so many of the lines
  abbrev pub first : ℕ → List (List ℕ)
  first k = map text (take k lines)

  one_more : (k : ℕ) (d : R) → k < length lines → first k ++ text (get_or lines k d) ∷ [] ≡ first (k + 1)
  one_more k d low = sym (map_more text lines k d low)

  pub last_more : (end last : End) (k : ℕ) (d : R) → k < length lines → last ≡ end_with end (first k) → next_end last (text (get_or lines k d)) ≡ end_with end (first (k + 1))
  last_more end last k d low is = ap (λ (e : End). next_end e (text (get_or lines k d))) is ∙ end_push end (first k) (text (get_or lines k d)) ∙ ap (end_with end) (one_more k d low)

  pub moves_more : {S T X Y : Type 0} (g : Ghosts S) {a b c : Held S} (end last next : End) (before : List (List ℕ)) (k : ℕ) (d : R) {value : T} → k < length lines → next ≡ next_end last (text (get_or lines k d))
      → Moves {X = X} g a b (EndsAt end before) (EndsAt last (before ++ first k)) (Ok (tt {0})) → Moves {X = Y} g b c (EndsAt last (before ++ first k)) (EndsAt (next_end last (text (get_or lines k d))) ((before ++ first k) ++ text (get_or lines k d) ∷ [])) (Ok value)
      → Moves {X = Y} g a c (EndsAt end before) (EndsAt next (before ++ first (k + 1))) (Ok (tt {0}))
  moves_more {Y} g {a} {c} end last next before k d low is so_far step =
      let joined : (before ++ first k) ++ text (get_or lines k d) ∷ [] ≡ before ++ first (k + 1) = rw append_assoc (ap (λ l. before ++ l) (one_more k d low)) in
      subst (λ (p : End × List (List ℕ)). Moves {X = Y} g a c (EndsAt end before) (EndsAt p.0 p.1) (Ok (tt {0}))) (λ i. (sym is i, joined i)) (then_told g so_far step)

  -- until all are there
  pub last_all : (end last : End) (k : ℕ) → length lines ≤ k → last ≡ end_with end (first k) → last ≡ end_with end (map text lines)
  last_all end last k high is = is ∙ ap (λ l. end_with end (map text l)) (take_all k lines high)

  pub moves_all : {S X : Type 0} (g : Ghosts S) {a c : Held S} (end last : End) (before : List (List ℕ)) (k : ℕ) → length lines ≤ k → last ≡ end_with end (first k)
      → Moves {X = X} g a c (EndsAt end before) (EndsAt last (before ++ first k)) (Ok (tt {0})) → Moves {X = X} g a c (EndsAt end before) (EndsAt (end_with end (map text lines)) (before ++ map text lines)) (Ok (tt {0}))
  moves_all {S} {X} g {a} {c} end last before k high is so_far =
      subst (λ (p : End × List (List ℕ)). Moves {X = X} g a c (EndsAt end before) (EndsAt p.0 p.1) (Ok (tt {0}))) (λ i. (last_all end last k high is i, before ++ map text (take_all k lines high i))) so_far

-- none is there at first
pub end_none : (end : End) → end ≡ end_with end []
end_none end = let count : end.number ≡ end.number + 0 = omega arith in λ i. record { number = count i; sum = end.sum }

pub moves_none : {S X : Type 0} (g : Ghosts S) (h : Held S) (end : End) (before : List (List ℕ)) → Moves {X = X} g h h (EndsAt end before) (EndsAt end (before ++ [])) (Ok (tt {0}))
moves_none {S} {X} g h end before = subst (λ (l : List (List ℕ)). Moves {X = X} g h h (EndsAt end before) (EndsAt end l) (Ok (tt {0}))) (sym (append-nil before)) (still g h (EndsAt end before) tt)

-- a transaction, whatever it answers
pub told_as : {S T U X Y : Type 0} (g : Ghosts S) (old new : Held S) {After : Database → Type 0} (value : T) (told : U) → Turns {X = X} g old new After (Ok value) → Turns {X = Y} g old new After (Ok told)
told_as g old new value told turns = record { lasts = turns.lasts; ok = turns.ok; err = λ o. tt; ends_open = turns.ends_open; crash = turns.crash }

pub failed_as : {S T U X Y : Type 0} (g : Ghosts S) (old new : Held S) {After : Database → Type 0} (fault : X) (r : Result U Y) → IsErr r → Turns {T = T} g old new After (Err fault) → Turns g old new After r
failed_as g old new fault (Err told) is turns = record { lasts = turns.lasts; ok = λ o. tt; err = turns.err; ends_open = λ clean. tt; crash = turns.crash }
failed_as g old new fault (Ok told) is turns = absurd (true≢false (sym is))

-- ---- a chain and where it ends

-- a call that does nothing
pub appends_nothing : {S T X : Type 0} (g : Ghosts S) → Laws g → (h : Held S) (more : List (List ℕ)) (fault : X) → HoldsChain (state g h) → Appends {T = T} g h h more (Err fault)
appends_nothing g laws h more fault holds = record {
  lasts = record { was_open = λ o. o; clean = λ clean. clean; faults = omega arith; closes = λ o clean. inl o; limit = refl };
  ok = λ o. tt;
  err = λ o. refl;
  ends_open = λ clean. tt;
  crash = λ was clean left may. inl (leaves_only g laws h holds was left may);
  durable = λ o. leaves_only g laws h holds o;
}

module _ {S T U X Y : Type 0} (g : Ghosts S) (old new : Held S) (more : List (List ℕ)) where
  pub appended_as : (value : T) (told : U) → Appends {X = X} g old new more (Ok value) → Appends {X = Y} g old new more (Ok told)
  appended_as value told was = record { lasts = was.lasts; ok = was.ok; err = λ o. tt; ends_open = was.ends_open; crash = was.crash; durable = was.durable }

  pub not_appended_as : (fault : X) (told : Y) → Appends {T = T} g old new more (Err fault) → Appends {T = U} g old new more (Err told)
  not_appended_as fault told was = record { lasts = was.lasts; ok = λ o. tt; err = was.err; ends_open = λ clean. tt; crash = was.crash; durable = was.durable }

-- after an error the lines end where they did
pub end_still : {S T X : Type 0} (g : Ghosts S) (old new : Held S) (more : List (List ℕ)) (end : End) (fault : X) → Appends {T = T} g old new more (Err fault) → IsEndOf g old end → IsEndOf g new end
end_still g old new more end fault told is o = is (told.lasts.was_open o) ∙ ap end_of (sym (told.err o))

pub over : (n : ℕ) → ¬ (n ≤ MOST_LINES) → MOST_LINES < n
over n not_low = omega (arith, not_low)

module _ {S : Type 0} (g : Ghosts S) (old new : Held S) (end : End) (count : ℕ) (is : IsEndOf g old end) where
  known : IsOpen g old → end.number ≡ length (lines g old)
  known o = ap (λ (e : End). e.number) (is o)

  -- there is room, and the answer is another
  pub not_full : {T : Type 0} (r : Result T ChainFault) → end.number + count ≤ MOST_LINES → ¬ (r ≡ Err Full) → IsFullFor g old new count r
  not_full r room other = record { full = λ o much. absurd (omega (arith, known o, room, much)); room = λ o e. absurd (other e); same = λ e. absurd (other e) }

  pub full_done : {T : Type 0} (value : T) → end.number + count ≤ MOST_LINES → IsFullFor g old new count (Ok value)
  full_done {T} value room = not_full (Ok value) room (λ (e : ◌≡◌ {A = Result T ChainFault} (Ok value) (Err Full)). absurd cc)

  pub full_failed : {T : Type 0} → end.number + count ≤ MOST_LINES → IsFullFor {T = T} g old new count (Err Sql)
  full_failed {T} room = not_full (Err Sql) room (λ (e : ◌≡◌ {A = Result T ChainFault} (Err Sql) (Err Full)). absurd cc)

  pub is_full : {T : Type 0} → MOST_LINES < end.number + count → new ≡ old → IsFullFor {T = T} g old new count (Err Full)
  is_full much same = record { full = λ o m. refl; room = λ o e. omega (arith, known o, much); same = λ e. same }

-- ---- a transaction that puts lines in

pub starts : {S : Type 0} (g : Ghosts S) (old : Held S) (end : End) → HoldsChain (state g old) → IsEndOf g old end → IsOpen g old → RestsIn (EndsAt end (lines g old)) (state g old)
starts g old end holds is o = let at = holds o in record { settled = at.settled; autocommit = at.autocommit; holds = (at.holds, is o) }

module _ {S : Type 0} (g : Ghosts S) (old new : Held S) where
  weaker : {T X : Type 0} {P Q : Database → Type 0} → ((db : Database) → P db → Q db) → (r : Result T X) → Turns g old new P r → Turns g old new Q r
  weaker {T} {X} {P} {Q} more r turns = record {
    lasts = turns.lasts;
    ok = λ o. go r (turns.ok o);
    err = turns.err;
    ends_open = turns.ends_open;
    crash = λ was clean left may. elim (turns.crash was clean left may) [ inl before ↦ inl before | inr made ↦ inr (made.0, more made.0 made.1, made.2) ];
  }
    where
      go : (q : Result T X) → OnOk q (RestsIn P (state g new)) → OnOk q (RestsIn Q (state g new))
      go (Ok value) at = record { settled = at.settled; autocommit = at.autocommit; holds = more (state g new).now at.holds }
      go (Err e) at = tt

  module _ (laws : Laws g) (holds : HoldsChain (state g old)) (end : End) (more : List (List ℕ)) where
    abbrev Written : {T X : Type 0} → Result T X → Type 0
    Written = Turns g old new (EndsAt (end_with end more) (lines g old ++ more))

    pub written_kept : {T X : Type 0} (r : Result T X) → Written r → HoldsChain (state g new)
    written_kept r turns = keeps_chain g laws old new holds more r (weaker (λ db ends. ends.0) r turns)

    pub written : {T X : Type 0} (r : Result T X) → Written r → Appends g old new more r
    written r turns = appends g laws old new holds more r (weaker (λ db ends. ends.0) r turns)

    pub written_end : {T X : Type 0} (value : T) (last : End) → last ≡ end_with end more → Written {X = X} (Ok value) → IsEndOf g new last
    written_end value last is turns o = let at = turns.ok o in is ∙ at.holds.1 ∙ ap end_of (sym (chain_is (lines g old ++ more) (state g new).now at.holds.0).1)
