-- What the tests of a database say of it, from the tests of its rows.
use Rattle.rd_store.proofs.Common.{IsErr, or_true, ◌≡◌, ◌≢◌, inl, inr, ℕ, List, [], get_or, true, false, Option, Result, Ok, Err, IfOk, IfErr, refl, sym, ap, subst, ◌∙◌, true≢false, arith, IsErrAnd, Row, column, Ghosts, Database, IsDatabase, Held, state, Table, TellsVersion, desk_schema, desk_with, first_schema, has_desk_columns, has_foreign_desk, may_be_desk, natural, desk_first, one_tree, OpenFault, NotADesk, Inconsistent, Version, HasVersion, HaveOwnRowids, unmarked, Asks, IsClean, IsOpen, Stays, IsConsistent, IsConsistentAs, IsNamed, IsNoDesk, IsResting, IsSaid, IsSettledAt, Judged, IsHeld, NamesDesk, Refuses, Says, Tests, TestsDatabase, IsHeldFirst, RefusesEach}
use Rattle.rd_store.specs.declared.faults.OpenFault.TheVariants.{Version as OtherVersion, Sql}
use Rattle.rd_tables.proofs.ConnectionLaws.{stays_here, stays_then}

held : (db : Database) → db.schema ≡ desk_schema → IsDatabase db → IsConsistent db.trees → HaveOwnRowids db.trees → IsHeld db
held db schema sound all rowids = record { of = record { schema = schema; rows = all.spelled; rowids = rowids; sound = sound; is = refl; index = all.index }; lawful = all.lawful }

held_first : (db : Database) → db.schema ≡ first_schema → IsDatabase db → IsConsistentAs 1 (unmarked db.trees) → HaveOwnRowids db.trees → IsHeldFirst db
held_first db schema sound all rowids = record { of = record { schema = schema; rows = all.spelled; rowids = rowids; sound = sound; is = refl; index = all.index }; lawful = all.lawful }

-- what holds after Ok
both_ok : {T : Type 0} (r : Result T OpenFault) (P R Q : Type 0) → Judged P r → IfOk r (λ _. R) → (P → R → Q) → IfOk r (λ _. Q)
both_ok (Ok value) P R Q judged also from = from judged also
both_ok (Err fault) P R Q judged also from = tt

-- and what a refusal tells
refused_by : {T : Type 0} (r : Result T OpenFault) (P : Type 0) (Bad : OpenFault → Type 0) → Judged P r → (¬ P → Bad Inconsistent) → Bad Sql → IfErr r Bad
refused_by (Ok value) P Bad judged inconsistent sql = tt
refused_by (Err NotADesk) P Bad judged inconsistent sql = absurd judged
refused_by (Err OtherVersion) P Bad judged inconsistent sql = absurd judged
refused_by (Err Inconsistent) P Bad judged inconsistent sql = inconsistent judged
refused_by (Err Sql) P Bad judged inconsistent sql = sql

module _ {S : Type 0} (g : Ghosts S) (old new : Held S) (named : IsOpen g old → has_desk_columns (state g old).now.schema ≡ true) (sound : IsOpen g old → IsDatabase (state g old).now) where
  -- the tables are those of version 2, and it is said
  pub judged_second : {T : Type 0} (r : Result T OpenFault) → (state g old).now.schema ≡ desk_schema → (IsOpen g old → HasVersion 2 ((state g old).now.trees 0)) → Tests g old new r IsConsistent
      → (IsOpen g new → IfOk r (λ _. HaveOwnRowids (state g old).now.trees)) → TestsDatabase g old new r (λ _. IsHeld) Refuses
  judged_second r schema version tests rowids = record {
    stays = tests.stays;
    holds = λ o. both_ok r _ _ _ (tests.judges o) (rowids o) (held (state g old).now schema (sound (tests.stays.lasts.was_open o)));
    refused = λ o. refused_by r _ (λ fault. Refuses fault (state g old).now) (tests.judges o) (λ other. (schema, version (tests.stays.lasts.was_open o), other)) (rw (named (tests.stays.lasts.was_open o)) refl);
    ends_open = tests.ends_open;
    refuses = tests.refuses;
  }

  -- those of version 1
  pub judged_first : {T : Type 0} (r : Result T OpenFault) → (state g old).now.schema ≡ first_schema → (IsOpen g old → HasVersion 1 ((state g old).now.trees 0)) → Tests g old new r (λ trees. IsConsistentAs 1 (unmarked trees))
      → (IsOpen g new → IfOk r (λ _. HaveOwnRowids (state g old).now.trees)) → TestsDatabase g old new r (λ _. IsHeldFirst) RefusesEach
  judged_first r schema version tests rowids = record {
    stays = tests.stays;
    holds = λ o. both_ok r _ _ _ (tests.judges o) (rowids o) (held_first (state g old).now schema (sound (tests.stays.lasts.was_open o)));
    refused = λ o. refused_by r _ (λ fault. RefusesEach fault (state g old).now) (tests.judges o) (λ other. inl (schema, version (tests.stays.lasts.was_open o), other)) (rw (named (tests.stays.lasts.was_open o)) refl);
    ends_open = tests.ends_open;
    refuses = tests.refuses;
  }

-- a test after a query
module _ {S : Type 0} (g : Ghosts S) (a b c : Held S) (stays : Stays g a b) (opens : IsClean g b → IsOpen g b) where
  pub then_database : {T : Type 0} (r : Result T OpenFault) (Good : T → Database → Type 0) (Bad : OpenFault → Database → Type 0) → TestsDatabase g b c r Good Bad → TestsDatabase g a c r Good Bad
  then_database r Good Bad next = record {
    stays = stays_then g a b c stays opens next.stays;
    holds = λ o. subst (λ (db : Database). IfOk r (λ value. Good value db)) (stays.now (next.stays.lasts.was_open o)) (next.holds o);
    refused = λ o. subst (λ (db : Database). IfErr r (λ fault. Bad fault db)) (stays.now (next.stays.lasts.was_open o)) (next.refused o);
    ends_open = next.ends_open;
    refuses = next.refuses;
  }

-- a test whose result tells more, or less
module _ {S : Type 0} (g : Ghosts S) (a b : Held S) {T U : Type 0} (Good : T → Database → Type 0) (More : U → Database → Type 0) (Bad Worse : OpenFault → Database → Type 0) where
  pub told_ok : (value : T) (other : U) → (IsOpen g b → Good value (state g a).now → More other (state g a).now) → TestsDatabase g a b (Ok value) Good Bad → TestsDatabase g a b (Ok other) More Worse
  told_ok value other more tests = record { stays = tests.stays; holds = λ o. more o (tests.holds o); refused = λ o. tt; ends_open = tests.ends_open; refuses = tt }

  pub told_err : (fault : OpenFault) (q : Result U OpenFault) → IsErrAnd q (λ other. other ≡ fault) → (Bad fault (state g a).now → Worse fault (state g a).now) → TestsDatabase {T = T} g a b (Err fault) Good Bad → TestsDatabase g a b q More Worse
  told_err fault (Ok value) is worse tests = absurd is
  told_err fault (Err other) is worse tests = subst (λ e. TestsDatabase {T = U} g a b (Err e) More Worse) (sym is) (record { stays = tests.stays; holds = λ o. tt; refused = λ o. worse (tests.refused o); ends_open = λ clean. tt; refuses = tests.refuses })

-- a refusal of tables that say version 2
pub each_of : (fault : OpenFault) (db : Database) → Says (HasVersion 2) db → Refuses fault db → RefusesEach fault db
each_of NotADesk db version refused = refused
each_of OtherVersion db version refused = absurd (refused.1.told (subst (λ tree. HasVersion 2 (db.trees tree)) (one_tree db.schema version.tree refused.1.tree version.tells refused.1.tells) version.told))
each_of Inconsistent db version refused = inr refused
each_of Sql db version refused = refused

pub each_database : {S T : Type 0} (g : Ghosts S) (a b : Held S) (r : Result T OpenFault) → (IsOpen g a → Says (HasVersion 2) (state g a).now) → TestsDatabase g a b r (λ _. IsHeld) Refuses → TestsDatabase g a b r (λ _. IsHeld) RefusesEach
each_database g a b (Ok value) version tests = record { stays = tests.stays; holds = tests.holds; refused = λ o. tt; ends_open = tests.ends_open; refuses = tt }
each_database g a b (Err fault) version tests = record {
  stays = tests.stays;
  holds = λ o. tt;
  refused = λ o. each_of fault (state g a).now (version (tests.stays.lasts.was_open o)) (tests.refused o);
  ends_open = λ clean. tt;
  refuses = tests.refuses;
}

-- a refusal that is passed on
pub err_told : {T : Type 0} (q : Result T OpenFault) (fault : OpenFault) → IsErrAnd q (λ other. other ≡ fault) → (P : OpenFault → Type 0) → P fault → IfErr q P
err_told (Ok value) fault is P held = absurd is
err_told (Err other) fault is P held = subst P (sym is) held

-- ---- the table `desk`

module _ {S T : Type 0} (g : Ghosts S) (h : Held S) (outside : IsOpen g h → (state g h).in_transaction ≡ false) (Good : T → Database → Type 0) (Bad : OpenFault → Database → Type 0)
    (none : may_be_desk (state g h).now.schema ≡ false → Bad NotADesk (state g h).now) (some : may_be_desk (state g h).now.schema ≡ true → Bad Sql (state g h).now) where
  -- where there is none
  pub no_desk_tests : (fault : OpenFault) → IsNoDesk fault (state g h).now.schema → TestsDatabase g h h (Err fault) Good Bad
  no_desk_tests NotADesk is = record { stays = stays_here g h outside; holds = λ o. tt; refused = λ o. none is; ends_open = λ clean. tt; refuses = λ not_desk not_sql clean. absurd (not_desk refl) }
  no_desk_tests OtherVersion is = absurd is
  no_desk_tests Inconsistent is = absurd is
  no_desk_tests Sql is = record { stays = stays_here g h outside; holds = λ o. tt; refused = λ o. some (or_true _ _ is); ends_open = λ clean. tt; refuses = λ not_desk not_sql clean. absurd (not_sql refl) }

pub no_desk_names : {S T : Type 0} (h : Held S) (fault : OpenFault) → IsNoDesk fault h.schema → NamesDesk {T = T} h h (Err fault)
no_desk_names h NotADesk is = record { named = tt; no_desk = rw is refl; foreign = λ other. absurd (true≢false (sym (or_true (has_desk_columns h.schema) (has_foreign_desk h.schema) other) ∙ is)); same = λ e. refl }
no_desk_names h OtherVersion is = absurd is
no_desk_names h Inconsistent is = absurd is
no_desk_names h Sql is = record { named = tt; no_desk = rw (or_true (has_desk_columns h.schema) (has_foreign_desk h.schema) is) (λ e. absurd cc); foreign = λ other. refl; same = λ e. absurd cc }

-- where there is one
pub desk_names : {S T : Type 0} (old new : Held S) (r : Result T OpenFault) → IsNamed old.schema → IfErr r (λ fault. fault ≢ NotADesk) → NamesDesk old new r
desk_names old new (Ok value) named known = record { named = named; no_desk = tt; foreign = tt; same = tt }
desk_names old new (Err fault) named known = record { named = tt; no_desk = rw named.0 known; foreign = λ other. absurd (true≢false (sym other ∙ named.1)); same = λ is. absurd (known is) }

pub names_told : {S T U : Type 0} (old new : Held S) (fault : OpenFault) (q : Result U OpenFault) → IsErrAnd q (λ other. other ≡ fault) → NamesDesk {T = T} old new (Err fault) → NamesDesk old new q
names_told old new fault (Ok value) is names = absurd is
names_told {S} {T} {U} old new fault (Err other) is names = subst (λ e. NamesDesk {T = U} old new (Err e)) (sym is) (record { named = tt; no_desk = names.no_desk; foreign = names.foreign; same = names.same })

-- what is so after Ok, wherever the connection is open
pub hold_ok : {T X : Type 0} (r : Result T X) (O P Q : Type 0) → (O → IfOk r (λ _. P)) → (O → P → Q) → IfOk r (λ _. O → Q)
hold_ok (Ok value) O P Q holds from = λ o. from o (holds o)
hold_ok (Err e) O P Q holds from = tt

-- what is told of the version
pub other_version : (rows : List Row) → HasVersion 1 rows → ¬ HasVersion 2 rows
other_version rows one two = let e : 1 ≡ 2 = ap (λ (shown : List Row). natural (column (get_or shown 0 []) 1)) (sym one ∙ two) in absurd (omega (arith, e))

-- over the tables of each version it is the first of them that says it
pub said_here : {Told : List Row → Type 0} (more : List Table) (db : Database) → db.schema ≡ desk_with more → Says Told db → Told (db.trees 0)
said_here {Told} more db is says = subst (λ tree. Told (db.trees tree)) (desk_first more says.tree (subst (TellsVersion says.tree) is says.tells)) says.told

-- what a query of the table `desk` tells
pub says_asked : {S : Type 0} (g : Ghosts S) (old new : Held S) (r : Result (Option Version) OpenFault) (tree : ℕ) → TellsVersion tree (state g old).now.schema
    → Asks g old new r Sql (λ said. IsSaid said ((state g old).now.trees tree)) → Asks g old new r Sql (λ said. Says (IsSaid said) (state g old).now)
says_asked g old new (Ok said) tree tells asks = record { stays = asks.stays; answer = λ o. record { tree = tree; tells = tells; told = asks.answer o }; ends_open = asks.ends_open; fault = tt }
says_asked g old new (Err fault) tree tells asks = record { stays = asks.stays; answer = λ o. tt; ends_open = asks.ends_open; fault = asks.fault }

-- what a query leaves of a connection at rest
module _ {S : Type 0} (g : Ghosts S) (a b : Held S) (stays : Stays g a b) where
  pub still_resting : IsSettledAt (state g a) → IsResting (state g b)
  still_resting settled o = record { schema = refl; settled = stays.committed o ∙ settled.settled (stays.lasts.was_open o) ∙ sym (stays.now o); autocommit = stays.autocommit o }

  pub still : (P : Database → Type 0) → (IsOpen g a → P (state g a).now) → IsOpen g b → P (state g b).now
  still P held o = subst P (sym (stays.now o)) (held (stays.lasts.was_open o))

-- nothing is asked of a database, and Sql is answered
pub not_asked : {S T : Type 0} (g : Ghosts S) (h : Held S) (Good : T → Database → Type 0) (Bad : OpenFault → Database → Type 0) → IsResting (state g h) → (IsOpen g h → Bad Sql (state g h).now)
    → (r : Result T OpenFault) → IfErr r (λ fault. fault ≡ Sql) → IsErr r → TestsDatabase g h h r Good Bad
not_asked g h Good Bad rests bad (Ok value) is failed = absurd (true≢false (sym failed))
not_asked {T} g h Good Bad rests bad (Err fault) is failed = subst (λ e. TestsDatabase {T = T} g h h (Err e) Good Bad) (sym is)
    (record { stays = stays_here g h (λ o. (rests o).autocommit); holds = λ o. tt; refused = bad; ends_open = λ clean. tt; refuses = λ not_desk not_sql clean. absurd (not_sql refl) })
