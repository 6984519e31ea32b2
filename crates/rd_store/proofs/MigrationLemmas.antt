-- What bringing the tables of version 1 to version 2 comes to.
use Rattle.rd_store.proofs.Common.{◌≡◌, inl, inr, ℕ, pos, List, [], ◌∷◌, map, length, get_or, true, false, None, Ok, Err, Result, IfOk, IfErr, IsTrue, refl, sym, ap, subst, subst₂, ◌∙◌, arith, Int, Row, column, Trees, Ghosts, Schema, CreateTable, Database, Does, Held, state, statement_of, desk_schema, first_schema, has_desk_columns, has_foreign_desk, Spells, SpellLawful, HaveRowids, map_of, marks_text, set_version_text, set_version, creates, creates_writes, Makes, plain_mode, sets_version, set_version_writes, OpenFault, Desk, IsIndexOf, IsLawful, AreMarksIn, joined, SpellDesk, HasVersion, HaveOwnRowids, desk_of, unmarked, deed_spelling, image_spelling, marks_spelling, rule_spelling, key_spelling, check_spelling, file_spelling, RestsIn, IsUntouched, Turns, Holds, HoldsDesk, IsClean, IsDeskAt, IsLeft, IsOf, IsOpen, Stays, IsHeld, IsSettledAt, IsFirst, IsFirstConsistent, IsHalfway, IsHeldFirst, IsMigrated, IsNotMigrated, IsSecondConsistent, LeavesOldOrMigrated, first_desk}
use Rattle.sqlite.specs.Listing.{understood}
use Rattle.rd_store.specs.declared.faults.OpenFault.TheVariants.{Sql}
use Rattle.rd_store.proofs.CreationLemmas.{one_made}
use Rattle.rd_tables.proofs.ConnectionLaws.{Laws, lasts_then, same_commit}
use Rattle.rd_store.proofs.Laws.{leaves_only, left_is}
use Rattle.rd_store.proofs.StatementCalls.{rests_on}

-- ---- trees that differ in the version alone

module _ (old new : Trees) (deeds : new 1 ≡ old 1) (images : new 2 ≡ old 2) (rules : new 3 ≡ old 3) (keys : new 5 ≡ old 5) (checks : new 7 ≡ old 7) (files : new 9 ≡ old 9) (marks : new 11 ≡ old 11) where
  spell : (before after : ℕ) → HasVersion after (new 0) → SpellDesk before old → SpellDesk after new
  spell before after version all = record {
    version = version;
    deeds = subst (Spells deed_spelling) (sym deeds) all.deeds;
    images = subst (Spells image_spelling) (sym images) all.images;
    rules = subst (Spells rule_spelling) (sym rules) all.rules;
    keys = subst (Spells key_spelling) (sym keys) all.keys;
    checks = subst (Spells check_spelling) (sym checks) all.checks;
    files = subst (Spells file_spelling) (sym files) all.files;
    marks = subst₂ (λ i m. SpellLawful marks_spelling (AreMarksIn (map_of image_spelling i)) m) (sym images) (sym marks) all.marks;
  }

  same_desk : desk_of new ≡ desk_of old
  same_desk = λ i. record {
    deeds = map_of deed_spelling (deeds i);
    images = joined (map_of image_spelling (images i)) (map_of marks_spelling (marks i));
    rules = map_of rule_spelling (rules i);
    keys = map_of key_spelling (keys i);
    checks = map_of check_spelling (checks i);
  }

  same_rowids : HaveRowids (old 3) → HaveRowids (old 5) → HaveRowids (old 7) → HaveRowids (old 9) → HaveOwnRowids new
  same_rowids of_rules of_keys of_checks of_files =
      record { rules = subst HaveRowids (sym rules) of_rules; keys = subst HaveRowids (sym keys) of_keys; checks = subst HaveRowids (sym checks) of_checks; files = subst HaveRowids (sym files) of_files }

-- ---- the two statements

module _ (desk : Desk) where
  pub makes_marks : Makes first_schema marks_text CreateTable (creates_writes 7 (omega arith)) [] (IsFirst desk) (IsHalfway desk)
  makes_marks limit db after tally of does sound =
      let m = creates 7 (omega arith) in
      let it = one_made first_schema marks_text desk_schema m limit db after tally of.schema (subst (λ text. Does limit plain_mode [] db text None CreateTable (Ok (tally, after))) m.whole does) in
      let kept = it.1 in
      let deeds = kept.1.0 in
      let images = kept.1.1.0 in
      let rules = kept.1.1.1.0 in
      let keys = kept.1.1.1.1.0 in
      let checks = kept.1.1.1.1.1.0 in
      let files = kept.1.1.1.1.1.1.0 in
      record {
        schema = it.0;
        rows = spell (unmarked db.trees) after.trees deeds images rules keys checks files it.2 1 1 (subst (HasVersion 1) (sym kept.0) of.rows.version) of.rows;
        rowids = same_rowids (unmarked db.trees) after.trees deeds images rules keys checks files it.2 of.rowids.rules of.rowids.keys of.rowids.checks of.rowids.files;
        sound = sound;
        is = same_desk (unmarked db.trees) after.trees deeds images rules keys checks files it.2 ∙ of.is;
        index = subst (IsIndexOf desk.images) (ap (map_of file_spelling) (sym files)) of.index;
      }

  -- the one row of the desk, with its id
  one_row : (number : ℕ) (rows : List Row) → HasVersion number rows → (row : Row) × (rows ≡ row ∷ []) × (column row 0 ≡ Int (pos 1))
  one_row number [] is = absurd cc
  one_row number (row ∷ []) is = (row, refl, ap (λ (shown : List Row). column (get_or shown 0 []) 0) is)
  one_row number (row ∷ other ∷ more) is = absurd (let e : ◌≡◌ {A = ℕ} (length (map (λ row. column row 0 ∷ column row 2 ∷ []) (row ∷ other ∷ more))) 1 = ap length is in omega (arith, e))

  pub makes_second : Makes desk_schema set_version_text set_version set_version_writes [] (IsHalfway desk) (IsOf desk)
  makes_second limit db after tally of does sound =
      let row = one_row 1 (db.trees 0) of.rows.version in
      let h = sets_version (statement_of set_version_text (understood desk_schema set_version_text)) limit db after tally of.schema row.0 row.1 row.2 does in
      let deeds = h.stays 1 refl refl in
      let images = h.stays 2 refl refl in
      let rules = h.stays 3 refl refl in
      let keys = h.stays 5 refl refl in
      let checks = h.stays 7 refl refl in
      let files = h.stays 9 refl refl in
      let marks = h.stays 11 refl refl in
      record {
        schema = h.schema;
        rows = spell db.trees after.trees deeds images rules keys checks files marks 1 2 (subst (HasVersion 2) (sym h.now) refl) of.rows;
        rowids = same_rowids db.trees after.trees deeds images rules keys checks files marks of.rowids.rules of.rowids.keys of.rowids.checks of.rowids.files;
        sound = sound;
        is = same_desk db.trees after.trees deeds images rules keys checks files marks ∙ of.is;
        index = subst (IsIndexOf desk.images) (ap (map_of file_spelling) (sym files)) of.index;
      }

-- ---- the whole

-- a lawful desk is spelled by consistent rows
consistent_first : (db : Database) → IsHeldFirst db → IsFirstConsistent db
consistent_first db it = (it.of.schema, record { spelled = it.of.rows; lawful = it.lawful; index = it.of.index })

consistent_second : (db : Database) → IsHeld db → IsSecondConsistent db
consistent_second db it = (it.of.schema, record { spelled = it.of.rows; lawful = it.lawful; index = it.of.index })

-- what a query leaves, as a call that leaves the database as it was
module _ {S : Type 0} (g : Ghosts S) (a b : Held S) (settled : IsSettledAt (state g a)) (stays : Stays g a b) where
  pub untouched_by : IsOpen g b → IsUntouched g a b
  untouched_by o = record { was_open = stays.lasts.was_open o; now = stays.now o; committed = stays.committed o; autocommit = stays.autocommit o ∙ sym settled.autocommit }

  -- a desk that was found there
  pub rests_by : IsOpen g b → IsHeld (state g a).now → IsDeskAt (state g b)
  rests_by o held = record {
    tables = record { schema = ap (λ (db : Database). db.schema) (stays.now o) ∙ held.of.schema; settled = stays.committed o ∙ settled.settled (stays.lasts.was_open o) ∙ sym (stays.now o); autocommit = stays.autocommit o };
    holds = subst (λ (db : Database). Holds (desk_of db.trees) db) (sym (stays.now o)) held;
  }

  -- tables of version 2 are only opened
  pub opened_second : Laws g → has_desk_columns a.schema ≡ true → has_foreign_desk a.schema ≡ false → (IsOpen g b → IsHeld (state g a).now) → (IsClean g b → IsOpen g b) → IsMigrated g a b
  opened_second laws named plain held ends_open = record {
    lasts = stays.lasts;
    named = named;
    plain = plain;
    is = λ o. inr (consistent_second (state g a).now (held o), ap (λ (db : Database). desk_of db.trees) (sym (stays.now o)));
    tables = λ o. consistent_second (state g b).now (rests_by o (held o)).holds;
    untouched = λ o second. untouched_by o;
    ends_open = ends_open;
    crash = λ was clean left may. inl (stays.quiet was clean left may);
    durable = λ o. leaves_only g laws b (λ open_again. rests_by open_again (held open_again)) o;
  }

  -- those of version 1 are brought to it
  module _ (held : IsOpen g b → IsHeldFirst (state g a).now) (opens : IsClean g b → IsOpen g b) (c : Held S) where
    abbrev Brought : Database → Type 0
    Brought = IsOf (first_desk (state g b).now.trees)

    -- the transaction begins there
    pub first_at : IsOpen g b → RestsIn (IsFirst (first_desk (state g b).now.trees)) (state g b)
    first_at o = record {
      settled = stays.committed o ∙ settled.settled (stays.lasts.was_open o) ∙ sym (stays.now o);
      autocommit = stays.autocommit o;
      holds = subst (λ (db : Database). IsFirst (first_desk db.trees) db) (sym (stays.now o)) (held o).of;
    }

    lawful : IsOpen g b → IsLawful (first_desk (state g b).now.trees)
    lawful o = subst (λ (db : Database). IsLawful (first_desk db.trees)) (sym (stays.now o)) (held o).lawful

    crashed : {T X : Type 0} (r : Result T X) → Turns g b c Brought r → LeavesOldOrMigrated g a c
    crashed r turns was clean left may =
        let early = turns.lasts.clean clean in
        let o = opens early in
        elim (turns.crash o clean left may) [
          | inl before ↦ inl (stays.quiet was early left before)
          | inr made ↦ inr (
            consistent_first (state g a).now (held o),
            subst (λ (db : Database). IsLeft (first_desk db.trees) left) (stays.now o) (left_is (first_desk (state g b).now.trees) made.0 left (record { of = made.1; lawful = lawful o }) made.2),
          )
        ]

    module _ {T X : Type 0} (value : T) (turns : Turns {X = X} g b c Brought (Ok value)) where
      pub brought : HoldsDesk (state g c)
      brought o =
          let at = turns.ok o in
          rests_on (first_desk (state g b).now.trees) (state g c) (record { of = at.holds; lawful = lawful (turns.lasts.was_open o) }) at.settled at.autocommit

      pub migrated : Laws g → has_desk_columns a.schema ≡ true → has_foreign_desk a.schema ≡ false → IsMigrated g a c
      migrated laws named plain = record {
        lasts = lasts_then g a b c stays.lasts turns.lasts;
        named = named;
        plain = plain;
        is = λ o.
            let was = turns.lasts.was_open o in
            inl (consistent_first (state g a).now (held was), ap (λ (db : Database). first_desk db.trees) (sym (stays.now was)) ∙ sym (turns.ok o).holds.is);
        tables = λ o. consistent_second (state g c).now (brought o).holds;
        untouched = λ o second. let wrong : first_schema ≡ desk_schema = sym (held (turns.lasts.was_open o)).of.schema ∙ second in absurd (apart wrong);
        ends_open = turns.ends_open;
        crash = crashed (Ok value) turns;
        durable = λ o. leaves_only g laws c brought o;
      }
        where
          apart : ¬ (first_schema ≡ desk_schema)
          apart e = let n : 7 ≡ 8 = ap (λ (s : Schema). length s.tables) e in omega (arith, n)

    pub not_brought : {T X : Type 0} (e : X) → Laws g → ((s : S) → IsTrue (g.view s).is_open → g.recovers s (g.view s).committed) → Turns {T = T} g b c Brought (Err e) → has_desk_columns a.schema ≡ true → (fault : OpenFault) → fault ≡ Sql → IsNotMigrated g a c fault
    not_brought e laws stays_so turns named fault is = subst (IsNotMigrated g a c) (sym is) (record {
      lasts = lasts_then g a b c stays.lasts turns.lasts;
      no_desk = rw named (λ wrong. absurd cc);
      foreign = λ other. refl;
      refused = λ o. rw named refl;
      same = λ wrong. absurd cc;
      untouched = λ o.
          let was = turns.lasts.was_open o in
          let at = turns.err o in
          let now = at.holds ∙ stays.now was in
          record { was_open = stays.lasts.was_open was; now = now; committed = at.settled ∙ now ∙ sym (settled.settled (stays.lasts.was_open was)); autocommit = at.autocommit ∙ sym settled.autocommit };
      ends_open = λ not_desk not_sql clean. absurd (not_sql refl);
      quiet = λ not_sql was clean left may. absurd (not_sql refl);
      durable = λ o.
          let was = turns.lasts.was_open o in
          let at = turns.err o in
          same_commit g laws stays_so a c o (at.settled ∙ at.holds ∙ stays.now was ∙ sym (settled.settled (stays.lasts.was_open was)));
      crash = crashed (Err e) turns;
    })

    -- whatever the transaction answers
    pub all_migrated : {T : Type 0} (r : Result T OpenFault) → Turns g b c Brought r → Laws g → has_desk_columns a.schema ≡ true → has_foreign_desk a.schema ≡ false → IfOk r (λ _. IsMigrated g a c)
    all_migrated (Ok value) turns laws named plain = migrated value turns laws named plain
    all_migrated (Err e) turns laws named plain = tt

    pub all_brought : {T : Type 0} (r : Result T OpenFault) → Turns g b c Brought r → IfOk r (λ _. HoldsDesk (state g c))
    all_brought (Ok value) turns = brought value turns
    all_brought (Err e) turns = tt

    pub none_brought : {T : Type 0} (r : Result T OpenFault) → Laws g → ((s : S) → IsTrue (g.view s).is_open → g.recovers s (g.view s).committed) → Turns g b c Brought r → has_desk_columns a.schema ≡ true → IfErr r (λ fault. fault ≡ Sql) → IfErr r (IsNotMigrated g a c)
    none_brought (Ok value) laws stays_so turns named is = tt
    none_brought {T} (Err fault) laws stays_so turns named is = not_brought {T = T} fault laws stays_so turns named fault is

-- a transaction told by another result
pub turns_told : {S T U X Y : Type 0} (g : Ghosts S) (old new : Held S) (After : Database → Type 0) (value : T) (other : U) → Turns {X = X} g old new After (Ok value) → Turns {X = Y} g old new After (Ok other)
turns_told g old new After value other h = record { lasts = h.lasts; ok = h.ok; err = λ o. tt; ends_open = h.ends_open; crash = h.crash }

pub turns_failed : {S T U X Y : Type 0} (g : Ghosts S) (old new : Held S) (After : Database → Type 0) (e : X) (other : Y) → Turns {T = T} g old new After (Err e) → Turns {T = U} g old new After (Err other)
turns_failed g old new After e other h = record { lasts = h.lasts; ok = λ o. tt; err = h.err; ends_open = λ clean. tt; crash = h.crash }
