-- What making the tables and their first rows comes to.
use Rattle.rd_store.proofs.Common.{◌≡◌, inl, inr, ℕ, ◌+◌, ◌<◌, List, [], ◌∷◌, ◌++◌, length, get_or, false, Option, Some, None, Result, Ok, refl, sym, ap, ap₂, subst, ◌∙◌, AllByRecursion, get, from_entries, get-from_entries, Row, Trees, put_row, Table, Schema, CreateTable, Ghosts, Held, state, Database, Tally, Does, lacks_sequence, statement_of, Staff, desk_schema, Spelling, Spells, SpellLawful, HaveRowids, map_of, create_texts, schema_after, put_version_text, put_version, Creates, creates, creates_writes, IsKeyOrder, get_inserted, Makes, plain_mode, puts_version, version_row, put_version_writes, digest_cmp, IsLawful, IsKey, AreMarksIn, joined, IsFileIn, IsIndexOf, deed_spelling, image_spelling, marks_spelling, rule_spelling, key_spelling, check_spelling, file_spelling, HasVersion, IsOf, IsDeskAt, HoldsDesk, IsOpen, LeavesOnly, desk, RestsIn, HasFirstTables, LeavesOldOrNew, Turns, empty_desk, new_desk}
use Rattle.std.specs.List.{IsDistinct}
use Rattle.sqlite.specs.Change.{created, next_tree, KeepsRows}
use Rattle.sqlite.specs.Listing.{understood}
use Rattle.rd_tables.proofs.TableSteps.{went, same_value}
use Rattle.rd_tables.proofs.ConnectionLaws.{Laws}
use Rattle.rd_store.proofs.Laws.{leaves_only, left_is}
use Rattle.rd_store.proofs.MarkedImages.{joined_none}
use Rattle.rd_store.proofs.StatementCalls.{rests_on}
use Rattle.rd_store.proofs.Orders.{number_order, place_order, digest_order, checkup_order, file_order}
use Rattle.rd_store.proofs.Maps.{found_after}

-- ---- the tables

all_push : {X : Type 0} (P : X → Type 0) (xs : List X) (x : X) → AllByRecursion P xs → P x → AllByRecursion P (xs ++ x ∷ [])
all_push P [] x all h = (h, tt)
all_push P (y ∷ xs) x all h = (all.0, all_push P xs x all.1 h)

empty_after : (tables : List Table) (old new : Trees) → KeepsRows tables old new → AllByRecursion (λ table. old table.tree ≡ []) tables → AllByRecursion (λ table. new table.tree ≡ []) tables
empty_after [] old new kept all = tt
empty_after (t ∷ tables) old new kept all = (kept.0 ∙ all.0, empty_after tables old new kept.1 all.1)

module _ (before : Schema) (text : List ℕ) (after : Schema) (m : Creates before text after) where
  -- a table is made, without rows, and the others keep theirs
  pub one_made : (limit : Option ℕ) (db now : Database) (tally : Tally) → db.schema ≡ before → Does limit plain_mode [] db text None CreateTable (Ok (tally, now))
      → (now.schema ≡ after) × KeepsRows before.tables db.trees now.trees × (now.trees (next_tree before) ≡ [])
  one_made limit db now tally has h =
      let all = went h in
      let first = went all.1 in
      let made = first.1 in
      let defined : ◌≡◌ {A = Result Table _} (Ok made.table) (Ok m.table) = sym made.defined ∙ m.defined in
      let same : made.table ≡ m.table = same_value defined in
      let schema : first.0.schema ≡ after = made.is ∙ ap (λ x. created x made.table) has ∙ ap (created before) same ∙ m.is in
      let none : lacks_sequence first.0.schema ≡ false = ap lacks_sequence schema ∙ m.unsequenced in
      let is : now ≡ first.0 = ap (λ (p : Tally × Database). p.1) (same_value all.2) ∙ same_value (rw none at first.2) in
      let fresh : first.0.trees (next_tree before) ≡ [] = subst (λ x. first.0.trees (next_tree x) ≡ []) has made.empty in
      let others : KeepsRows before.tables db.trees first.0.trees = subst (λ x. KeepsRows x.tables db.trees first.0.trees) has made.others in (
        ap (λ (d : Database). d.schema) is ∙ schema,
        subst (λ (d : Database). KeepsRows before.tables db.trees d.trees) (sym is) others,
        subst (λ (d : Database). d.trees (next_tree before) ≡ []) (sym is) fresh,
      )

  one_table : (limit : Option ℕ) (db now : Database) (tally : Tally) → db.schema ≡ before → AllByRecursion (λ table. db.trees table.tree ≡ []) before.tables → Does limit plain_mode [] db text None CreateTable (Ok (tally, now))
      → (now.schema ≡ after) × AllByRecursion (λ table. now.trees table.tree ≡ []) after.tables
  one_table limit db now tally has empty h =
      let it = one_made limit db now tally has h in
      let new : Table = record m.table { tree = next_tree before } in
      let others = empty_after before.tables db.trees now.trees it.1 empty in
      let tables : AllByRecursion (λ table. now.trees table.tree ≡ []) (created before m.table).tables = all_push (λ table. now.trees table.tree ≡ []) before.tables new others it.2 in
      (it.0, subst (λ (x : Schema). AllByRecursion (λ table. now.trees table.tree ≡ []) x.tables) m.is tables)

pub makes_table : (i : ℕ) (low : i < 8) → Makes (schema_after i) (get_or create_texts i []) CreateTable (creates_writes i low) [] (HasFirstTables i) (HasFirstTables (i + 1))
makes_table i low limit db after tally made does sound =
    let m = creates i low in
    let it = one_table (schema_after i) (get_or create_texts i []) (schema_after (i + 1)) m limit db after tally made.schema made.empty (subst (λ text. Does limit plain_mode [] db text None CreateTable (Ok (tally, after))) m.whole does) in
    record { schema = it.0; empty = it.1; sound = sound }

pub made_schema : (i : ℕ) (db : Database) → HasFirstTables i db → db.schema ≡ schema_after i
made_schema i db made = made.schema

-- ---- the first rows

none_got : {K X : Type 0} (cmp : K → K → _) → IsKeyOrder cmp → (k : K) (x : X) → ¬ (get (from_entries {R = cmp} []) k ≡ Some x)
none_got cmp order k x is = let e = sym (get-from_entries order.total [] k) ∙ is in absurd cc

none_spell : {K X : Type 0} (spelling : Spelling K X) (rows : List Row) → rows ≡ [] → Spells spelling rows
unfolding IsDistinct
none_spell spelling rows is = subst (Spells spelling) (sym is) (record { spelled = tt; apart = tt })

none_lawful : {K X : Type 0} (spelling : Spelling K X) (P : K × X → Type 0) → IsKeyOrder spelling.cmp → (rows : List Row) → rows ≡ [] → SpellLawful spelling P rows
none_lawful spelling P order rows is = subst (SpellLawful spelling P) (sym is) (record { spells = none_spell spelling [] refl; lawful = λ key value found. absurd (none_got spelling.cmp order key value found) })

none_have : (rows : List Row) → rows ≡ [] → HaveRowids rows
none_have rows is = subst HaveRowids (sym is) (record { keyed = λ row here. absurd here; apart = λ row other here there tie. absurd here })

-- nothing is the index of no images
empty_index : (rows : List Row) → rows ≡ [] → IsIndexOf empty_desk.images (map_of file_spelling rows)
empty_index rows is acc slot =
    subst (λ image. IsFileIn image slot (get (map_of file_spelling rows) (record { acc = acc; slot = slot }))) (sym (get-from_entries number_order.total [] acc))
    (ap (λ l. get (map_of file_spelling l) (record { acc = acc; slot = slot })) is ∙ get-from_entries file_order.total [] (record { acc = acc; slot = slot }))

pub makes_version : Makes desk_schema put_version_text put_version put_version_writes [] (HasFirstTables 8) (IsOf empty_desk)
makes_version limit db after tally made does sound =
    let h = puts_version (statement_of put_version_text (understood desk_schema put_version_text)) limit db after tally made.schema does in
    let e = made.empty in
    let deeds = h.1.stays 1 refl refl ∙ e.1.0 in
    let images = h.1.stays 2 refl refl ∙ e.1.1.0 in
    let rules = h.1.stays 3 refl refl ∙ e.1.1.1.0 in
    let keys = h.1.stays 5 refl refl ∙ e.1.1.1.1.0 in
    let checks = h.1.stays 7 refl refl ∙ e.1.1.1.1.1.0 in
    let files = h.1.stays 9 refl refl ∙ e.1.1.1.1.1.1.0 in
    let marks = h.1.stays 11 refl refl ∙ e.1.1.1.1.1.1.1.0 in
    let version : after.trees 0 ≡ version_row ∷ [] = h.1.now ∙ ap (put_row version_row) e.0 in
    record {
      schema = h.1.schema;
      rows = record {
        version = subst (HasVersion 2) (sym version) refl;
        deeds = none_spell deed_spelling _ deeds;
        images = none_spell image_spelling _ images;
        rules = none_spell rule_spelling _ rules;
        keys = none_spell key_spelling _ keys;
        checks = none_spell check_spelling _ checks;
        files = none_spell file_spelling _ files;
        marks = none_lawful marks_spelling (AreMarksIn (map_of image_spelling (after.trees 2))) number_order _ marks;
      };
      rowids = record { rules = none_have _ rules; keys = none_have _ keys; checks = none_have _ checks; files = none_have _ files };
      sound = sound;
      is = λ i. record { deeds = map_of deed_spelling (deeds i); images = (ap₂ (λ rows bytes. joined (map_of image_spelling rows) (map_of marks_spelling bytes)) images marks ∙ joined_none (from_entries [])) i; rules = map_of rule_spelling (rules i); keys = map_of key_spelling (keys i); checks = map_of check_spelling (checks i) };
      index = empty_index (after.trees 9) files;
    }

-- ---- a new desk is lawful

pub no_key : (digest : List ℕ) → get empty_desk.keys digest ≡ None
no_key digest = get-from_entries digest_order.total [] digest

pub lawful_new : (staff : List ℕ) → length staff ≡ 32 → IsLawful (new_desk staff)
lawful_new staff long = record {
  deeds = λ num deed found. absurd (none_got _ number_order num deed found);
  images = λ acc image found. absurd (none_got _ number_order acc image found);
  rules = λ place terms found. absurd (none_got _ place_order place terms found);
  keys = λ digest audience found. elim (found_after digest_cmp digest_order empty_desk.keys staff Staff digest audience found) [
    | inl new ↦ subst (λ x. IsKey x audience) (sym new.0) (subst (IsKey staff) new.1 (record { length_is = long; not_public = λ e. absurd cc }))
    | inr was ↦ absurd (none_got digest_cmp digest_order digest audience was)
  ];
  staff = (staff, get_inserted digest_cmp digest_order empty_desk.keys staff Staff);
  checks = λ checkup outcome found. absurd (none_got _ checkup_order checkup outcome found);
}

-- ---- the whole

module _ {S : Type 0} (g : Ghosts S) (laws : Laws g) (old new : Held S) (staff : List ℕ) (long : length staff ≡ 32) where
  -- a new desk rests on its connection
  pub rests_new : RestsIn (IsOf (new_desk staff)) (state g new) → IsDeskAt (state g new)
  rests_new at = rests_on (new_desk staff) (state g new) (record { of = at.holds; lawful = lawful_new staff long }) at.settled at.autocommit

  -- what a crash leaves of the making
  pub made_or_old : {T X : Type 0} (r : Result T X) → Turns g old new (IsOf (new_desk staff)) r → LeavesOldOrNew g old new (new_desk staff)
  made_or_old r turns was clean left may = elim (turns.crash was clean left may) [
    | inl before ↦ inl before
    | inr made ↦ inr (left_is (new_desk staff) made.0 left (record { of = made.1; lawful = lawful_new staff long }) made.2)
  ]

  pub only_new : HoldsDesk (state g new) → (IsOpen g new → desk g new ≡ new_desk staff) → IsOpen g new → LeavesOnly g new (new_desk staff)
  only_new holds is o = subst (LeavesOnly g new) (is o) (leaves_only g laws new holds o)
