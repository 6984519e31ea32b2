-- When a database is that of a desk, and why it is not opened as one.
use Rattle.std.specs.Prelude.{◌≡◌, ◌≢◌, ◌↔◌, ℕ, pos, List, map, length, Bool, true, false, Option, Some, None, IsSome, option_map, IsTrue, Result, Ok, Err, IfOk, IfErr, MatchBool, ⊤}
use Rattle.std.specs.Ordering.{nat_cmp}
use Rattle.std.specs.FinMap.{FinMap, get}
use Rattle.sqlite.specs.declared.types.Value.TheVariants.{Int}
use Rattle.sqlite.specs.Order.{Row, column}
use Rattle.sqlite.specs.Tree.{Trees}
use Rattle.sqlite.specs.Store.{Ghosts}
use Rattle.sqlite.specs.Query.{Query}
use Rattle.sqlite.specs.Effect.{Database, IsDatabase}
use Rattle.sqlite.specs.State.{State}
use Rattle.sqlite.specs.Held.{Held, state}
use Rattle.sqlite_rules.specs.Lists.{Has}
use Rattle.sqlite.specs.Schema.{Schema}
use Rattle.rd_geometry.specs.Blocks.{CBM_BLOCKS}
use Rattle.rd_geometry.specs.declared.kind.Kind.TheVariants.{D64}
use Rattle.rd_policy.specs.Days.{IsDay}
use Rattle.rd_policy.specs.Rules.{IsRule}
use Rattle.rd_policy.specs.declared.audience.Audience.TheVariants.{Staff}
use Rattle.rd_policy.specs.declared.rule.Band.{Band}
use Rattle.rd_policy.specs.declared.rule.Band.TheVariants.{Takedown, Deed}
use Rattle.rd_tables.specs.Asked.{IsListed}
use Rattle.rd_tables.specs.Queries as ask
use Rattle.rd_tables.specs.Schemas.{desk_schema, has_desk_columns, has_foreign_desk, may_be_desk, TellsVersion}
use Rattle.rd_volume.specs.declared.found.Found.{Found}
use Rattle.rd_tables.specs.Spellings.{HaveRowids, Spells, SpellLawful, map_of, seen}
use Rattle.rd_store.specs.declared.faults.OpenFault.{OpenFault}
use Rattle.rd_store.specs.declared.faults.OpenFault.TheVariants.{NotADesk, Version as OtherVersion, Inconsistent, Sql}
use Rattle.rd_store.specs.declared.opening.TableListing.{TableListing}
use Rattle.rd_store.specs.declared.opening.TableListing.TheVariants as all
use Rattle.rd_store.specs.declared.version.Version.{Version}
use Rattle.rd_store.specs.declared.version.Version.TheVariants.{First, Second}
use Rattle.rd_holdings.specs.declared.rows.ImageRow.{ImageRow}
use Rattle.rd_holdings.specs.declared.rows.Outcome.{Outcome}
use Rattle.rd_holdings.specs.State.{Place, Terms, Checkup, rule_of}
use Rattle.rd_holdings.specs.Lawful.{IsDeed, IsImage, IsKey, IsLawful}
use Rattle.rd_store.specs.RowColumns.{is_one_of}
use Rattle.rd_store.specs.Index.{AreFilesIn, IsFileIn, IsIndexOf}
use Rattle.rd_store.specs.Marks.{with_marks}
use Rattle.rd_store.specs.Spelled.{SpellDesk, HasVersion, desk_of, images_of, index_of, deed_spelling, image_spelling, marks_spelling, rule_spelling, key_spelling, check_spelling, file_spelling}
use Rattle.rd_tables.specs.Connections.{IsClean, IsOpen, IsUntouched, Lasts, LeavesOld, LeavesOpen, RestsOver, Stays}
use Rattle.rd_store.specs.Held.{HoldsTables, HoldsCommonTables, Holds, LeavesOnly, desk as desk_at}

-- The rows spell a desk of this version, it is a lawful one, and the index is that of its images.
pub record IsConsistentAs (number : ℕ) (trees : Trees) : Type 0 where
  pub spelled : SpellDesk number trees
  pub lawful : IsLawful (desk_of trees)
  pub index : IsIndexOf (images_of trees) (index_of trees)

-- the rows spell a lawful desk of version 2, and the index is that of its images
abbrev pub IsConsistent : Trees → Type 0
IsConsistent = IsConsistentAs 2

-- The table `desk` tells a version, wherever it stands and whatever stands beside it, and this is so of its rows.
pub record Says (Told : List Row → Type 0) (db : Database) : Type 0 where
  pub tree : ℕ
  pub tells : TellsVersion tree db.schema
  pub told : Told (db.trees tree)

-- what is told of a database by each refusal; why Sql is answered is not told
abbrev pub Refuses : OpenFault → Database → Type 0
Refuses NotADesk db = may_be_desk db.schema ≡ false
Refuses OtherVersion db = (has_desk_columns db.schema ≡ true) × Says (λ rows. ¬ HasVersion 2 rows) db
Refuses Inconsistent db = (db.schema ≡ desk_schema) × HasVersion 2 (db.trees 0) × ¬ IsConsistent db.trees
Refuses Sql db = may_be_desk db.schema ≡ true

-- A desk was opened: a table `desk` with its columns stands, and where the connection is open, all tables are
-- those of a desk and its rows too. The database is as it was.
pub record IsOpened {S : Type 0} (g : Ghosts S) (old new : Held S) : Type 0 where
  pub lasts : Lasts g old new
  pub named : has_desk_columns old.schema ≡ true
  pub plain : has_foreign_desk old.schema ≡ false
  pub tables : IsOpen g new → (state g old).now.schema ≡ desk_schema
  pub consistent : IsOpen g new → IsConsistent (state g old).now.trees
  pub is : IsOpen g new → desk_at g new ≡ desk_at g old
  pub untouched : IsOpen g new → IsUntouched g old new
  pub ends_open : IsClean g new → IsOpen g new
  pub crash : LeavesOld g old new
  pub durable : IsOpen g new → LeavesOnly g new (desk_at g old)

-- No desk was opened: NotADesk exactly where no table `desk` with its columns stands, nor one whose columns
-- are not told, and then nothing was done; where there is one whose columns are not told it is Sql. After Version
-- and Inconsistent the connection is open, where the disk has returned what was written. Where it is open, its
-- database is as it was.
pub record IsNotOpened {S : Type 0} (g : Ghosts S) (old new : Held S) (fault : OpenFault) : Type 0 where
  pub lasts : Lasts g old new
  pub no_desk : MatchBool (may_be_desk old.schema) (fault ≢ NotADesk) (fault ≡ NotADesk)
  pub foreign : has_foreign_desk old.schema ≡ true → fault ≡ Sql
  pub refused : IsOpen g new → Refuses fault (state g old).now
  pub same : fault ≡ NotADesk → new ≡ old
  pub untouched : IsOpen g new → IsUntouched g old new
  pub ends_open : fault ≢ NotADesk → fault ≢ Sql → IsClean g new → IsOpen g new
  pub crash : LeavesOld g old new

-- ---- inside

-- after a refusal that is told the connection is open, where the disk has returned what was written
abbrev pub RefusesOpen : {S T : Type 0} → Ghosts S → Held S → Result T OpenFault → Type 0
RefusesOpen g new result = IfErr result (λ fault. fault ≢ NotADesk → fault ≢ Sql → IsClean g new → IsOpen g new)

-- outside a transaction the last commit is what is seen
pub record IsSettledAt (s : State) : Type 0 where
  pub settled : IsTrue s.is_open → s.committed ≡ s.now
  pub autocommit : s.in_transaction ≡ false

-- while it is open, it is so over the tables that stand
abbrev pub IsResting : State → Type 0
IsResting s = IsTrue s.is_open → RestsOver s.now.schema s

-- the desk that it shows is a lawful one
abbrev pub IsHeld : Database → Type 0
IsHeld db = Holds (desk_of db.trees) db

-- the rows keep what their tables declare
abbrev pub IsSoundAt : State → Type 0
IsSoundAt s = IsTrue s.is_open → IsDatabase s.now

-- what each refusal by a test of rows says: after Inconsistent it does not hold
abbrev pub Denied : Type 0 → OpenFault → Type 0
Denied P Inconsistent = ¬ P
Denied P Sql = ⊤
Denied P fault = ⊥

-- after Inconsistent what was tested does not hold, and after Ok a part of it holds; no other refusal but Sql is given
abbrev pub JudgedPart : {T : Type 0} → Type 0 → Type 0 → Result T OpenFault → Type 0
JudgedPart Part P (Ok value) = Part
JudgedPart Part P (Err fault) = Denied P fault

-- after Inconsistent what was tested does not hold, and after Ok all of it holds; no other refusal but Sql is given
abbrev pub Judged : {T : Type 0} → Type 0 → Result T OpenFault → Type 0
Judged P = JudgedPart P P

-- A test of the rows that a connection shows: after Ok a part of this holds of them, and after Inconsistent
-- it does not hold.
pub record TestsPart {S T : Type 0} (g : Ghosts S) (old new : Held S) (result : Result T OpenFault) (Part P : Trees → Type 0) : Type 0 where
  pub stays : Stays g old new
  pub judges : IsOpen g new → JudgedPart (Part (state g old).now.trees) (P (state g old).now.trees) result
  pub ends_open : LeavesOpen g new result
  pub refuses : RefusesOpen g new result
  pub named : IfErr result (λ fault. fault ≢ NotADesk)

-- after Ok all of it holds
abbrev pub Tests : {S T : Type 0} → Ghosts S → Held S → Held S → Result T OpenFault → (Trees → Type 0) → Type 0
Tests g old new result P = TestsPart g old new result P P

-- A test of the database that a connection shows: what it says after Ok, and by each refusal.
pub record TestsDatabase {S T : Type 0} (g : Ghosts S) (old new : Held S) (result : Result T OpenFault) (Good : T → Database → Type 0) (Bad : OpenFault → Database → Type 0) : Type 0 where
  pub stays : Stays g old new
  pub holds : IsOpen g new → IfOk result (λ value. Good value (state g old).now)
  pub refused : IsOpen g new → IfErr result (λ fault. Bad fault (state g old).now)
  pub ends_open : LeavesOpen g new result
  pub refuses : RefusesOpen g new result

-- after Ok it is that of a desk
abbrev pub TestsDesk : {S T : Type 0} → Ghosts S → Held S → Held S → Result T OpenFault → Type 0
TestsDesk g old new result = TestsDatabase g old new result (λ value. IsHeld) Refuses

-- a table `desk` with its columns stands, and none whose columns are not told
abbrev pub IsNamed : Schema → Type 0
IsNamed schema = (has_desk_columns schema ≡ true) × (has_foreign_desk schema ≡ false)

-- there is none, or one whose columns are not told
abbrev pub IsNoDesk : OpenFault → Schema → Type 0
IsNoDesk NotADesk schema = may_be_desk schema ≡ false
IsNoDesk Sql schema = has_foreign_desk schema ≡ true
IsNoDesk fault schema = ⊥

-- What the test of a database tells of the table `desk`.
pub record NamesDesk {S T : Type 0} (old new : Held S) (result : Result T OpenFault) : Type 0 where
  pub named : IfOk result (λ value. IsNamed old.schema)
  pub no_desk : IfErr result (λ fault. MatchBool (may_be_desk old.schema) (fault ≢ NotADesk) (fault ≡ NotADesk))
  pub foreign : IfErr result (λ fault. has_foreign_desk old.schema ≡ true → fault ≡ Sql)
  pub same : IfErr result (λ fault. fault ≡ NotADesk → new ≡ old)

-- the numbers are the keys of the map
abbrev pub AreKeys : {X : Type 0} → FinMap nat_cmp X → List ℕ → Type 0
AreKeys map numbers = (n : ℕ) → Has numbers n ↔ IsSome (get map n)

-- what is told of the version that the one row says
abbrev pub IsSaid : Option Version → List Row → Type 0
IsSaid (Some First) rows = HasVersion 1 rows
IsSaid (Some Second) rows = HasVersion 2 rows
IsSaid None rows = ¬ HasVersion 1 rows × ¬ HasVersion 2 rows

-- ---- the listing of a table

-- the text that asks for all rows of the table
abbrev pub listing_text : TableListing → List ℕ
listing_text all.Deeds = ask.all_deeds_text
listing_text all.Rules = ask.all_rules_text
listing_text all.Keys = ask.all_keys_text
listing_text all.Checks = ask.all_checks_text
listing_text all.Files = ask.all_files_text
listing_text all.Marks = ask.all_marks_text

-- the query that the text means
abbrev pub listing_query : TableListing → Query
listing_query all.Deeds = ask.all_deeds_query
listing_query all.Rules = ask.all_rules_query
listing_query all.Keys = ask.all_keys_query
listing_query all.Checks = ask.all_checks_query
listing_query all.Files = ask.all_files_query
listing_query all.Marks = ask.all_marks_query

-- the number of the tree that has the rows of the table
abbrev pub listing_tree : TableListing → ℕ
listing_tree all.Deeds = 1
listing_tree all.Rules = 3
listing_tree all.Keys = 5
listing_tree all.Checks = 7
listing_tree all.Files = 9
listing_tree all.Marks = 11

-- the tables that must be there for a listing
abbrev pub HoldsListed : TableListing → State → Type 0
HoldsListed all.Marks = HoldsTables
HoldsListed table = HoldsCommonTables

-- ---- the rows of one table spell lawful entries

-- the rows spell deeds within their limits, by number
abbrev pub LawfulDeeds : Trees → Type 0
LawfulDeeds trees = SpellLawful deed_spelling (λ e. IsDeed e.0 e.1) (trees 1)

-- an image within its limits, which came by one of these deeds
abbrev pub IsImageOf : List ℕ → ℕ × ImageRow → Type 0
IsImageOf deeds e = IsImage e.0 e.1 × Has deeds e.1.deed

-- such images by accession
abbrev pub LawfulImages : List ℕ → Trees → Type 0
LawfulImages deeds trees = SpellLawful image_spelling (IsImageOf deeds) (trees 2)

-- the accession or the deed of a rule is one of these
abbrev pub StandsAmong : List ℕ → List ℕ → Band → ℕ → Type 0
StandsAmong accessions deeds Takedown scope = Has accessions scope
StandsAmong accessions deeds Deed scope = Has deeds scope

-- a rule within its limits, about one of these
abbrev pub IsRuleOf : List ℕ → List ℕ → Place × Terms → Type 0
IsRuleOf accessions deeds e = IsRule (rule_of e) × StandsAmong accessions deeds e.0.band e.0.scope

-- such rules by place
abbrev pub LawfulRules : List ℕ → List ℕ → Trees → Type 0
LawfulRules accessions deeds trees = SpellLawful rule_spelling (IsRuleOf accessions deeds) (trees 3)

-- the rows of keys are lawful, and one of the keys is of the staff
abbrev pub LawfulKeys : Trees → Type 0
LawfulKeys trees = SpellLawful key_spelling (λ e. IsKey e.0 e.1) (trees 5) × ((digest : List ℕ) × (get (map_of key_spelling (trees 5)) digest ≡ Some Staff))

-- a check on a day, of one of these accessions
abbrev pub IsCheckOf : List ℕ → Checkup × Outcome → Type 0
IsCheckOf accessions e = IsDay e.0.day × Has accessions e.0.acc

-- such checks by accession and day
abbrev pub LawfulChecks : List ℕ → Trees → Type 0
LawfulChecks accessions trees = SpellLawful check_spelling (IsCheckOf accessions) (trees 7)

-- error bytes, one for each block, of one of these accessions
abbrev pub AreMarksOf : List ℕ → ℕ × List ℕ → Type 0
AreMarksOf accessions e = (length e.1 ≡ CBM_BLOCKS) × Has accessions e.0

-- such error bytes by accession
abbrev pub LawfulMarks : List ℕ → Trees → Type 0
LawfulMarks accessions trees = SpellLawful marks_spelling (AreMarksOf accessions) (trees 11)

-- Error bytes are asked for where an accession is one of those that have any.
abbrev pub marks_if : Bool → Option (List ℕ) → Option (List ℕ)
marks_if false marks = None
marks_if true marks = marks

-- the image of an accession, with its error bytes where it is said to have any
abbrev pub image_if : Bool → Trees → ℕ → Option ImageRow
image_if is_marked trees acc = option_map (with_marks (marks_if is_marked (get (map_of marks_spelling (trees 11)) acc))) (get (map_of image_spelling (trees 2)) acc)

-- a number is one of these
abbrev pub is_among : List ℕ → ℕ → Bool
is_among numbers n = is_one_of numbers (Int (pos n))

-- the image of an accession, where these have error bytes
abbrev pub image_among : List ℕ → Trees → ℕ → Option ImageRow
image_among marked trees acc = image_if (is_among marked acc) trees acc

-- A D64 stands at the accession.
pub record HasDisk (acc : ℕ) (trees : Trees) : Type 0 where
  pub image : ImageRow
  pub stands : get (map_of image_spelling (trees 2)) acc ≡ Some image
  pub kind : image.kind ≡ D64

-- an accession with error bytes has a D64
abbrev pub HasDiskIf : Bool → ℕ → Trees → Type 0
HasDiskIf is_marked acc trees = IsTrue is_marked → HasDisk acc trees

-- the table of error bytes is there to be asked, where an image has any
abbrev pub HoldsMarksIf : Bool → State → Type 0
HoldsMarksIf is_marked s = IsTrue is_marked → HoldsTables s

-- where an accession is among these, the table of error bytes is there to be asked for it
abbrev pub HoldsMarksOf : List ℕ → State → Type 0
HoldsMarksOf marked s = (acc : ℕ) → HoldsMarksIf (is_among marked acc) s

-- the index has the files of an image, each at its slot, and nothing else of its accession
abbrev pub IsIndexAt : Option ImageRow → ℕ → Trees → Type 0
IsIndexAt image acc trees = (slot : ℕ) → IsFileIn image slot (get (index_of trees) (record { acc = acc; slot = slot }))

-- The rows of the index spell it, and at one accession it is that of its image.
pub record IsFiledAt (is_marked : Bool) (acc : ℕ) (trees : Trees) : Type 0 where
  pub spells : Spells file_spelling (trees 9)
  pub disk : HasDiskIf is_marked acc trees
  pub index : IsIndexAt (image_if is_marked trees acc) acc trees

-- The index is that of the images, of which these have error bytes, and a D64 stands at each of those.
pub record LawfulFiles (marked accessions : List ℕ) (trees : Trees) : Type 0 where
  pub spells : Spells file_spelling (trees 9)
  pub disks : (acc : ℕ) → Has accessions acc → HasDiskIf (is_among marked acc) acc trees
  pub index : (acc : ℕ) → IsIndexAt (image_among marked trees acc) acc trees

-- each row of the index is for one of these accessions
abbrev pub AreFiledUnder : List ℕ → Trees → Type 0
AreFiledUnder accessions trees = (row : Row) → Has (trees 9) row → is_one_of accessions (column row 1) ≡ true

-- all rows of the index were listed, and each has a rowid of its own
abbrev pub AreListed : Trees → Type 0
AreListed trees = (rows : List Row) × IsListed ask.all_files_query (trees 9) rows

-- each row of the index has the number of an accession
abbrev pub HaveAccessions : Trees → Type 0
HaveAccessions trees = (row : Row) → Has (trees 9) row → (acc : ℕ) × (column row 1 ≡ Int (pos acc))

-- Of an accession the rows of the index are those of the files of its image.
pub record HasFiles (is_marked : Bool) (acc : ℕ) (trees : Trees) : Type 0 where
  pub files : List Found
  pub disk : HasDiskIf is_marked acc trees
  pub are : AreFilesIn (image_if is_marked trees acc) files
  pub each : (row : Row) → Has (trees 9) row → column row 1 ≡ Int (pos acc) → (file : Found) × Has files file × (seen file_spelling.places row ≡ file_spelling.columns (record { acc = acc; slot = file.slot }, file))
  pub all : (file : Found) → Has files file → (row : Row) × Has (trees 9) row × (seen file_spelling.places row ≡ file_spelling.columns (record { acc = acc; slot = file.slot }, file))

-- of each of these accessions the rows of the index are those of the files of its image
abbrev pub HaveFiles : List ℕ → List ℕ → Trees → Type 0
HaveFiles marked accessions trees = (acc : ℕ) → Has accessions acc → HasFiles (is_among marked acc) acc trees

-- ---- and those of several tables

-- the deeds, and images each of a deed that stands
abbrev pub LawfulGiven : Trees → Type 0
LawfulGiven trees = LawfulDeeds trees × SpellLawful image_spelling (λ e. IsImage e.0 e.1 × IsSome (get (map_of deed_spelling (trees 1)) e.1.deed)) (trees 2)

-- the accession or the deed of a rule stands
abbrev pub StandsIn : Trees → Band → ℕ → Type 0
StandsIn trees Takedown scope = IsSome (get (map_of image_spelling (trees 2)) scope)
StandsIn trees Deed scope = IsSome (get (map_of deed_spelling (trees 1)) scope)

-- the numbers of the deeds and the accessions
abbrev pub AreNumbers : Trees → List ℕ → List ℕ → Type 0
AreNumbers trees deeds accessions = AreKeys (map_of deed_spelling (trees 1)) deeds × AreKeys (map_of image_spelling (trees 2)) accessions

-- in their tables no two rows share a rowid
abbrev pub HaveOtherRowids : Trees → Type 0
HaveOtherRowids trees = HaveRowids (trees 3) × HaveRowids (trees 5) × HaveRowids (trees 7)

-- the rules, the desk keys and the checks
abbrev pub LawfulOthers : List ℕ → List ℕ → Trees → Type 0
LawfulOthers accessions deeds trees = LawfulRules accessions deeds trees × LawfulKeys trees × LawfulChecks accessions trees

-- The rows of the tables that each version has, but for the index, are those of a desk.
pub record LawfulCommon (trees : Trees) : Type 0 where
  pub given : LawfulGiven trees
  pub rules : SpellLawful rule_spelling (λ e. IsRule (rule_of e) × StandsIn trees e.0.band e.0.scope) (trees 3)
  pub keys : LawfulKeys trees
  pub checks : SpellLawful check_spelling (λ e. IsDay e.0.day × IsSome (get (map_of image_spelling (trees 2)) e.0.acc)) (trees 7)
