-- A desk that is copied into a database without tables.
use Rattle.std.specs.Prelude.{◌≡◌, ◌⊎◌, ℕ, Bool, IfOk, IsTrue, map, MatchBool, Result, Some, ⊤}
use Rattle.sqlite.specs.declared.types.Value.{Value}
use Rattle.sqlite.specs.declared.types.Value.TheVariants.{Real}
use Rattle.std.specs.FinMap.{FinMap, entries, get}
use Rattle.std.specs.Ordering.{nat_cmp}
use Rattle.sqlite.specs.Store.{Ghosts}
use Rattle.sqlite.specs.Effect.{Database}
use Rattle.sqlite.specs.Held.{Held}
use Rattle.rd_tables.specs.Schemas.{IsBlank, has_desk}
use Rattle.rd_store.specs.declared.copying.Holdings.{Holdings}
use Rattle.rd_store.specs.declared.faults.CreateFault.{CreateFault}
use Rattle.rd_store.specs.declared.faults.CreateFault.TheVariants.{Exists, Sql}
use Rattle.rd_policy.specs.declared.audience.Audience.{Audience}
use Rattle.rd_holdings.specs.Findings.{finding_of}
use Rattle.rd_holdings.specs.State.{Checkup, Desk, Terms, all_rules, checkup_cmp, digest_cmp, place_cmp}
use Rattle.rd_holdings.specs.declared.rows.DeedRow.{DeedRow}
use Rattle.rd_holdings.specs.declared.rows.Finding.{Finding}
use Rattle.rd_holdings.specs.declared.rows.ImageRow.{ImageRow}
use Rattle.rd_holdings.specs.declared.rows.Outcome.{Outcome}
use Rattle.rd_store.specs.Created.{LeavesOldOrNew}
use Rattle.rd_store.specs.Held.{IsClean, IsOpen, Keeps, LacksImage, Lasts, LeavesOnly, LeavesOpen, desk as desk_at}

-- The desk of one connection was copied into the database of another, which had no tables: where both are open, the desk is
-- the same in both. A crash leaves there what it left before or that desk, where the disk of each has returned what was
-- written, and now that desk and nothing else.
pub record IsCopied {S : Type 0} (g : Ghosts S) (from read old new : Held S) : Type 0 where
  pub lasts : IsClean g read → Lasts g old new
  pub blank : IsBlank old.schema
  pub is : IsOpen g read → IsOpen g new → desk_at g new ≡ desk_at g from
  pub ends_open : IsClean g new → IsOpen g new
  pub read_open : IsClean g read → IsOpen g read
  pub crash : IsClean g read → LeavesOldOrNew g old new (desk_at g from)
  pub durable : IsOpen g new → LeavesOnly g new (desk_at g new)

-- It was not copied: Exists exactly where a table `desk` stands, and then nothing was done; nor was anything done where any
-- table, index or view stands. A crash leaves what it left before or the desk that was to be copied, where the disk of each
-- has returned what was written.
pub record IsNotCopied {S : Type 0} (g : Ghosts S) (from read old new : Held S) (fault : CreateFault) : Type 0 where
  pub lasts : IsClean g read → Lasts g old new
  pub exists : MatchBool (has_desk old.schema) (fault ≡ Exists) (fault ≡ Sql)
  pub same : fault ≡ Exists → new ≡ old
  pub occupied : ¬ IsBlank old.schema → new ≡ old
  pub crash : IsClean g read → LeavesOldOrNew g old new (desk_at g from)

-- ---- inside

-- a connection stays as it is, or a call leaves its desk as it was
abbrev pub KeepsOrStays : {S : Type 0} → Ghosts S → Held S → Held S → Type 0
KeepsOrStays g old new = (new ≡ old) ⊎ Keeps g old new

-- the disk of another connection has returned what was written, and of a database this holds
abbrev pub AndClean : {S : Type 0} → Ghosts S → Held S → (Database → Type 0) → Database → Type 0
AndClean g read P db = IsClean g read × P db

-- the database is that of a desk which has no image at an accession, and another desk has this one there
abbrev pub TakesImage : ℕ → ImageRow → Desk → Desk → Database → Type 0
TakesImage acc image from before db = (get from.images acc ≡ Some image) × LacksImage acc before db

-- a check, with the number of its accession
abbrev pub numbered_check : Checkup × Outcome → ℕ × Finding
numbered_check e = (e.0.acc, finding_of e)

-- These are all that the desk holds beside its images.
pub record AreHoldingsOf (desk : Desk) (holdings : Holdings) : Type 0 where
  pub deeds_are : holdings.deeds.items ≡ entries desk.deeds
  pub rules_are : holdings.rules ≡ all_rules desk
  pub keys_are : holdings.keys.items ≡ entries desk.keys
  pub checks_are : holdings.checks.items ≡ map numbered_check (entries desk.checks)

-- the desk with these deeds in place of its own
abbrev pub with_deeds : FinMap nat_cmp DeedRow → Desk → Desk
with_deeds deeds desk = record desk { deeds = deeds }

-- with these images
abbrev pub with_images : FinMap nat_cmp ImageRow → Desk → Desk
with_images images desk = record desk { images = images }

-- with these rules
abbrev pub with_rules : FinMap place_cmp Terms → Desk → Desk
with_rules rules desk = record desk { rules = rules }

-- with these keys
abbrev pub with_keys : FinMap digest_cmp Audience → Desk → Desk
with_keys keys desk = record desk { keys = keys }

-- with these checks
abbrev pub with_checks : FinMap checkup_cmp Outcome → Desk → Desk
with_checks checks desk = record desk { checks = checks }

-- Two stores were asked, and this is answered of both desks, or the call fails. After Ok each is open, if its disk has
-- returned what was written.
pub record Compares {S T X : Type 0} (g : Ghosts S) (one_old one_new other_old other_new : Held S) (result : Result T X) (Answers : T → Type 0) : Type 0 where
  pub one : Keeps g one_old one_new
  pub other : Keeps g other_old other_new
  pub answer : IsOpen g one_new → IsOpen g other_new → IfOk result Answers
  pub one_open : LeavesOpen g one_new result
  pub other_open : LeavesOpen g other_new result

-- a value is no number with a fraction, which no desk has
abbrev pub IsWhole : Value → Type 0
IsWhole (Real number) = ⊥
IsWhole value = ⊤

-- what is told to be the same is
abbrev pub TellsSame : {A : Type 0} → A → A → Bool → Type 0
TellsSame one other told = IsTrue told → one ≡ other

-- A copy has the same desk as the connection that was read, where both are open.
pub record IsSameCopy {S : Type 0} (g : Ghosts S) (copy from read new : Held S) : Type 0 where
  pub same : IsOpen g read → IsOpen g new → desk_at g from ≡ desk_at g new
  pub ends_open : IsClean g new → IsOpen g new

-- A connection was opened as a store, or it was not: a crash leaves what it left before, or its desk.
pub record LeavesCopy {S : Type 0} (g : Ghosts S) (old new : Held S) : Type 0 where
  pub lasts : Lasts g old new
  pub crash : LeavesOldOrNew g old new (desk_at g old)

-- It was, and has the same desk as the connection that was read, where both are open.
pub record OpensCopy {S : Type 0} (g : Ghosts S) (from read old new : Held S) : Type 0 where
  pub leaves : LeavesCopy g old new
  pub same : IsOpen g read → IsOpen g new → desk_at g from ≡ desk_at g new
  pub ends_open : IsClean g new → IsOpen g new
  pub durable : IsOpen g new → LeavesOnly g new (desk_at g new)
