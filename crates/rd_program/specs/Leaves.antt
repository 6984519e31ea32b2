-- What a command leaves of the store, stated over the connection that stood for it and the one
-- that the machine took back, if the machine shows both. If there was no connection, the machine
-- took none back, and nothing more is stated of such a run: only the machine knows what is in the
-- file then.
use Rattle.std.specs.Prelude.{◌≡◌, ◌⊎◌, ⊤, ℕ, ℤ, List, [], ◌∷◌, Err, IfSome, IsSome, IsTrue, Bool, None, Ok, Option, Result, Some, false, true}
use Rattle.sqlite.specs.Store.{Ghosts}
use Rattle.sqlite.specs.Effect.{Database}
use Rattle.sqlite.specs.Held.{Held, state}
use Rattle.rd_policy.specs.Days.{HasDay}
use Rattle.rd_policy.specs.Zones.{day_number}
use Rattle.rd_policy.specs.declared.zone.Zone.{Zone}
use Rattle.rd_store.specs.Held.{IsOpen, IsUntouched, Lasts, desk}
use Rattle.rd_store.specs.Migrated.{IsNotMigrated, SpellsDesk}
use Rattle.rd_holdings.specs.State.{Desk}
use Rattle.rd_store.specs.declared.faults.OpenFault.TheVariants as open_fault
use Rattle.rd_protocol.specs.Replies.{IsStep}
use Rattle.rd_protocol.specs.declared.request.What.{What}
use Rattle.rd_protocol.specs.declared.request.What.TheVariants as request
use Rattle.rd_commands.specs.Refusals.{status_of}
use Rattle.rd_commands.specs.Sheets.{Says}
use Rattle.rd_commands.specs.declared.refusal.Refusal.{Refusal}
use Rattle.rd_commands.specs.declared.refusal.Refusal.TheVariants.{Inconsistent, NoMemory, NotADesk, Store, Version}
use Rattle.rd_commands.specs.declared.sheet.SheetRow.{SheetRow}
use Rattle.rd_commands.specs.declared.words.Question.{Question}
use Rattle.rd_commands.specs.declared.words.Question.TheVariants as question

-- ---- two connections

-- what holds of the connection that stood for the store and of the one that was left, if the
-- machine shows both
abbrev pub IfBoth : {S : Type 0} → Option (Held S) → Option (Held S) → (Held S → Held S → Type 0) → Type 0
IfBoth old new P = IfSome old (λ before. IfSome new (P before))

-- the machine took no connection back: the one that it shows, if any, it showed before
abbrev pub LeavesNone : {S : Type 0} → Option (Held S) → Option (Held S) → Type 0
LeavesNone was new = IfSome new (λ after. was ≡ Some after)

-- this holds of the connection that stood and of the one that was left, if the machine shows both;
-- or it took none back
abbrev pub Leaves : {S : Type 0} → Option (Held S) → Option (Held S) → Option (Held S) → (Held S → Held S → Type 0) → Type 0
Leaves was old new P = IfBoth old new (λ before after. (was ≡ Some after) ⊎ P before after)

-- a machine that shows its connections had one for the store, and has taken one back
abbrev pub HasBoth : {S : Type 0} → Bool → Option (Held S) → Option (Held S) → Type 0
HasBoth shows stood left = IsTrue shows → IsSome stood × IsSome left

-- this holds after a command that is done or refused, at the status 0 or 1
abbrev pub OnEnded : {T : Type 0} → Result T Refusal → Type 0 → Type 0
OnEnded (Ok value) P = P
OnEnded (Err refusal) P = status_of refusal ≡ 1 → P

-- a machine that shows its connections, and had one, has one again
abbrev pub GivesBack : {S : Type 0} → Bool → Option (Held S) → Option (Held S) → Type 0
GivesBack shows was new = IsTrue shows → IsSome was → IsSome new

-- A connection is open only where it was, and shows a desk that was reached so from the one that it showed.
pub record LeavesDesk {S : Type 0} (g : Ghosts S) (Reached : Desk → Desk → Type 0) (before after : Held S) : Type 0 where
  pub lasts : Lasts g before after
  pub reached : IsOpen g after → Reached (desk g before) (desk g after)

-- A desk was reached so from the one that the tables of a database spell, those of version 1 or those of version 2.
pub record IsReached (db : Database) (Reached : Desk → Desk → Type 0) (new : Desk) : Type 0 where
  pub stood : Desk
  pub spelled : SpellsDesk db stood
  pub reached : Reached stood new

-- A connection is open only where it was. Its database is as it was, or shows a desk that was reached so from the one
-- that stood in its tables.
pub record LeavesStore {S : Type 0} (g : Ghosts S) (Reached : Desk → Desk → Type 0) (before after : Held S) : Type 0 where
  pub lasts : Lasts g before after
  pub reached : IsOpen g after → IsUntouched g before after ⊎ IsReached (state g before).now Reached (desk g after)

-- ---- where no desk was opened

-- a command says `not-a-desk`, `version` or `inconsistent` only if `Store::migrate` over the connection that stood answers
-- so
abbrev pub NamesOpening : {S : Type 0} → Ghosts S → Option (Held S) → Option (Held S) → Refusal → Type 0
NamesOpening g old new NotADesk = IfBoth old new (λ before after. IsNotMigrated g before after open_fault.NotADesk)
NamesOpening g old new Version = IfBoth old new (λ before after. IsNotMigrated g before after open_fault.Version)
NamesOpening g old new Inconsistent = IfBoth old new (λ before after. IsNotMigrated g before after open_fault.Inconsistent)
NamesOpening g old new refusal = ⊤

-- what stands where no desk was opened: the store failed only if its opening failed or there was no connection;
-- memory ran out only if there was no connection
abbrev pub LeavesUnopened : {S : Type 0} → Ghosts S → Option (Held S) → Option (Held S) → Option (Held S) → Refusal → Type 0
LeavesUnopened g was old new Store = Leaves was old new (λ before after. IsNotMigrated g before after open_fault.Sql)
LeavesUnopened g was old new NoMemory = LeavesNone was new
LeavesUnopened g was old new refusal = NamesOpening g old new refusal

-- the refusals that come after a desk was opened
abbrev pub IsOfOpenDesk : Refusal → Type 0
IsOfOpenDesk NotADesk = ⊥
IsOfOpenDesk Version = ⊥
IsOfOpenDesk Inconsistent = ⊥
IsOfOpenDesk refusal = ⊤

-- ---- what a desk is asked

-- the moment at which a desk is asked, as far as it is known: the one that is named or, if none is, the one that the
-- clock shows
abbrev pub moment_of : Option ℤ → Option ℤ → Option ℤ
moment_of (Some moment) clock = Some moment
moment_of None clock = clock

-- The day of a moment by the clocks of a zone: of this one if it is known, and otherwise of some moment.
pub record IsDayAt (moment : Option ℤ) (zone : Zone) (day : ℤ) : Type 0 where
  pub seconds : ℤ
  pub named : IfSome moment (λ asked. seconds ≡ asked)
  pub in_range : HasDay seconds
  pub is : day ≡ day_number seconds zone

-- the desk is as it was
abbrev pub IsSame : Desk → Desk → Type 0
IsSame old new = new ≡ old

-- the desk is as it was, or after the step of one check of the accession, for a caller with this badge, on one of
-- these days
abbrev pub Checks : Option (List ℕ) → ℕ → (ℤ → Type 0) → Desk → Desk → Type 0
Checks badge acc Days old new = (new ≡ old) ⊎ ((day : ℤ) × Days day × IsStep old day (record { badge = badge; what = request.Check acc }) new)

-- the catalogue and what is shown leave the desk as it was, and a check may record what it finds
abbrev pub StepsOf : Option (List ℕ) → (ℤ → Type 0) → Question → Desk → Desk → Type 0
StepsOf badge Days question.Catalogue old new = IsSame old new
StepsOf badge Days (question.Check acc) old new = Checks badge acc Days old new
StepsOf badge Days (question.Show what) old new = IsSame old new

-- ---- images that are taken in

-- a request to take in an image
abbrev pub IsPutImage : What → Type 0
IsPutImage (request.PutImage acc kind deed digest bytes) = ⊤
IsPutImage other = ⊥

-- these requests come in turn, from a caller with this badge on a day: each is to take in an
-- image, and after each the desk is that of its step
abbrev pub TakesInTurn : List ℕ → ℤ → List What → Desk → Desk → Type 0
TakesInTurn badge day [] old new = new ≡ old
TakesInTurn badge day (asked ∷ more) old new =
    IsPutImage asked × ((mid : Desk) × IsStep old day (record { badge = Some badge; what = asked }) mid × TakesInTurn badge day more mid new)

-- the desk is as it was, or images were taken in, in turn, on one of these days
abbrev pub TakesIn : List ℕ → (ℤ → Type 0) → Desk → Desk → Type 0
TakesIn badge Days old new = (new ≡ old) ⊎ ((day : ℤ) × Days day × ((asked : List What) × TakesInTurn badge day asked old new))

-- the same where images are taken in; where nothing is to be, the desk is as it was
abbrev pub TakesUnlessDry : Bool → List ℕ → (ℤ → Type 0) → Desk → Desk → Type 0
TakesUnlessDry true badge Days old new = IsSame old new
TakesUnlessDry false badge Days old new = TakesIn badge Days old new

-- ---- inside

-- the desk is as it was, or after the step of one request to take in the image of this row, whatever its bytes
abbrev pub TakesRow : List ℕ → ℤ → SheetRow → Desk → Desk → Type 0
TakesRow badge day row old new = (new ≡ old)
    ⊎ ((bytes : List ℕ) × IsStep old day (record { badge = Some badge; what = request.PutImage row.acc row.kind row.deed row.digest bytes }) new)

-- the desk is as it was, or after the step of one request to take in the image of the row that these fields say
abbrev pub TakesFields : List ℕ → ℤ → List (List ℕ) → Desk → Desk → Type 0
TakesFields badge day fields old new = (new ≡ old) ⊎ ((row : SheetRow) × Says fields row × TakesRow badge day row old new)
