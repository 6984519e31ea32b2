-- A clock that shows a day more than one day before that of a recorded check: it is wrong, unless that check was made
-- by one that was.
use Rattle.std.specs.Prelude.{◌≡◌, ⊤, ℤ, ◌+ℤ◌, pos, Bool, IfSome, IsTrue, None, Option, false, true}
use Rattle.sqlite.specs.Held.{Held, state}
use Rattle.sqlite.specs.Store.{Ghosts}
use Rattle.rd_holdings.specs.State.{Desk}
use Rattle.rd_policy.specs.Days.{HasDay}
use Rattle.rd_policy.specs.Zones.{day_number}
use Rattle.rd_policy.specs.declared.zone.Zone.{Zone}
use Rattle.rd_store.specs.Held.{IsOpen, desk}
use Rattle.rd_store.specs.Latest.{HasCheckAfter, HasNoCheckAfter}
use Rattle.rd_store.specs.Migrated.{SpellsDesk}
use Rattle.rd_commands.specs.declared.refusal.Refusal.{Refusal}
use Rattle.rd_commands.specs.declared.refusal.Refusal.TheVariants.{Clock}
use Rattle.rd_commands.specs.declared.words.Question.{Question}
use Rattle.rd_commands.specs.declared.words.Question.TheVariants as question
use Rattle.rd_program.specs.Showing.{EndsWith}

-- the desk has recorded no check of a later day than the one after this day: clocks of two places may show days that
-- differ by one
abbrev pub IsOnTime : ℤ → Desk → Type 0
IsOnTime day desk = HasNoCheckAfter (day +ℤ pos 1) desk

-- it has recorded one
abbrev pub IsBehind : ℤ → Desk → Type 0
IsBehind day desk = HasCheckAfter (day +ℤ pos 1) desk

-- While the connection is open, the desk that the tables spelled was on time on this day.
abbrev pub StoodOnTime : {S : Type 0} → Ghosts S → ℤ → Held S → Held S → Type 0
StoodOnTime g day before last = IsOpen g last → (found : Desk) × SpellsDesk (state g before).now found × IsOnTime day found

-- The desk that stood was on time by the clock, if the machine shows that.
abbrev pub WasOnTime : {S : Type 0} → Ghosts S → Option ℤ → Zone → Option (Held S) → Option (Held S) → Type 0
WasOnTime g clock zone stood left = IfSome clock (λ seconds. EndsWith stood left (StoodOnTime g (day_number seconds zone)))

-- While the connection is open, the desk that the tables spelled had recorded a check that makes the clock wrong.
abbrev pub StoodBehind : {S : Type 0} → Ghosts S → ℤ → Held S → Held S → Type 0
StoodBehind g day before last = IsOpen g last → (found : Desk) × SpellsDesk (state g before).now found × IsBehind day found

-- The desk that stood was on time by the clock, if the machine shows that and its moment has a day: each visit finds a
-- moment that has none.
abbrev pub ServesOnTime : {S : Type 0} → Ghosts S → Option ℤ → Zone → Option (Held S) → Option (Held S) → Type 0
ServesOnTime g clock zone stood left = IfSome clock (λ seconds. HasDay seconds → EndsWith stood left (StoodOnTime g (day_number seconds zone)))

-- ---- inside

-- the answer to a question depends on the day
abbrev pub is_dated : Question → Bool
is_dated question.Catalogue = true
is_dated (question.Check acc) = true
is_dated (question.Show what) = false

-- the day is that of the machine's clock, and it has to be on time: no moment is named, and the clock is not trusted
abbrev pub must_be_on_time : Option ℤ → Bool → Bool
must_be_on_time None false = true
must_be_on_time moment trusted = false

-- Over an open desk `clock` comes at a moment that is known and has a day only if what is asked depends on the day, the
-- day has to be on time, and the desk is behind.
abbrev pub IsBehindOn : {S : Type 0} → Ghosts S → Bool → Bool → Option ℤ → Zone → Held S → Held S → Refusal → Type 0
IsBehindOn g dated must moment zone opened last Clock =
    IfSome moment (λ seconds. HasDay seconds → (dated ≡ true) × IsTrue must × (IsOpen g last → IsBehind (day_number seconds zone) (desk g opened)))
IsBehindOn g dated must moment zone opened last refusal = ⊤

-- the same of the desk that stood
abbrev pub IsBehindIn : {S : Type 0} → Ghosts S → Bool → Bool → Option ℤ → Zone → Option (Held S) → Option (Held S) → Refusal → Type 0
IsBehindIn g dated must moment zone stood left Clock =
    IfSome moment (λ seconds. HasDay seconds → (dated ≡ true) × IsTrue must × EndsWith stood left (StoodBehind g (day_number seconds zone)))
IsBehindIn g dated must moment zone stood left refusal = ⊤

-- an open desk was on time by the moment, if there is one and it has a day
abbrev pub IsOnTimeBy : {S : Type 0} → Ghosts S → Option ℤ → Zone → Held S → Held S → Type 0
IsOnTimeBy g shown zone opened last = IfSome shown (λ seconds. HasDay seconds → IsOpen g last → IsOnTime (day_number seconds zone) (desk g opened))
