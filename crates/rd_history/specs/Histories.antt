-- Which entries are a history, and which lines are those of one.
use Rattle.std.specs.Prelude.{◌≡◌, ◌+◌, ℕ, ℤ, List, [], ◌∷◌, ◌++◌, IsUtf8, None, flat_map, length, map}
use Rattle.std.specs.List.{AllByRecursion}
use Rattle.sqlite.specs.Effect.{Database}
use Rattle.rd_chain.specs.Rows.{IsChain, lines_of}
use Rattle.rd_history.specs.Entries.{HasDigests, IsEntry}
use Rattle.rd_history.specs.Lines.{line_of}
use Rattle.rd_history.specs.declared.entry.Cause.{Cause}
use Rattle.rd_history.specs.declared.entry.Change.{Change}
use Rattle.rd_history.specs.declared.entry.Change.TheVariants.{Begin, DropKey, DropRule, Void}
use Rattle.rd_history.specs.declared.entry.Entry.{Entry}

-- a change that a request asks: it begins nothing, and takes nothing back
abbrev pub IsAsked : Change → Type 0
IsAsked (Begin count) = ⊥
IsAsked (Void cause) = ⊥
IsAsked other = Unit {0}

-- to put something; a base lists nothing else
abbrev pub IsPut : Change → Type 0
IsPut (DropRule band scope rank) = ⊥
IsPut (DropKey digest) = ⊥
IsPut other = IsAsked other

-- behind a change stands nothing more of its part, or that it was not carried out
abbrev pub IsTail : List Change → Type 0
IsTail [] = Unit {0}
IsTail (Void cause ∷ []) = Unit {0}
IsTail other = ⊥

-- a part of a history: a base, whose first entry says how many entries behind it tell what stands; or a change, and
-- perhaps that it was not carried out
abbrev pub IsPart : List Change → Type 0
IsPart [] = ⊥
IsPart (Begin count ∷ listed) = (length listed ≡ count) × AllByRecursion IsPut listed
IsPart (change ∷ tail) = IsAsked change × IsTail tail

-- The changes are parts, one after the other.
pub record AreParts (changes : List Change) : Type 0 where
  pub parts : List (List Change)
  pub each : AllByRecursion IsPart parts
  pub are : changes ≡ flat_map (λ part. part) parts

-- entries from a number on, one by one, each within its limits, with digests of 32 bytes
abbrev pub AreNumbered : ℕ → List Entry → Type 0
AreNumbered number [] = Unit {0}
AreNumbered number (entry ∷ entries) =
    (entry.number ≡ number) × IsEntry entry × HasDigests entry × AreNumbered (number + 1) entries

-- what entries tell, one by one
abbrev pub changes_of : List Entry → List Change
changes_of entries = map (λ entry. entry.change) entries

-- The lines, each of them UTF-8, are those of the entries of a history: these have the numbers from 1 on, and their
-- changes are parts.
pub record AreLinesOf (entries : List Entry) (lines : List (List ℕ)) : Type 0 where
  pub are : lines ≡ map line_of entries
  pub texts : AllByRecursion IsUtf8 lines
  pub numbered : AreNumbered 1 entries
  pub parts : AreParts (changes_of entries)

-- the lines are a history
abbrev pub IsHistory : List (List ℕ) → Type 0
IsHistory lines = (entries : List Entry) × AreLinesOf entries lines

-- the database is the chain of a history
abbrev pub HoldsHistory : Database → Type 0
HoldsHistory db = IsChain db × IsHistory (lines_of db.trees)

-- behind these lines one entry with this change may come: they are a history with it, too
abbrev pub MayCome : Change → List (List ℕ) → Type 0
MayCome change lines = (entries : List Entry) → AreLinesOf entries lines → AreParts (changes_of entries ++ change ∷ [])

-- the last entry may be taken back
abbrev pub MayBeTakenBack : List (List ℕ) → Type 0
MayBeTakenBack lines = (cause : Cause) → MayCome (Void cause) lines

-- an entry of a base: no key asked it
abbrev pub base_entry : ℤ → List ℕ → ℕ → Change → Entry
base_entry moment note number change =
    record { badge = None; change = change; moment = moment; note = note; number = number; staff = [] }

-- entries of a base, with the numbers from one on
abbrev pub base_entries : ℤ → List ℕ → ℕ → List Change → List Entry
base_entries moment note number [] = []
base_entries moment note number (change ∷ changes) = base_entry moment note number change ∷ base_entries moment note (number + 1) changes

-- the lines of a base: that what stood before counts no more, and what stands
abbrev pub base_lines : ℤ → List ℕ → ℕ → List Change → List (List ℕ)
base_lines moment note number listed = map line_of (base_entries moment note number (Begin (length listed) ∷ listed))

-- the line of an entry at a number
abbrev pub line_at : ℕ → Entry → List ℕ
line_at number entry = line_of (record entry { number = number })

-- lines with that of one entry more behind them, which has the next number
abbrev pub with_entry : List (List ℕ) → Entry → List (List ℕ)
with_entry lines entry = lines ++ line_at (length lines + 1) entry ∷ []

-- an entry that takes the one before it back at a moment, for a cause: no key asked it, and nobody wrote beside it
abbrev pub void_of : ℤ → Cause → Entry
void_of moment cause =
    record { badge = None; change = Void cause; moment = moment; note = []; number = 1; staff = [] }
