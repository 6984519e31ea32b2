-- How far a history has come, line by line.
use Rattle.std.specs.Prelude.{◌≡◌, ◌≢◌, ◌+◌, ℕ, List, [], ◌∷◌, Bool, false, true, IsUtf8}
use Rattle.rd_chain.specs.declared.read.SummedLine.{SummedLine}
use Rattle.rd_history.specs.Reading.{IsLineOf}
use Rattle.rd_history.specs.declared.entry.Change.{Change}
use Rattle.rd_history.specs.declared.entry.Change.TheVariants.{Begin, DropKey, DropRule, Void}
use Rattle.rd_history.specs.declared.entry.Entry.{Entry}
use Rattle.rd_history.specs.declared.stage.Stage.{Stage}

-- before the first entry
abbrev pub START : Stage
START = record { number = 0; to_come = 0; ends_in_change = false }

-- a change stands alone
abbrev pub StandsAlone : Stage → Stage → Type 0
StandsAlone at next = (at.to_come ≡ 0) × (next.to_come ≡ 0) × (next.ends_in_change ≡ true)

-- a put is one of a base that is under way, or stands alone
abbrev pub IsListedOrAlone : Stage → Stage → Type 0
IsListedOrAlone at next =
    (at.to_come ≡ 0 → (next.to_come ≡ 0) × (next.ends_in_change ≡ true))
    × (at.to_come ≢ 0 → (at.to_come ≡ next.to_come + 1) × (next.ends_in_change ≡ false))

-- a change leads from one stage to the next: a base begins where none is under way, and only a change that stands alone
-- is taken back
abbrev pub Leads : Change → Stage → Stage → Type 0
Leads (Begin count) at next = (at.to_come ≡ 0) × (next.to_come ≡ count) × (next.ends_in_change ≡ false)
Leads (Void cause) at next = (at.ends_in_change ≡ true) × (next.to_come ≡ 0) × (next.ends_in_change ≡ false)
Leads (DropRule band scope rank) at next = StandsAlone at next
Leads (DropKey digest) at next = StandsAlone at next
Leads change at next = IsListedOrAlone at next

-- one entry more leads from one stage to the next
abbrev pub Steps : Change → Stage → Stage → Type 0
Steps change at next = (next.number ≡ at.number + 1) × Leads change at next

-- The line is that of the next entry.
pub record Follows (line : List ℕ) (at next : Stage) : Type 0 where
  pub entry : Entry
  pub text : IsUtf8 line
  pub of : IsLineOf line entry
  pub number : entry.number ≡ at.number + 1
  pub steps : Steps entry.change at next

-- from one stage to another, step by step
abbrev pub Path : {X : Type 0} → (X → Stage → Stage → Type 0) → Stage → List X → Stage → Type 0
Path Next at [] end = end ≡ at
Path Next at (x ∷ xs) end = (next : Stage) × Next x at next × Path Next next xs end

-- the lines are those of the next entries, and lead from one stage to another
abbrev pub Arrives : Stage → List (List ℕ) → Stage → Type 0
Arrives = Path Follows

-- the texts of lines that were read
abbrev pub text_of : SummedLine → List ℕ
text_of line = line.line.items

-- The lines are a history, which ends in a change alone that nothing has taken back, or does not.
pub record EndsSo (ends_in_change : Bool) (lines : List (List ℕ)) : Type 0 where
  pub end : Stage
  pub arrives : Arrives START lines end
  pub whole : end.to_come ≡ 0
  pub ends : end.ends_in_change ≡ ends_in_change
