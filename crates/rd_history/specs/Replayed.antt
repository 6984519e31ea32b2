-- What the entries of a history ask in effect, and where a history may be cut off.
use Rattle.std.specs.Prelude.{◌≡◌, ◌⊎◌, ◌≤◌, ℕ, List, [], ◌∷◌, ◌++◌, length}
use Rattle.rd_history.specs.Histories.{AreParts, changes_of}
use Rattle.rd_history.specs.Standings.{NOTHING, Standing, changed, standing_after}
use Rattle.rd_history.specs.declared.entry.Change.{Change}
use Rattle.rd_history.specs.declared.entry.Change.TheVariants.{Begin, Void}
use Rattle.rd_history.specs.declared.entry.Entry.{Entry}
use Rattle.rd_history.specs.declared.replaying.Cut.{Cut}

-- the changes before the last entry, and with it: where it begins anew, none; where it takes the one before it back, those
-- before that one; and else one change more
abbrev pub ask : Change → List Change × List Change → List Change × List Change
ask (Begin count) asked = ([], [])
ask (Void cause) asked = (asked.0, asked.0)
ask change asked = (asked.1, asked.1 ++ change ∷ [])

-- the same with several entries more
abbrev pub asked_after : List Change × List Change → List Entry → List Change × List Change
asked_after asked [] = asked
asked_after asked (entry ∷ entries) = asked_after (ask entry.change asked) entries

-- the changes that the entries before the last ask in effect, and those that all of them do
abbrev pub asked : List Entry → List Change × List Change
asked entries = asked_after ([], []) entries

-- the changes that entries ask in effect: of the last base and behind it, none that was taken back
abbrev pub effective : List Entry → List Change
effective entries = (asked entries).1

-- what stands with changes more
abbrev pub standing_with : Standing → List Change → Standing
standing_with now [] = now
standing_with now (change ∷ changes) = standing_with (changed change now) changes

-- what stands once changes are carried out where nothing stood
abbrev pub standing_of : List Change → Standing
standing_of changes = standing_with NOTHING changes

-- it takes the entry before it back
abbrev pub IsVoid : Change → Type 0
IsVoid (Void cause) = Unit {0}
IsVoid other = ⊥

-- the first of the entries takes the one before it back
abbrev pub BeginWithVoid : List Entry → Type 0
BeginWithVoid [] = ⊥
BeginWithVoid (entry ∷ entries) = IsVoid entry.change

-- Entries may be cut off here: the front part has at least so many, or it is all; it is parts of a history, so that it
-- does not end within a base; and what comes behind does not take its last entry back.
pub record MayEnd (number : ℕ) (entries front rest : List Entry) : Type 0 where
  pub are : entries ≡ front ++ rest
  pub enough : (number ≤ length front) ⊎ (rest ≡ [])
  pub parts : AreParts (changes_of front)
  pub stays : ¬ BeginWithVoid rest

-- The front part is the cut of the entries through a number: they may be cut off behind it, and nowhere before.
pub record IsCut (number : ℕ) (entries front : List Entry) : Type 0 where
  pub rest : List Entry
  pub may : MayEnd number entries front rest
  pub shortest : (less more : List Entry) → MayEnd number entries less more → length front ≤ length less

-- The cut of the entries through a number, as it was read: how many entries it has, the changes that they ask in effect,
-- and that these tell what stands after the entries.
pub record IsCutOf (number : ℕ) (entries : List Entry) (cut : Cut) : Type 0 where
  pub front : List Entry
  pub is : IsCut number entries front
  pub last : cut.last ≡ length front
  pub changes : cut.changes.items ≡ effective front
  pub tells : standing_of cut.changes.items ≡ standing_after front
