-- How far a history was read in search of a cut, and what its entries ask so far.
use Rattle.std.specs.Prelude.{◌≡◌, ◌≤◌, ◌+◌, ℕ, List, [], ◌∷◌, ◌++◌, false, true, drop, length, map, take}
use Rattle.rd_chain.specs.declared.read.SummedLine.{SummedLine}
use Rattle.rd_history.specs.Histories.{AreNumbered, changes_of}
use Rattle.rd_history.specs.Lines.{line_of}
use Rattle.rd_history.specs.Replayed.{IsVoid, MayEnd, asked, effective}
use Rattle.rd_history.specs.Stages.{Path, START, Steps, text_of}
use Rattle.rd_history.specs.declared.entry.Change.{Change}
use Rattle.rd_history.specs.declared.entry.Change.TheVariants.{Begin, Void}
use Rattle.rd_history.specs.declared.entry.Entry.{Entry}
use Rattle.rd_history.specs.declared.replaying.Replay.{Replay}
use Rattle.rd_history.specs.declared.stage.Stage.{Stage}

-- a history that has come so far may end before this change
abbrev pub MayEndBefore : ℕ → Stage → Change → Type 0
MayEndBefore number at change = (number ≤ at.number) × (at.to_come ≡ 0) × ¬ IsVoid change

-- one change makes these of those: it forgets them, takes the last back, or is one more
abbrev pub Makes : Change → List Change → List Change → Type 0
Makes (Begin count) old new = new ≡ []
Makes (Void cause) old new = (last : Change) × (old ≡ new ++ last ∷ [])
Makes change old new = new ≡ old ++ change ∷ []

-- One change more was read.
pub record Takes (change : Change) (at next : Replay) : Type 0 where
  pub steps : Steps change at.stage next.stage
  pub makes : Makes change at.changes.items next.changes.items
  pub goes_on : next.is_cut ≡ false

-- The changes end in one that may be taken back.
pub record EndInOne (entries : List Entry) : Type 0 where
  pub last : Change
  pub are : effective entries ≡ (asked entries).0 ++ last ∷ []

-- So many entries were read of these: their changes are those that they ask in effect, and no shorter part of them is a
-- cut through the number; where it is found, these are it.
pub record IsAt (number : ℕ) (entries : List Entry) (at : Replay) : Type 0 where
  pub path : Path Steps START (changes_of (take at.stage.number entries)) at.stage
  pub changes : at.changes.items ≡ effective (take at.stage.number entries)
  pub last : at.stage.ends_in_change ≡ true → EndInOne (take at.stage.number entries)
  pub none : (less more : List Entry) → MayEnd number entries less more → at.stage.number ≤ length less
  pub cut : at.is_cut ≡ true → MayEnd number entries (take at.stage.number entries) (drop at.stage.number entries)

-- These are the next lines of the entries.
pub record AreNext (lines : List SummedLine) (number : ℕ) (entries : List Entry) : Type 0 where
  pub numbered : AreNumbered 1 entries
  pub more : List (List ℕ)
  pub are : map text_of lines ++ more ≡ map line_of (drop number entries)

-- A page more was read: all of it, where the cut is not found.
pub record Reads (number : ℕ) (lines : List SummedLine) (at next : Replay) : Type 0 where
  pub goes_on : next.is_cut ≡ false → next.stage.number ≡ at.stage.number + length lines
  pub come : (entries : List Entry) → IsAt number entries at → AreNext lines at.stage.number entries → IsAt number entries next
