-- Whether a desk stands as a history tells.
use Rattle.std.specs.Prelude.{◌≡◌, ◌⊎◌, ◌+◌, ℕ, ℤ, List, [], ◌∷◌, ◌++◌, None, OnOk, Result, Some, length, option_map}
use Rattle.std.specs.FinMap.{get}
use Rattle.sqlite.specs.Held.{Held}
use Rattle.sqlite.specs.Store.{Ghosts}
use Rattle.rd_tables.specs.Connections.{IsOpen}
use Rattle.rd_chain.specs.Held.{Appends, Keeps, lines}
use Rattle.rd_holdings.specs.State.{Desk, place_of, terms_of}
use Rattle.rd_holdings.specs.declared.rows.ImageRow.{ImageRow}
use Rattle.rd_history.specs.Entries.{IsEntry}
use Rattle.rd_history.specs.Histories.{AreLinesOf, AreParts, IsAsked, changes_of, line_at, void_of}
use Rattle.rd_history.specs.Reading.{IsLineOf}
use Rattle.rd_history.specs.Standings.{Deposit, Standing, standing_after}
use Rattle.rd_history.specs.declared.entry.Cause.{Cause}
use Rattle.rd_history.specs.declared.entry.Cause.TheVariants.{Lost}
use Rattle.rd_history.specs.declared.entry.Change.{Change}
use Rattle.rd_history.specs.declared.entry.Change.TheVariants.{Deed, Image, Rule, DropRule, Key, DropKey}
use Rattle.rd_history.specs.declared.entry.Entry.{Entry}

-- an image without its bytes
abbrev pub deposit_of : ImageRow → Deposit
deposit_of image = record { kind = image.kind; deed = image.deed; digest = image.digest }

-- A desk stands so: it has the same deeds, rules and keys, and at each accession an image of the same kind, deed and
-- digest.
pub record StandsAs (desk : Desk) (now : Standing) : Type 0 where
  pub deeds : desk.deeds ≡ now.deeds
  pub images : (acc : ℕ) → option_map deposit_of (get desk.images acc) ≡ get now.images acc
  pub rules : desk.rules ≡ now.rules
  pub keys : desk.keys ≡ now.keys

-- The entries end in a change that nothing has taken back, and the desk stands as those before it tell.
pub record StandsBefore (desk : Desk) (entries : List Entry) : Type 0 where
  pub before : List Entry
  pub last : Entry
  pub are : entries ≡ before ++ last ∷ []
  pub parts : AreParts (changes_of before)
  pub may : IsAsked last.change
  pub stands : StandsAs desk (standing_after before)

-- the desk stands as the entries tell, or as those before the last one do
abbrev pub StandsNear : Desk → List Entry → Type 0
StandsNear desk entries = StandsAs desk (standing_after entries) ⊎ StandsBefore desk entries

-- the lines are those of a history, and the desk stands as its entries tell, or as those before the last one do
abbrev pub IsNear : Desk → List (List ℕ) → Type 0
IsNear desk lines = (entries : List Entry) × AreLinesOf entries lines × StandsNear desk entries

-- the desk stands as these lines of a history tell
abbrev pub IsTold : Desk → List (List ℕ) → Type 0
IsTold desk lines = (entries : List Entry) × AreLinesOf entries lines × StandsAs desk (standing_after entries)

-- what a change asks is so: what it puts stands, an image by its kind, its deed and its digest, and what it drops does not;
-- a change that no request asks is so
abbrev pub IsSo : Change → Desk → Type 0
IsSo (Deed num donor signed) desk = get desk.deeds num ≡ Some (record { donor = donor; signed = signed })
IsSo (Image acc kind deed digest) desk = option_map deposit_of (get desk.images acc) ≡ Some (record { kind = kind; deed = deed; digest = digest })
IsSo (Rule rule) desk = get desk.rules (place_of rule) ≡ Some (terms_of rule)
IsSo (DropRule band scope rank) desk = get desk.rules (record { band = band; scope = scope; rank = rank }) ≡ None
IsSo (Key digest audience) desk = get desk.keys digest ≡ Some audience
IsSo (DropKey digest) desk = get desk.keys digest ≡ None
IsSo other desk = Unit {0}

-- The lines end in that of this entry.
pub record EndIn (lines : List (List ℕ)) (entry : Entry) : Type 0 where
  pub before : List (List ℕ)
  pub line : List ℕ
  pub are : lines ≡ before ++ line ∷ []
  pub of : IsLineOf line entry

-- An entry was put that takes the last one back at a moment, for a cause; or it was not, as the result says.
pub record TakesBack {S T X : Type 0} (g : Ghosts S) (moment : ℤ) (cause : Cause) (old new : Held S) (result : Result T X) : Type 0 where
  pub within : IsOpen g old → OnOk result (IsEntry (record (void_of moment cause) { number = length (lines g old) + 1 }))
  pub appends : Appends g old new (line_at (length (lines g old) + 1) (void_of moment cause) ∷ []) result

-- The history is as calls that read left it; or as an entry left it that they put behind at a moment, and that takes the
-- last one back, as found undone.
pub record Settles {S T X : Type 0} (g : Ghosts S) (moment : ℤ) (old new : Held S) (result : Result T X) : Type 0 where
  pub middle : Held S
  pub keeps : Keeps g old middle
  pub last : (new ≡ middle) ⊎ TakesBack g moment Lost middle new result
