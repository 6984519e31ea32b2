-- A store that is made anew as changes tell, with the image bytes of another.
use Rattle.std.specs.Prelude.{◌≡◌, ◌⊎◌, ◌↔◌, ℕ, List, [], ◌∷◌, ◌++◌, All, Contains, IsTrue, OnOk, Result, Some, length}
use Rattle.std.specs.FinMap.{get}
use Rattle.sha2.specs.Sha256.{sha256}
use Rattle.sqlite.specs.Held.{Held}
use Rattle.sqlite.specs.Store.{Ghosts}
use Rattle.rd_geometry.specs.Kinds.{size_of}
use Rattle.rd_geometry.specs.declared.kind.Kind.{Kind}
use Rattle.rd_policy.specs.declared.audience.Audience.TheVariants.{Staff}
use Rattle.rd_tables.specs.Connections.{IsClean, IsOpen, Lasts, LeavesOpen}
use Rattle.rd_tables.specs.Schemas.{IsBlank, has_desk}
use Rattle.rd_holdings.specs.State.{Desk}
use Rattle.rd_holdings.specs.declared.rows.ImageRow.{ImageRow}
use Rattle.rd_store.specs.Held.{desk as desk_of}
use Rattle.rd_history.specs.Replayed.{standing_of}
use Rattle.rd_history.specs.Settled.{StandsAs}
use Rattle.rd_history.specs.Standings.{Standing, changed}
use Rattle.rd_history.specs.declared.entry.Change.{Change}
use Rattle.rd_history.specs.declared.entry.Change.TheVariants.{Image, Key}
use Rattle.rd_history.specs.declared.rebuilding.RebuildFault.{RebuildFault}
use Rattle.rd_history.specs.declared.rebuilding.RebuildFault.TheVariants.{Exists, NoStaff}

-- An image is whole: its bytes are as many as its kind has, and have the SHA-256 that was given for them.
pub record IsWhole (image : ImageRow) : Type 0 where
  pub size : length image.bytes ≡ size_of image.kind
  pub sound : sha256 image.bytes ≡ image.digest

-- the image is of this kind and digest, and whole
abbrev pub IsThis : ImageRow → Kind → List ℕ → Type 0
IsThis image kind digest = (image.kind ≡ kind) × (image.digest ≡ digest) × IsWhole image

-- a whole image of this kind and digest stands at the accession
abbrev pub HasImage : Desk → ℕ → Kind → List ℕ → Type 0
HasImage desk acc kind digest = (image : ImageRow) × (get desk.images acc ≡ Some image) × IsThis image kind digest

-- what is missing for a change: the accession of an image that the desk has not
abbrev pub IsMissing : Desk → Change → List ℕ → Type 0
IsMissing desk (Image acc kind deed digest) missing =
    (HasImage desk acc kind digest × (missing ≡ [])) ⊎ ((¬ HasImage desk acc kind digest) × (missing ≡ acc ∷ []))
IsMissing desk other missing = missing ≡ []

-- what is missing for changes, one after the other
abbrev pub AreMissing : Desk → List Change → List ℕ → Type 0
AreMissing desk [] missing = missing ≡ []
AreMissing desk (change ∷ changes) missing =
    (first : List ℕ) × (more : List ℕ) × IsMissing desk change first × AreMissing desk changes more × (missing ≡ first ++ more)

-- an image of the accession is among the changes, and the desk has it not
abbrev pub Lacks : Desk → List Change → ℕ → Type 0
Lacks desk changes acc =
    (change : Change) × Contains changes change × IsMissing desk change (acc ∷ [])

-- all images are whole
abbrev pub AreWhole : Desk → Type 0
AreWhole desk = (acc : ℕ) (image : ImageRow) → get desk.images acc ≡ Some image → IsWhole image

-- it gives a key to the staff
abbrev pub IsStaffKey : Change → Type 0
IsStaffKey change = (digest : List ℕ) × (change ≡ Key digest Staff)

-- none of the changes gives a key to the staff
abbrev pub GiveNoStaffKey : List Change → Type 0
GiveNoStaffKey changes = All (λ change. ¬ IsStaffKey change) changes

-- A store was made, where no table stood. It stands as the changes tell, and its images are whole.
pub record IsRebuilt {S : Type 0} (g : Ghosts S) (old new : Held S) (changes : List Change) : Type 0 where
  pub lasts : Lasts g old new
  pub blank : IsBlank old.schema
  pub stands : IsOpen g new → StandsAs (desk_of g new) (standing_of changes)
  pub whole : IsOpen g new → AreWhole (desk_of g new)
  pub ends_open : IsClean g new → IsOpen g new

-- No store was made: NoStaff exactly where no change gives a key to the staff; else Exists exactly where a table `desk`
-- stands. Then nothing was done. Of what another fault leaves nothing is said.
pub record IsNotRebuilt {S : Type 0} (g : Ghosts S) (old new : Held S) (changes : List Change) (fault : RebuildFault) : Type 0 where
  pub lasts : Lasts g old new
  pub no_staff : (fault ≡ NoStaff) ↔ GiveNoStaffKey changes
  pub exists : (fault ≡ Exists) ↔ ((¬ GiveNoStaffKey changes) × IsTrue (has_desk old.schema))
  pub same : (fault ≡ NoStaff) ⊎ (fault ≡ Exists) → new ≡ old

-- ---- inside

-- A change was carried out in a store, or a call failed. After Ok it stands as before, with the change, and its images are
-- whole if they were.
pub record CarriesOut {S T X : Type 0} (g : Ghosts S) (old new : Held S) (change : Change) (result : Result T X) : Type 0 where
  pub lasts : Lasts g old new
  pub stands : IsOpen g new → (now : Standing) → StandsAs (desk_of g old) now → OnOk result (StandsAs (desk_of g new) (changed change now))
  pub whole : IsOpen g new → AreWhole (desk_of g old) → OnOk result (AreWhole (desk_of g new))
  pub ends_open : LeavesOpen g new result
