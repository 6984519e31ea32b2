-- The image in memory that was asked for last.
use Rattle.std.specs.Prelude.{◌≡◌, ℕ, Some, ⊤}
use Rattle.std.specs.Ordering.{nat_cmp}
use Rattle.std.specs.FinMap.{FinMap, get}
use Rattle.sqlite.specs.Store.{Ghosts}
use Rattle.sqlite.specs.Held.{Held}
use Rattle.rd_holdings.specs.declared.rows.ImageRow.{ImageRow}
use Rattle.rd_store.specs.declared.image_cache.KeptImage.{KeptImage}
use Rattle.rd_store.specs.declared.image_cache.KeptImage.TheVariants.{Unasked, AskedFor, Kept}
use Rattle.rd_store.specs.Held.{IsOpen, desk}

-- the image of an accession is kept
abbrev pub IsKept : ℕ → KeptImage → Type 0
IsKept acc Unasked = ⊥
IsKept acc (AskedFor last) = ⊥
IsKept acc (Kept last image) = last ≡ acc

-- an accession was asked for last, and its image is not kept
abbrev pub IsOnlyAskedFor : ℕ → KeptImage → Type 0
IsOnlyAskedFor acc Unasked = ⊥
IsOnlyAskedFor acc (AskedFor last) = last ≡ acc
IsOnlyAskedFor acc (Kept last image) = ⊥

-- an image that is kept is the one at its accession
abbrev pub IsAmong : KeptImage → FinMap nat_cmp ImageRow → Type 0
IsAmong Unasked images = ⊤
IsAmong (AskedFor last) images = ⊤
IsAmong (Kept last image) images = get images last ≡ Some image

-- while the connection is open, this is so of the images of the desk
abbrev pub IsLastOf : {S : Type 0} → Ghosts S → Held S → KeptImage → Type 0
IsLastOf g h last = IsOpen g h → IsAmong last (desk g h).images
