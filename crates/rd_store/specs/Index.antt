-- The index of the files: a row for each file of the images that stand, so that no query walks an image.
use Rattle.std.specs.Prelude.{◌≡◌, ◌≢◌, ◌<◌, ℕ, List, [], length, get_or, Option, Some, None}
use Rattle.std.specs.declared.cmp.Ordering.{Ordering}
use Rattle.std.specs.Ordering.{nat_cmp, on, then_cmp}
use Rattle.std.specs.FinMap.{FinMap, get, insert}
use Rattle.rd_volume.specs.Volumes.{AreFounds, IsFoundAt}
use Rattle.rd_volume.specs.declared.found.Found.{Found}
use Rattle.rd_holdings.specs.declared.rows.ImageRow.{ImageRow}
use Rattle.rd_holdings.specs.State.{Desk}

-- Where a file is: its accession and its slot.
pub record FileAt : Type 0 where
  pub acc : ℕ
  pub slot : ℕ

-- the lower accession comes first, then the lower slot
abbrev pub file_cmp : FileAt → FileAt → Ordering
file_cmp = then_cmp (on (λ at. at.acc) nat_cmp) (on (λ at. at.slot) nat_cmp)

-- the file at a slot, as it is in the image; none where there is no such file, or no image
abbrev pub IsFileIn : Option ImageRow → ℕ → Option Found → Type 0
IsFileIn None slot file = file ≡ None
IsFileIn (Some image) slot file = IsFoundAt image.kind image.bytes slot file

-- the files of an image, by slot; none where there is no image
abbrev pub AreFilesIn : Option ImageRow → List Found → Type 0
AreFilesIn None files = files ≡ []
AreFilesIn (Some image) files = AreFounds image.kind image.bytes files

-- of each accession the index has the files of its image, each at its slot, and nothing else
abbrev pub IsIndexOf : FinMap nat_cmp ImageRow → FinMap file_cmp Found → Type 0
IsIndexOf images index = (acc slot : ℕ) → IsFileIn (get images acc) slot (get index (record { acc = acc; slot = slot }))

-- ---- inside

-- the desk with an image where none stands
abbrev pub with_new_image : ℕ → ImageRow → Desk → Desk
with_new_image acc image desk = record desk { images = insert desk.images acc image }

-- Of one accession the index has the first so many of these files, and of the others the files of their
-- images.
pub record IsFiledTo (images : FinMap nat_cmp ImageRow) (acc : ℕ) (files : List Found) (count : ℕ) (index : FinMap file_cmp Found) : Type 0 where
  pub others : (other slot : ℕ) → other ≢ acc → IsFileIn (get images other) slot (get index (record { acc = other; slot = slot }))
  pub here : (k : ℕ) (file : Found) → k < count → k < length files → get index (record { acc = acc; slot = (get_or files k file).slot }) ≡ Some (get_or files k file)
  pub only : (slot : ℕ) (file : Found) → get index (record { acc = acc; slot = slot }) ≡ Some file → (k : ℕ) × (k < count) × (k < length files) × (get_or files k file ≡ file) × (file.slot ≡ slot)
