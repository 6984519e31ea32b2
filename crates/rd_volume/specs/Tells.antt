-- What the record of a file takes from what rd_cpm or rd_cbm says of it.
use Rattle.std.specs.Prelude.{◌≡◌, ◌≢◌, ◌+◌, ◌-◌, ◌*◌, ◌<◌, ℕ, List, [], ◌∷◌, Bool, IsTrue, None, Some, false, length, true}
use Rattle.std.specs.List.{AllZip}
use Rattle.rd_geometry.specs.declared.kind.Kind.TheVariants.{D64}
use Rattle.rd_cbm.specs.declared.class.Class.{Class}
use Rattle.rd_cbm.specs.declared.class.Class.TheVariants.{Del, Seq, Prg, Usr, Rel, Other}
use Rattle.rd_cbm.specs.declared.listing.CbmFile.{CbmFile}
use Rattle.rd_cpm.specs.declared.listing.CpmFile.{CpmFile}
use Rattle.rd_volume.specs.CpmFounds.{last_sector_length}
use Rattle.rd_volume.specs.Printed.{cbm_type_of, cpm_name_of, cpm_type_of, printed}
use Rattle.rd_volume.specs.declared.found.Found.{Found}

-- The record says what rd_cpm says of the file.
pub record TellsCpm (file : CpmFile) (found : Found) : Type 0 where
  pub slot : found.slot ≡ file.slot
  pub name : found.name ≡ cpm_name_of file.name
  pub type : found.ty ≡ cpm_type_of file.name
  pub user : found.user ≡ Some file.user
  pub class : IsTrue found.served_class
  pub faults : found.faults ≡ file.faults
  pub units : found.units ≡ file.sectors
  pub size : file.faults ≡ 0 → found.size ≡ Some (128 * length file.sectors)
  pub none : file.faults ≢ 0 → found.size ≡ None
  pub last : found.last_len ≡ last_sector_length file.sectors

-- the records say what rd_cpm says of the files, in their order
abbrev pub TellsCpmFiles : List CpmFile → List Found → Type 0
TellsCpmFiles files founds = AllZip TellsCpm files founds

-- how many bytes a chain of blocks has, if its last block holds `last`
abbrev pub length_of_blocks : List ℕ → ℕ → ℕ
length_of_blocks [] last = 0
length_of_blocks (block ∷ blocks) last = 254 * length blocks + last

-- the class is one that is served
abbrev pub is_served : Class → Bool
is_served Del = false
is_served Seq = true
is_served Prg = true
is_served Usr = true
is_served Rel = false
is_served Other = false

-- The record says what rd_cbm says of the file.
pub record TellsCbm (file : CbmFile) (found : Found) : Type 0 where
  pub slot : found.slot ≡ file.slot
  pub name : found.name ≡ printed D64 file.name
  pub type : found.ty ≡ cbm_type_of file.class
  pub user : found.user ≡ None
  pub class : found.served_class ≡ is_served file.class
  pub faults : found.faults ≡ file.faults
  pub units : found.units ≡ file.blocks
  pub size : is_served file.class ≡ true → file.faults ≡ 0 → found.size ≡ Some (length_of_blocks file.blocks (file.last - 1))
  pub none : (is_served file.class ≡ true → file.faults ≢ 0) → found.size ≡ None
  pub byte : file.last < 256
  pub last : found.last_len ≡ file.last - 1

-- the records say what rd_cbm says of the files, in their order
abbrev pub TellsCbmFiles : List CbmFile → List Found → Type 0
TellsCbmFiles files founds = AllZip TellsCbm files founds
