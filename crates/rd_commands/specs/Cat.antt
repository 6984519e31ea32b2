-- What the command `cat` gives.
use Rattle.std.specs.Prelude.{◌≡◌, ◌≢◌, ◌⊎◌, ℕ, List, Option, length}
use Rattle.std.specs.Io.KnownBytes.{Appends, Keeps}
use Rattle.rd_geometry.specs.Kinds.{size_of}
use Rattle.rd_geometry.specs.declared.kind.Kind.{Kind}
use Rattle.rd_geometry.specs.declared.kind.Kind.TheVariants.{Cpm8, D64, D64e}
use Rattle.rd_cbm.specs.Faults as cbm_fault
use Rattle.rd_cpm.specs.Entries.{entry_of_slot}
use Rattle.rd_cpm.specs.Faults as cpm_fault
use Rattle.rd_volume.specs.Directories.{OfDirectory}
use Rattle.rd_volume.specs.Volumes.{AreBytesOf, HasNoFault, IsOfServedClass, IsSlotOfFile}
use Rattle.rd_commands.specs.Output.{AppendsPart}
use Rattle.rd_commands.specs.declared.refusal.Refusal.{Refusal}
use Rattle.rd_commands.specs.declared.refusal.Refusal.TheVariants.{Device, NoMemory}
use Rattle.rd_commands.specs.declared.refusal.Refusal.TheVariants.{WrongSize, NoFile, ListedOnly, Faulty}

-- The bytes are an image of the kind, the slot is that of a file, desk serves its class, it has no
-- fault, and `out` is exactly the file's bytes.
pub record IsCat (kind : Kind) (slot : ℕ) (image out : List ℕ) : Type 0 where
  pub size : length image ≡ size_of kind
  pub file : IsSlotOfFile kind image slot
  pub served : IsOfServedClass kind image slot
  pub no_fault : HasNoFault kind image slot
  pub bytes : AreBytesOf kind image slot out

-- A writer has gained exactly the bytes of the file at the slot of the image.
pub record Serves (kind : Kind) (slot : ℕ) (image : List ℕ) (old new : Option (List ℕ))
    : Type 0 where
  pub out : List ℕ
  pub is_cat : IsCat kind slot image out
  pub gained : Appends old new out

-- A writer has gained a front part of the bytes of the file at the slot of the image.
pub record ServesPart (kind : Kind) (slot : ℕ) (image : List ℕ) (old new : Option (List ℕ))
    : Type 0 where
  pub out : List ℕ
  pub is_cat : IsCat kind slot image out
  pub gained : AppendsPart old new out

-- A writer has gained nothing, or no more than a front part of the bytes of that file.
abbrev pub IsCut : Kind → ℕ → List ℕ → Option (List ℕ) → Option (List ℕ) → Type 0
IsCut kind slot image old new = Keeps old new ⊎ ServesPart kind slot image old new

-- The bytes are an image of the kind, and the slot is that of no file.
pub record HasNoFile (kind : Kind) (slot : ℕ) (image : List ℕ) : Type 0 where
  pub size : length image ≡ size_of kind
  pub absent : ¬ IsSlotOfFile kind image slot

-- The bytes are an image of the kind, the slot is that of a file, and desk does not serve its
-- class.
pub record IsListedOnly (kind : Kind) (slot : ℕ) (image : List ℕ) : Type 0 where
  pub size : length image ≡ size_of kind
  pub file : IsSlotOfFile kind image slot
  pub not_served : ¬ IsOfServedClass kind image slot

-- The bytes are an image of the kind, the slot is that of a file, and desk serves its class, but
-- it has a fault.
pub record HasFaultyFile (kind : Kind) (slot : ℕ) (image : List ℕ) : Type 0 where
  pub size : length image ≡ size_of kind
  pub file : IsSlotOfFile kind image slot
  pub served : IsOfServedClass kind image slot
  pub faulty : ¬ HasNoFault kind image slot

-- the faults of the file at the slot of a 1541 image, by bit
abbrev pub AreCbmFaultsOf : List ℕ → ℕ → ℕ → Type 0
AreCbmFaultsOf image slot faults = OfDirectory image (λ blocks. cbm_fault.AreFaults image blocks slot faults)

-- the faults of the file at the slot, by bit
abbrev pub AreFaultsOf : Kind → List ℕ → ℕ → ℕ → Type 0
AreFaultsOf Cpm8 image slot faults = cpm_fault.AreFaults (entry_of_slot image) slot faults
AreFaultsOf D64 image slot faults = AreCbmFaultsOf image slot faults
AreFaultsOf D64e image slot faults = AreCbmFaultsOf image slot faults

-- The slot is that of a faulty file of an image of the kind, and the faults that the refusal names
-- are those of this file.
pub record IsFaultyBy (kind : Kind) (slot : ℕ) (image : List ℕ) (of_kind : Kind) (faults : ℕ) : Type 0 where
  pub file : HasFaultyFile kind slot image
  pub same_kind : of_kind ≡ kind
  pub are_faults : AreFaultsOf kind image slot faults

-- The bytes are no image of the kind, no file of it has the slot, or desk does not serve that
-- file's class, or it has a fault.
abbrev pub HasNoSoundFile : Kind → ℕ → List ℕ → Type 0
HasNoSoundFile kind slot image =
    (length image ≢ size_of kind) ⊎ (HasNoFile kind slot image
    ⊎ (IsListedOnly kind slot image ⊎ HasFaultyFile kind slot image))

-- Why `cat` fails, and what was written then.
abbrev pub Refuses : Refusal → Kind → ℕ → List ℕ → Option (List ℕ) → Option (List ℕ) → Type 0
Refuses Device kind slot image old new = IsCut kind slot image old new
Refuses NoMemory kind slot image old new = Keeps old new
Refuses WrongSize kind slot image old new = Keeps old new × (length image ≢ size_of kind)
Refuses NoFile kind slot image old new = Keeps old new × HasNoFile kind slot image
Refuses ListedOnly kind slot image old new = Keeps old new × IsListedOnly kind slot image
Refuses (Faulty of_kind faults) kind slot image old new =
    Keeps old new × IsFaultyBy kind slot image of_kind faults
Refuses refusal kind slot image old new = ⊥
