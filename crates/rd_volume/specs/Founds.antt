-- What the record of a file says of it.
use Rattle.std.specs.Prelude.{◌≡◌, ◌<◌, ◌≤◌, [], All, IsTrue, None}
use Rattle.rd_geometry.specs.declared.kind.Kind.{Kind}
use Rattle.rd_volume.specs.Kinds.{unit_count_of, room_of}
use Rattle.rd_volume.specs.declared.found.Found.{Found}

-- The file is sound: desk serves its class, and it has no fault.
pub record IsSoundFile (found : Found) : Type 0 where
  pub class : IsTrue found.served_class
  pub sound : found.faults ≡ 0

-- The file lies in an image of a kind: its units are units of the disk, and its last length is at most
-- what a unit holds of a file.
pub record Fits (kind : Kind) (found : Found) : Type 0 where
  pub units : All (λ unit. unit < unit_count_of kind) found.units
  pub last : found.last_len ≤ room_of kind

-- The record gives no contents: no size, no units, and 0 for its last length.
pub record HasNoContents (found : Found) : Type 0 where
  pub size : found.size ≡ None
  pub units : found.units ≡ []
  pub last : found.last_len ≡ 0
