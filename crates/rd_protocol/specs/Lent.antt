-- What the contents of a file are lent from, and which can be lent; and what contracts see of a body.
use Rattle.std.specs.Prelude.{◌≡◌, ◌<◌, ◌^◌, ℕ, List, None, Option, Some, length}
use Rattle.rd_geometry.specs.Kinds.{size_of}
use Rattle.rd_geometry.specs.declared.kind.Kind.{Kind}
use Rattle.rd_volume.specs.Founds.{Fits, IsSoundFile}
use Rattle.rd_volume.specs.Volumes.{contents_of}
use Rattle.rd_volume.specs.declared.found.Found.{Found}

-- What contents are lent from: the kind and the bytes of an image, and the record of the file.
pub record Lent : Type 0 where
  pub kind : Kind
  pub image : List ℕ
  pub file : Found

-- the bytes that are lent: the pieces of the file, joined
abbrev pub bytes_lent : Lent → List ℕ
bytes_lent lent = contents_of lent.kind lent.image lent.file

-- The contents of a file can be lent: the bytes are those of an image of the kind, the file is sound and lies in it,
-- and its pieces have no more bytes together than can be counted: fewer than 2^64.
pub record CanBeLent (kind : Kind) (image : List ℕ) (file : Found) : Type 0 where
  pub sized : length image ≡ size_of kind
  pub sound : IsSoundFile file
  pub fits : Fits kind file
  pub countable : length (contents_of kind image file) < 2 ^ 64

-- What contracts see of a body: its bytes, and the image and the file of it that it lends them from; or
-- nothing in place of these, where the bytes are its own. `Bodies.body_of` is the view of a body.
pub record BodyView : Type 0 where
  pub bytes : List ℕ
  pub lent : Option Lent

-- bytes of its own: a text or a table
abbrev pub held : List ℕ → BodyView
held bytes = record { bytes = bytes; lent = None }

-- contents that it lends
abbrev pub lent_out : Lent → BodyView
lent_out lent = record { bytes = bytes_lent lent; lent = Some lent }
