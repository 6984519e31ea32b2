-- The contents of a file, as they are kept: the bytes of its image, and the record of the file.
use Rattle.std.specs.Prelude.{◌≡◌, length}
use Rattle.rd_geometry.specs.Kinds.{size_of}
use Rattle.rd_volume.specs.Founds.{Fits, IsSoundFile}
use Rattle.rd_protocol.specs.Lent.{Lent, bytes_lent}
use Rattle.rd_protocol.specs.declared.contents.Contents.TheInside.{Inside}

-- what contents that are kept are lent from
abbrev pub lent_kept : Inside → Lent
lent_kept kept = record { kind = kept.kind; image = kept.image; file = kept.file }

-- Contents are kept of an image of the kind and a sound file that lies in it, and their bytes are counted.
pub record AreOfSoundFile (kept : Inside) : Type 0 where
  pub sized : length kept.image ≡ size_of kept.kind
  pub sound : IsSoundFile kept.file
  pub fits : Fits kept.kind kept.file
  pub counted : kept.len ≡ length (bytes_lent (lent_kept kept))
