-- An image, as contracts see it.
use Rattle.std.specs.Prelude.{ℕ, List}
use Rattle.rd_geometry.specs.declared.kind.Kind.{Kind}
use Rattle.rd_geometry.specs.declared.image.Image.{Image}

-- the kind of an image
abbrev pub kind_of : Image → Kind
kind_of image = image.kind

-- the bytes of an image; the type `Image` ensures that there are as many as its kind has
abbrev pub bytes_of : Image → List ℕ
bytes_of image = image.bytes.now
