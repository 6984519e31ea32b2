-- The kinds of image: the size and the word of each.
use Rattle.std.specs.Prelude.{ℕ, Bool, IsTrue, List, codes, false, true}
use Rattle.rd_geometry.specs.declared.kind.Kind.{Kind}
use Rattle.rd_geometry.specs.declared.kind.Kind.TheVariants.{Cpm8, D64, D64e}
use Rattle.rd_geometry.specs.Blocks.{CBM_MARKED_SIZE, CBM_SIZE}
use Rattle.rd_geometry.specs.Places.{CPM_SIZE}

-- how many bytes an image of a kind has
abbrev pub size_of : Kind → ℕ
size_of Cpm8 = CPM_SIZE
size_of D64 = CBM_SIZE
size_of D64e = CBM_MARKED_SIZE

-- the word that names a kind
abbrev pub word_of : Kind → List ℕ
word_of Cpm8 = codes "cpm8"
word_of D64 = codes "d64"
word_of D64e = codes "d64e"

-- whether an image of the kind is one of a 1541 disk, without error bytes or with them
abbrev pub is_cbm : Kind → Bool
is_cbm Cpm8 = false
is_cbm D64 = true
is_cbm D64e = true

-- the same as a fact
abbrev pub IsCbm : Kind → Type 0
IsCbm kind = IsTrue (is_cbm kind)
