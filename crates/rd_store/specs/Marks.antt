-- Error bytes. Of an image that has them the table of images holds the blocks alone, as a D64, and a table of
-- their own the error bytes; the image is the two joined.
use Rattle.std.specs.Prelude.{◌≡◌, ◌++◌, ℕ, List, map, length, Bool, true, false, Option, Some, None}
use Rattle.std.specs.declared.cmp.Ordering.{Ordering}
use Rattle.std.specs.Ordering.{nat_cmp}
use Rattle.std.specs.FinMap.{FinMap, entries, from_sorted, get}
use Rattle.rd_geometry.specs.Blocks.{CBM_BLOCKS}
use Rattle.rd_geometry.specs.declared.kind.Kind.{Kind}
use Rattle.rd_geometry.specs.declared.kind.Kind.TheVariants.{D64, D64e}
use Rattle.rd_holdings.specs.declared.rows.ImageRow.{ImageRow}

-- the map that has, at each key, what f makes of the key and of the value there
unfoldable pub map_values : {K X Y : Type 0} {cmp : K → K → Ordering} → (K → X → Y) → FinMap cmp X → FinMap cmp Y
map_values f m = from_sorted (map (λ e. (e.0, f e.0 e.1)) (entries m))

-- an image with its error bytes, if it has any: they follow its blocks
abbrev pub with_marks : Option (List ℕ) → ImageRow → ImageRow
with_marks None image = image
with_marks (Some marks) image = record image { kind = D64e; bytes = image.bytes ++ marks }

-- the kind of an image, with its error bytes if it has any
abbrev pub kind_with : Bool → Kind → Kind
kind_with false kind = kind
kind_with true kind = D64e

-- each image with the error bytes of its accession
abbrev pub joined : FinMap nat_cmp ImageRow → FinMap nat_cmp (List ℕ) → FinMap nat_cmp ImageRow
joined images marks = map_values (λ acc image. with_marks (get marks acc) image) images

-- Error bytes, one for each block, of an accession at which a D64 stands.
pub record AreMarksIn (images : FinMap nat_cmp ImageRow) (marks : ℕ × List ℕ) : Type 0 where
  pub count : length marks.1 ≡ CBM_BLOCKS
  pub image : ImageRow
  pub stands : get images marks.0 ≡ Some image
  pub kind : image.kind ≡ D64
