-- Accessions that follow each other, as the register and the index tell them.
use Rattle.std.specs.Prelude.{◌≡◌, ◌==◌, ◌&&◌, ◌++◌, nat_le, int_le, int_lt, ℕ, pos, T, List, [], ◌∷◌, map, filter, Bool, false}
use Rattle.std.specs.FinMap.Entries.{is_sorted}
use Rattle.sqlite.specs.declared.types.Value.{Value}
use Rattle.sqlite.specs.declared.types.Value.TheVariants.{Int}
use Rattle.sqlite.specs.Order.{Row}
use Rattle.rd_volume.specs.Volumes.{AreFounds}
use Rattle.rd_volume.specs.declared.found.Found.{Found}
use Rattle.rd_store.specs.declared.images.Heading.{Heading}
use Rattle.rd_holdings.specs.declared.rows.ImageRow.{ImageRow}
use Rattle.rd_holdings.specs.declared.rows.Indexed.{Indexed}
use Rattle.rd_store.specs.Index.{FileAt, file_cmp}
use Rattle.rd_store.specs.Spelled.{file_shown}

-- An accession and its image: these are its number, its kind, its deed and its files, by slot.
pub record IsIndexed (e : ℕ × ImageRow) (one : Indexed) : Type 0 where
  pub acc : one.acc ≡ e.0
  pub kind : one.kind ≡ e.1.kind
  pub deed : one.deed ≡ e.1.deed
  pub files : AreFounds e.1.kind e.1.bytes one.files

-- ---- inside

-- the row that shows a file of the index: its columns, and its accession last
abbrev pub filed_shown : FileAt × Found → Row
filed_shown e = file_shown e.1 ++ Int (pos e.0.acc) ∷ []

-- a number from one to another
abbrev pub is_from_to : ℕ → ℕ → ℕ → Bool
is_from_to first last n = nat_le first n && nat_le n last

-- a number below an accession
abbrev pub is_number_below : ℕ → Value → Bool
is_number_below acc (Int n) = int_lt n (pos acc)
is_number_below acc _ = false

-- a number that is an accession or below it
abbrev pub is_number_up_to : ℕ → Value → Bool
is_number_up_to acc (Int n) = int_le n (pos acc)
is_number_up_to acc _ = false

-- those of the files that are of one accession
abbrev pub files_at : ℕ → List (FileAt × Found) → List (FileAt × Found)
files_at acc es = filter (λ e. e.0.acc == acc) es

-- An accession with its kind and deed from the register. Where rows show files by accession and slot, its files are
-- those of them that are of this accession.
pub record IsIndexedBy (rows : List Row) (entry : ℕ × Heading) (one : Indexed) : Type 0 where
  pub acc : one.acc ≡ entry.0
  pub kind : one.kind ≡ entry.1.kind
  pub deed : one.deed ≡ entry.1.deed
  pub files : (es : List (FileAt × Found)) → T (is_sorted file_cmp es) → rows ≡ map filed_shown es → one.files ≡ map (λ e. e.1) (files_at entry.0 es)
