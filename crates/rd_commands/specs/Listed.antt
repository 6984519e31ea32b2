-- What the command `list` gives.
use Rattle.std.specs.Prelude.{◌≡◌, ◌≢◌, ◌⊎◌, ℕ, List, [], ◌∷◌, ◌++◌, None, Option, Some, codes, length}
use Rattle.std.specs.Fmt.{decimal}
use Rattle.std.specs.Io.KnownBytes.{Appends, Keeps}
use Rattle.std.specs.List.{flat_map}
pub use Rattle.rd_cbm.specs.Walks.{end_word}
use Rattle.rd_cbm.specs.declared.chains.End.{End}
use Rattle.rd_geometry.specs.Kinds.{size_of}
use Rattle.rd_geometry.specs.declared.kind.Kind.{Kind}
use Rattle.rd_volume.specs.Reports.{IsDirectoryEnd}
use Rattle.rd_volume.specs.Volumes.{AreFounds}
use Rattle.rd_volume.specs.declared.found.Found.{Found}
use Rattle.rd_commands.specs.Output.{AppendsPart}
use Rattle.rd_commands.specs.Printed.{faults_text, line_feed}
use Rattle.rd_commands.specs.declared.refusal.Refusal.{Refusal}
use Rattle.rd_commands.specs.declared.refusal.Refusal.TheVariants.{Device, NoMemory, WrongSize}

-- a tab
abbrev pub tab : List ℕ
tab = 9 ∷ []

-- a number in decimal digits, or an empty text if there is no number
abbrev pub number_text : Option ℕ → List ℕ
number_text (Some n) = decimal n
number_text None = []

-- the line of a file of an image of a kind: its slot, user, type, size, the words of its faults and its name, with a
-- tab between each; the field of a user or a size that it does not have is empty
abbrev pub line_text : Kind → Found → List ℕ
line_text kind file =
    decimal file.slot ++ (tab ++ (number_text file.user ++ (tab ++ (file.ty ++ (tab ++ (number_text file.size
    ++ (tab ++ (faults_text kind file.faults ++ (tab ++ (file.name ++ line_feed))))))))))

-- the last line: how many files there are, and how the directory ends
abbrev pub last_line : ℕ → End → List ℕ
last_line count ends = codes "files" ++ (tab ++ (decimal count ++ (tab ++ (end_word ends ++ line_feed))))

-- the lines of the files of an image of a kind, in their order, and the last line
abbrev pub list_text : Kind → List Found → End → List ℕ
list_text kind files ends = flat_map (line_text kind) files ++ last_line (length files) ends

-- The bytes are an image of the kind, and the text is its list: of its files, by ascending slot and none
-- missing, and of how its directory ends.
pub record IsList (kind : Kind) (image text : List ℕ) : Type 0 where
  pub size : length image ≡ size_of kind
  pub files : List Found
  pub are_files : AreFounds kind image files
  pub ends : End
  pub is_end : IsDirectoryEnd kind image ends
  pub is : text ≡ list_text kind files ends

-- A writer has gained exactly the list of the image.
pub record Lists (kind : Kind) (image : List ℕ) (old new : Option (List ℕ)) : Type 0 where
  pub text : List ℕ
  pub is_list : IsList kind image text
  pub gained : Appends old new text

-- A writer has gained a front part of the list of the image.
pub record ListsPart (kind : Kind) (image : List ℕ) (old new : Option (List ℕ)) : Type 0 where
  pub text : List ℕ
  pub is_list : IsList kind image text
  pub gained : AppendsPart old new text

-- A writer has gained nothing, or no more than a front part of that list.
abbrev pub IsListCut : Kind → List ℕ → Option (List ℕ) → Option (List ℕ) → Type 0
IsListCut kind image old new = Keeps old new ⊎ ListsPart kind image old new

-- Why `list` fails, and what was written then.
abbrev pub RefusesList : Refusal → Kind → List ℕ → Option (List ℕ) → Option (List ℕ) → Type 0
RefusesList Device kind image old new = IsListCut kind image old new
RefusesList NoMemory kind image old new = Keeps old new
RefusesList WrongSize kind image old new = Keeps old new × (length image ≢ size_of kind)
RefusesList _ kind image old new = ⊥
