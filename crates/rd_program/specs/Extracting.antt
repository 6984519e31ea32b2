-- What the command `files` makes of an image: a file in a folder for each sound file of the served class.
use Rattle.std.specs.Prelude.{◌≡◌, ◌≢◌, ◌⊎◌, ◌++◌, ◌∷◌, ◌==◌, ◌&&◌, ⊤, [], ℕ, All, Bool, IfSome, List, Option, Some, codes, length, map}
use Rattle.std.specs.Fmt.{decimal}
use Rattle.std.specs.Io.KnownBytes.{Appends, Keeps}
use Rattle.std.specs.List.{concat, filter}
use Rattle.rd_geometry.specs.Kinds.{size_of}
use Rattle.rd_geometry.specs.declared.kind.Kind.{Kind}
use Rattle.rd_operands.specs.FileNames.{file_name}
use Rattle.rd_volume.specs.Volumes.{AreFounds, contents_of}
use Rattle.rd_volume.specs.declared.found.Found.{Found}
use Rattle.rd_commands.specs.Listed.{tab}
use Rattle.rd_commands.specs.Output.{AppendsPart}
use Rattle.rd_commands.specs.Printed.{line_feed}
use Rattle.rd_commands.specs.declared.refusal.Refusal.{Refusal}
use Rattle.rd_commands.specs.declared.refusal.Refusal.TheVariants.{Device, Exists, NoMemory, WrongSize}
use Rattle.rd_program.specs.World.{Made}
use Rattle.rd_program.specs.declared.machine.WriteFault.{WriteFault}
use Rattle.rd_program.specs.declared.machine.WriteFault.TheVariants as write_fault

-- none of these files is in this folder under this name
abbrev pub IsNewPlace : List Made → List ℕ → List ℕ → Type 0
IsNewPlace before folder name = All (λ made. made.folder ≡ folder → made.name ≡ name → ⊥) before

-- something stands in this folder under this name, as far as that is shown
abbrev pub IsTaken : Option (List Made) → List ℕ → List ℕ → Type 0
IsTaken shown folder name = IfSome shown (λ there. ¬ IsNewPlace there folder name)

-- each of these is where none of those before it is
abbrev pub AreNew : List Made → List Made → Type 0
AreNew before [] = ⊤
AreNew before (made ∷ more) = IsNewPlace before made.folder made.name × AreNew (before ++ made ∷ []) more

-- a machine that shows what it made made this after that, over nothing, and nothing else
abbrev pub MakesNext : Option (List Made) → Option (List Made) → Made → Type 0
MakesNext old new made = IfSome old (λ before. (new ≡ Some (before ++ made ∷ [])) × IsNewPlace before made.folder made.name)

-- it made these, in turn
abbrev pub MakesAll : Option (List Made) → Option (List Made) → List Made → Type 0
MakesAll old new files = IfSome old (λ before. (new ≡ Some (before ++ files)) × AreNew before files)

-- the file is sound, and of a class that desk serves
abbrev pub is_given : Found → Bool
is_given file = file.served_class && (file.faults == 0)

-- the file of a folder for a file of an image
abbrev pub made_of : Kind → List ℕ → List ℕ → Found → Made
made_of kind image folder file = record { folder = folder; name = file_name file.slot file.name; bytes = contents_of kind image file }

-- its line: the slot, the name in the folder, and how many bytes it has, with a tab between each
abbrev pub line_text : ℕ → List ℕ → ℕ → List ℕ
line_text slot name count = decimal slot ++ (tab ++ (name ++ (tab ++ (decimal count ++ line_feed))))

abbrev pub made_line : Found → Made → List ℕ
made_line file made = line_text file.slot made.name (length made.bytes)

abbrev pub line_of : Kind → List ℕ → List ℕ → Found → List ℕ
line_of kind image folder file = made_line file (made_of kind image folder file)

-- These files of an image were made in a folder, in turn and over nothing, and the lines of all were written.
pub record MakesFiles (kind : Kind) (image folder : List ℕ) (files : List Found) (old new : Option (List Made)) (out written : Option (List ℕ)) : Type 0 where
  pub made : MakesAll old new (map (made_of kind image folder) files)
  pub lines : Appends out written (concat (map (line_of kind image folder) files))

-- All sound files of the served class of the image were made, and no other.
pub record Extracts (kind : Kind) (image folder : List ℕ) (old new : Option (List Made)) (out written : Option (List ℕ)) : Type 0 where
  pub files : List Found
  pub are : AreFounds kind image files
  pub makes : MakesFiles kind image folder (filter is_given files) old new out written

-- A front part of them was made, over nothing: perhaps the next one was not, or its line was not written whole.
pub record ExtractsPart (kind : Kind) (image folder : List ℕ) (old new : Option (List Made)) (out written : Option (List ℕ)) : Type 0 where
  pub files : List Found
  pub are : AreFounds kind image files
  pub done : List Found
  pub rest : List Found
  pub front : filter is_given files ≡ done ++ rest
  pub made : MakesAll old new (map (made_of kind image folder) done)
  pub lines : AppendsPart out written (concat (map (line_of kind image folder) done))

-- why a file is not made
abbrev pub refusal_to_write : WriteFault → Refusal
refusal_to_write write_fault.Exists = Exists
refusal_to_write write_fault.Failed = Device
refusal_to_write write_fault.NoMemory = NoMemory

-- ---- the command

-- this is so of the bytes of the image at a path, if they are shown: those of the input for `-`, and otherwise those of the file
pub record OfImage (files : List ℕ → Option (List ℕ)) (input : Option (List ℕ)) (path : List ℕ) (P : List ℕ → Type 0) : Type 0 where
  pub on_input : path ≡ codes "-" → IfSome input P
  pub in_file : path ≢ codes "-" → IfSome (files path) P

-- something stands where the next of these files is to be
abbrev pub FindsNext : Option (List Made) → List ℕ → List Found → Type 0
FindsNext shown folder [] = ⊥
FindsNext shown folder (file ∷ more) = IsTaken shown folder (file_name file.slot file.name)

-- why the command fails: the image has another size, and nothing was made; or a front part was made, and something stands
-- where the next one is to be, or the device failed, or memory ran out
abbrev pub RefusesExtract : Kind → List ℕ → List ℕ → Option (List Made) → Option (List Made) → Option (List ℕ) → Option (List ℕ) → Refusal → Type 0
RefusesExtract kind image folder old new out written WrongSize = (length image ≢ size_of kind) × (new ≡ old) × Keeps out written
RefusesExtract kind image folder old new out written Exists =
    (part : ExtractsPart kind image folder old new out written) × FindsNext new folder part.rest
RefusesExtract kind image folder old new out written Device = (new ≡ old) × Keeps out written ⊎ ExtractsPart kind image folder old new out written
RefusesExtract kind image folder old new out written NoMemory = (new ≡ old) × Keeps out written ⊎ ExtractsPart kind image folder old new out written
RefusesExtract kind image folder old new out written other = ⊥

-- ---- inside

-- Why one file was not made, or its line not written: something stands in its place, and nothing was made or written; or the
-- device failed, or memory ran out, and so it was, or the file was made, and a front part of its line was written.
abbrev pub FailsOne : Made → List ℕ → Option (List Made) → Option (List Made) → Option (List ℕ) → Option (List ℕ) → Refusal → Type 0
FailsOne made line old new out written refusal =
    ((refusal ≡ Exists) × ((new ≡ old) × Keeps out written × IsTaken new made.folder made.name))
    ⊎ (((refusal ≡ Device) ⊎ (refusal ≡ NoMemory)) × (((new ≡ old) × Keeps out written) ⊎ (MakesNext old new made × AppendsPart out written line)))

-- why the command is refused
abbrev pub IsFilesRefusal : Refusal → Type 0
IsFilesRefusal refusal = (refusal ≡ WrongSize) ⊎ ((refusal ≡ Exists) ⊎ ((refusal ≡ Device) ⊎ (refusal ≡ NoMemory)))
