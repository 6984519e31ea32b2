-- The commands of the program, in the words after its name.
use Rattle.std.specs.Prelude.{◌≡◌, ◌≢◌, ◌≤◌, ◌⊎◌, ℕ, List, [], ◌∷◌, Some, Ok, codes, slice_get}
use Rattle.std.specs.Str.Parse.{ParsesUnsigned}
use Rattle.std.specs.declared.num.ParseIntError.{ParseIntError}
use Rattle.rd_geometry.specs.declared.kind.Kind.{Kind}
use Rattle.rd_geometry.specs.Kinds.{word_of}
use Rattle.rd_policy.specs.declared.limits.TheConstants.{LAST_SLOT}

-- the words `cat KIND IMAGE SLOT`
abbrev pub cat_words : List ℕ → List ℕ → List ℕ → List (List ℕ)
cat_words kind image slot = codes "cat" ∷ kind ∷ image ∷ slot ∷ []

-- the word is an operand and no flag, as the documentation of `clap` has it: it is a hyphen (45)
-- alone, or it does not begin with one
abbrev pub IsOperand : List ℕ → Type 0
IsOperand word = (word ≡ codes "-") ⊎ (slice_get word 0 ≢ Some 45)

-- the text reads as the number n of a slot: `str::parse` reads it as the `u16` n, at most 9,999; so `+0` and `0000` read
-- as slot 0
pub record IsSlotText (text : List ℕ) (n : ℕ) : Type 0 where
  pub reads : ParsesUnsigned {E = ParseIntError} 16 10 text (Ok n)
  pub most : n ≤ LAST_SLOT

-- the words ask for the file at a slot of an image of a kind
pub record AsksCat (words : List (List ℕ)) (kind : Kind) (image : List ℕ) (slot : ℕ) : Type 0 where
  pub slot_text : List ℕ
  pub spelled : words ≡ cat_words (word_of kind) image slot_text
  pub operand : IsOperand image
  pub number : IsSlotText slot_text slot

-- the words `list KIND IMAGE`
abbrev pub list_words : List ℕ → List ℕ → List (List ℕ)
list_words kind image = codes "list" ∷ kind ∷ image ∷ []

-- the words ask for the files of an image of a kind
pub record AsksList (words : List (List ℕ)) (kind : Kind) (image : List ℕ) : Type 0 where
  pub spelled : words ≡ list_words (word_of kind) image
  pub operand : IsOperand image

-- the words ask for a file or the files of an image of a kind
abbrev pub AsksOfKind : List (List ℕ) → Kind → Type 0
AsksOfKind words kind = ((image : List ℕ) × (slot : ℕ) × AsksCat words kind image slot)
    ⊎ ((image : List ℕ) × AsksList words kind image)

-- the first of the words asks for the version, whatever follows it
abbrev pub AsksVersion : List (List ℕ) → Type 0
AsksVersion words = (rest : List (List ℕ)) × ((words ≡ codes "--version" ∷ rest) ⊎ (words ≡ codes "-V" ∷ rest))

-- the first of the words asks for help, whatever follows it
abbrev pub AsksHelp : List (List ℕ) → Type 0
AsksHelp words = (rest : List (List ℕ)) × ((words ≡ codes "--help" ∷ rest) ⊎ (words ≡ codes "-h" ∷ rest))
