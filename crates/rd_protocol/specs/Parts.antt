-- The parts of a path: how each is written, and what it stands for.
use Rattle.std.specs.Prelude.{◌==◌, ◌&&◌, not, ℕ, List, [], ◌∷◌, Bool, Option, Some, None, if◌then◌else◌, nat_le, nat_lt, length, slice_index, codes, find, bytes_eq}
use Rattle.std.specs.Char.{is_ascii_digit}
use Rattle.std.specs.List.{list_all}
use Rattle.std.specs.Result.{result_ok}
use Rattle.std.specs.Str.Parse.{digits_value}
use Rattle.hex.specs.Hex.{decode_sized}
use Rattle.rd_geometry.specs.Kinds.{word_of}
use Rattle.rd_geometry.specs.declared.kind.Kind.{Kind}
use Rattle.rd_geometry.specs.declared.kind.Kind.TheVariants.{Cpm8, D64, D64e}

-- one decimal digit or more, at most so many, the first not 0 (48 is its code)
abbrev pub is_number : ℕ → List ℕ → Bool
is_number most text =
    nat_lt 0 (length text) && nat_le (length text) most && not (slice_index text 0 == 48) && list_all is_ascii_digit text

-- the number that such digits write
abbrev pub number_of : ℕ → List ℕ → Option ℕ
number_of most text = if is_number most text then Some (digits_value 10 text) else None

-- the number of an accession or a deed: such a number of up to six digits
abbrev pub scope_of : List ℕ → Option ℕ
scope_of text = number_of 6 text

-- the rank of a rule: such a number of up to four digits
abbrev pub rank_of : List ℕ → Option ℕ
rank_of text = number_of 4 text

-- the slot of a file: 0, or such a number of up to four digits
abbrev pub slot_of : List ℕ → Option ℕ
slot_of text = if bytes_eq text (codes "0") then Some 0 else number_of 4 text

-- all kinds, in the order of their words
abbrev pub all_kinds : List Kind
all_kinds = Cpm8 ∷ D64 ∷ D64e ∷ []

-- the kind that has the text for its word
abbrev pub kind_of : List ℕ → Option Kind
kind_of text = find (λ kind. bytes_eq text (word_of kind)) all_kinds

-- the 32 bytes of 64 hexadecimal digits, of either case
abbrev pub digest_of : List ℕ → Option (List ℕ)
digest_of text = result_ok (decode_sized text 32)
