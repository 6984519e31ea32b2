-- The framing of a request: the length of its body, and its key.
use Rattle.std.specs.Prelude.{◌≡◌, ◌&&◌, ℕ, List, [], ◌∷◌, Option, None, Some, codes, if◌then◌else◌, length, nat_le, nat_lt, option_map, option_to_list}
use Rattle.std.specs.Io.{StartsWith}
use Rattle.std.specs.Str.{all_ascii_digits}
use Rattle.std.specs.Str.Parse.{digits_value}
use Rattle.httparse.specs.Grammar.{RequestHead}
use Rattle.rd_messages.specs.Fields.{fields_of, values_named}
use Rattle.rd_messages.specs.declared.framing.Framing.{Framing}
use Rattle.rd_messages.specs.declared.limits.TheConstants.{LONGEST_BODY}

-- the number that one or more decimal digits write; none if it is above 262,144, or for another text; zeros may stand
-- in front
abbrev pub length_in_value : List ℕ → Option ℕ
length_in_value text =
    if nat_lt 0 (length text) && all_ascii_digits text && nat_le (digits_value 10 text) LONGEST_BODY
    then Some (digits_value 10 text) else None

-- the length that the values of Content-Length give: 0 if there is none, and no length if there
-- are two or more
abbrev pub length_in_values : List (List ℕ) → Option ℕ
length_in_values [] = Some 0
length_in_values (value ∷ []) = length_in_value value
length_in_values (value ∷ other ∷ values) = None

-- The fields say that the body has this many bytes, in no transfer coding, and that the key is
-- this one, if there is any: the value of Desk-Key, even if that is empty.
pub record IsFramed (fields : List (List ℕ × List ℕ)) (size : ℕ) (key : Option (List ℕ)) : Type 0 where
  pub uncoded : values_named (codes "Transfer-Encoding") fields ≡ []
  pub sized : length_in_values (values_named (codes "Content-Length") fields) ≡ Some size
  pub keyed : values_named (codes "Desk-Key") fields ≡ option_to_list key

-- the fields give no length and key
abbrev pub IsMisframed : List (List ℕ × List ℕ) → Type 0
IsMisframed fields = (size : ℕ) (key : Option (List ℕ)) → ¬ (IsFramed fields size key)

-- The request is whole, with this key and body: the fields of the head give this key and the
-- length of the body, and what comes after the head begins with the body.
pub record IsWhole (head : RequestHead) (rest : List ℕ) (key : Option (List ℕ)) (body : List ℕ) : Type 0 where
  pub framed : IsFramed (fields_of head) (length body) key
  pub begins : StartsWith rest body

-- there is no key and body with which the request is whole
abbrev pub IsNeverWhole : RequestHead → List ℕ → Type 0
IsNeverWhole head rest = (key : Option (List ℕ)) (body : List ℕ) → ¬ (IsWhole head rest key body)

-- the result of reading the framing that fields give
abbrev pub GivesFraming : List (List ℕ × List ℕ) → Option Framing → Type 0
GivesFraming fields None = IsMisframed fields
GivesFraming fields (Some framing) = IsFramed fields framing.length (option_map (λ key. key.now) framing.key)
