-- What the text of a body says in JSON (RFC 8259): a value, and what an object has at its keys.
use Rattle.std.specs.Prelude.{◌≡◌, ℕ, List, Option, Some, Contains, IsSomeAnd, IsUtf8, option_and_then}
use Rattle.serde_json.specs.Data.{Data, Members, no_members, member}
use Rattle.serde_json.specs.Find.{as_object, as_str, get}
use Rattle.serde_json.specs.Read.{read}
pub use Rattle.rd_protocol.specs.Texts.{one_member}

-- The body is the text of this value, in UTF-8. If an object has a key more than once, the last of
-- its values counts. A text is that of no value if arrays and objects are nested more than 127
-- deep, or a number is beyond the range of a float of 64 bits.
pub record IsJson (body : List ℕ) (value : Data) : Type 0 where
  pub utf8 : IsUtf8 body
  pub reads : read body ≡ Some value

-- the body is the text of no value
abbrev pub IsNoJson : List ℕ → Type 0
IsNoJson body = (value : Data) → ¬ IsJson body value

-- the text that stands at a key of an object, where a text does
abbrev pub text_at : List ℕ → Data → Option (List ℕ)
text_at key value = option_and_then as_str (get key value)

-- each key of the members is one of these
abbrev pub AreKeysAmong : List (List ℕ) → Members → Type 0
AreKeysAmong keys no_members = Unit {0}
AreKeysAmong keys (member key value members) = Contains keys key × AreKeysAmong keys members

-- an object that has no key but these
abbrev pub HasOnlyKeys : List (List ℕ) → Data → Type 0
HasOnlyKeys keys value = IsSomeAnd (as_object value) (AreKeysAmong keys)
