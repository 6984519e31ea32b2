-- The fields of a head, by name.
use Rattle.std.specs.Prelude.{◌≡◌, ◌≤◌, ℕ, List, [], ◌∷◌, if◌then◌else◌, length, map}
use Rattle.std.specs.Str.{str_eq_ignore_ascii_case}
use Rattle.httparse.specs.Grammar.{RequestHead}
use Rattle.httparse.specs.Spans.{name_and_value}
use Rattle.rd_messages.specs.declared.fields.Values.{Values}
use Rattle.rd_messages.specs.declared.fields.Values.TheVariants.{Many, Nothing, One}

-- the names of the fields of a head and their values, without the blanks and tabs at both ends
abbrev pub fields_of : RequestHead → List (List ℕ × List ℕ)
fields_of head = map name_and_value head.fields

-- the values of the fields with a name, in order; names are compared without regard to ASCII case
abbrev pub values_named : List ℕ → List (List ℕ × List ℕ) → List (List ℕ)
values_named name [] = []
values_named name (field ∷ fields) =
    if str_eq_ignore_ascii_case field.0 name then field.1 ∷ values_named name fields else values_named name fields

-- there is no value; there is this one alone; there are two or more
abbrev pub AreValues : Values → List (List ℕ) → Type 0
AreValues Nothing values = values ≡ []
AreValues (One value) values = values ≡ value.now ∷ []
AreValues Many values = 2 ≤ length values
