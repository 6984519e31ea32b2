-- Values of JSON, by what is read of them.
use Rattle.std.proofs.Common.{◌≡◌, ℕ, List, [], ◌∷◌, length, Some, String, Global, refl, arith}
use Rattle.std.specs.Prelude.{slice_get}
use Rattle.serde_json.specs.Data.{Data, null, boolean, number, string, array, object, Items, Members}
use Rattle.serde_json.specs.Find.{as_array, as_object}
use Rattle.serde_json.specs.View.{items_of}
use Rattle.serde_json.specs.declared.value.Value.{Value}
use Rattle.rd_messages.specs.Objects.{one_member}

abbrev pub Entry : Type 0
Entry = String Global × Value

pub is_object : (value : Data) (members : Members) → Some members ≡ as_object value → value ≡ object members
is_object null ms e = absurd (cc)
is_object (boolean b) ms e = absurd (cc)
is_object (number n) ms e = absurd (cc)
is_object (string s) ms e = absurd (cc)
is_object (array items) ms e = absurd (cc)
is_object (object others) ms e = cc

pub is_array : (value : Data) (items : Items) → Some items ≡ as_array value → value ≡ array items
is_array null items e = absurd (cc)
is_array (boolean b) items e = absurd (cc)
is_array (number n) items e = absurd (cc)
is_array (string s) items e = absurd (cc)
is_array (array others) items e = cc
is_array (object ms) items e = absurd (cc)

-- one entry at the place 0 of a list of one is the list
pub one_entry : (entries : List Entry) (entry : Entry) → length entries ≡ 1 → slice_get entries 0 ≡ Some entry → entries ≡ entry ∷ []
one_entry [] entry one at = absurd (omega arith)
one_entry (first ∷ []) entry one at = cc
one_entry (first ∷ second ∷ entries) entry one at = absurd (omega arith)

-- an array has one list of items
pub items_of_same : (xs ys : List Data) → items_of xs ≡ items_of ys → xs ≡ ys
items_of_same [] [] e = refl
items_of_same [] (y ∷ ys) e = absurd (cc)
items_of_same (x ∷ xs) [] e = absurd (cc)
items_of_same (x ∷ xs) (y ∷ ys) e =
    let first : x ≡ y = cc in
    let others : items_of xs ≡ items_of ys = cc in
    let rest = items_of_same xs ys others in
    cc

-- an object of one member has one key and one value
pub one_member_same : (k l : List ℕ) (d e : Data) → one_member k d ≡ one_member l e → (k ≡ l) × (d ≡ e)
one_member_same k l d e same = (cc, cc)
