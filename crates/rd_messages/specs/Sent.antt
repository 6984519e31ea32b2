-- What writing a text leaves.
use Rattle.std.specs.Prelude.{◌≡◌, ◌<◌, ℕ, List, ◌++◌, length, take, Option, Result, Ok, Err}
use Rattle.std.specs.Io.KnownBytes.{Appends, append_known}
use Rattle.std.specs.List.{concat}

-- Pieces were left, and fewer are left now: those that are not went from the front, and all their bytes went out, one
-- piece after the other, and nothing else.
pub record PutsFront (before after : List (List ℕ)) (old new : Option (List ℕ)) : Type 0 where
  pub front : List (List ℕ)
  pub left : before ≡ front ++ after
  pub out : Appends old new (concat front)

-- a front part of the text went out, and not all of it
abbrev pub SendsPart : Option (List ℕ) → Option (List ℕ) → List ℕ → Type 0
SendsPart old new text =
    (part : List ℕ) × (rest : List ℕ) × (text ≡ part ++ rest) × (0 < length rest) × Appends old new part

-- all of the text went out; or, if a write failed, a front part and not all of it
abbrev pub Sends : {E : Type 0} → Option (List ℕ) → Option (List ℕ) → Result (Unit {0}) E → List ℕ → Type 0
Sends old new (Ok done) text = Appends old new text
Sends old new (Err fault) text = SendsPart old new text

-- What was put into a connection: what went out, if its stream shows that, and behind it the first so many bytes of a room,
-- which it holds back.
abbrev pub put_so_far : Option (List ℕ) → ℕ → List ℕ → Option (List ℕ)
put_so_far sent held room = append_known sent (take held room)
