-- What a wire has given: how many bytes at most, and the bytes of a body.
use Rattle.std.specs.Prelude.{◌≡◌, ◌+◌, ◌-◌, ◌<◌, ◌≤◌, ℕ, List, ◌++◌, Option, length, take}
use Rattle.std.specs.Io.KnownBytes.{Consumes, IsAtEnd, Keeps}
use Rattle.rd_messages.specs.declared.body.ReadBody.{ReadBody}
use Rattle.rd_messages.specs.declared.body.ReadBody.TheVariants.{NoMemory, Short, Whole}

-- A wire that shows its bytes to come has given some of them, at most this many.
pub record TakesUpTo (limit : ℕ) (old new : Option (List ℕ)) : Type 0 where
  pub bytes : List ℕ
  pub few : length bytes ≤ limit
  pub taken : Consumes old new bytes

-- ---- inside

-- Bytes have grown by those that the wire has given.
pub record GrowsByTaken (old new : Option (List ℕ)) (before after : List ℕ) : Type 0 where
  pub bytes : List ℕ
  pub taken : Consumes old new bytes
  pub grown : after ≡ before ++ bytes

-- A body of this size: the bytes that had already come, and the missing ones from the wire.
pub record IsBodyTaken (old new : Option (List ℕ)) (front : List ℕ) (size : ℕ) (body : List ℕ) : Type 0 where
  pub bytes : List ℕ
  pub taken : Consumes old new bytes
  pub wanting : length bytes ≡ size - length front
  pub is : body ≡ take size (front ++ bytes)

-- The wire has given all its bytes, and with those that had already come they are too few for a
-- body of this size.
pub record EndsEarly (old new : Option (List ℕ)) (front : List ℕ) (size : ℕ) : Type 0 where
  pub bytes : List ℕ
  pub taken : Consumes old new bytes
  pub ends : IsAtEnd new
  pub short : length front + length bytes < size

-- what is read of a body
abbrev pub GivesBody : Option (List ℕ) → Option (List ℕ) → List ℕ → ℕ → ReadBody → Type 0
GivesBody old new front size (Whole body) = IsBodyTaken old new front size body.items
GivesBody old new front size Short = EndsEarly old new front size
GivesBody old new front size NoMemory = Keeps old new
