-- What a writer has gained.
use Rattle.std.specs.Prelude.{◌≡◌, ◌⊎◌, ℕ, Bool, IsTrue, List, Option, ◌++◌}
use Rattle.std.specs.Io.KnownBytes.{Appends, Keeps}

-- nothing was written, or all that the writer has taken was flushed, as far as a machine shows that
abbrev pub IsFlushed : (Option (List ℕ) → Bool) → Option (List ℕ) → Option (List ℕ) → Type 0
IsFlushed flushed old new = Keeps old new ⊎ IsTrue (flushed new)

-- known bytes have grown by a front part of these, which may be nothing or all of them
pub record AppendsPart (old new : Option (List ℕ)) (bytes : List ℕ) : Type 0 where
  pub part : List ℕ
  pub rest : List ℕ
  pub whole : bytes ≡ part ++ rest
  pub gained : Appends old new part
