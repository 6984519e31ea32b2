-- A name that is not that of a command.
use Rattle.std.proofs.Common.{◌≡◌, ℕ, List, Bool, true, false, bytes_eq, refl}
use Rattle.std.proofs.lemmas.Slice.Eq.{bytes_eq-Decides}

off : (test : Bool) → ¬ (test ≡ true) → test ≡ false
off true none = absurd (none refl)
off false none = refl

pub differs : (name word : List ℕ) → ¬ (name ≡ word) → bytes_eq name word ≡ false
differs name word none = off (bytes_eq name word) (λ same. none ((bytes_eq-Decides name word).0 same))
