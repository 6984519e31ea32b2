-- An option of one command alone.
use Rattle.std.proofs.Common.{◌≡◌, ◌∙◌, ◌||◌, Bool, ap, false, refl, true}

none_more : (had : Bool) → (had || false) ≡ had
none_more true = refl
none_more false = refl

-- what has an option for all commands, or none, has no more of them with one that is for a command alone
pub still_local : (has had local : Bool) → has ≡ (had || local) → local ≡ false → has ≡ had
still_local has had local is alone = is ∙ ap (λ more. had || more) alone ∙ none_more had
