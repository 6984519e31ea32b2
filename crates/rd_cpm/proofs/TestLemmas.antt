-- What tests tell of the facts that they are about.
use Rattle.std.proofs.Common.{◌≡◌, ◌↔◌, ◌<◌, ◌≤◌, ℕ, IsTrue, Bool, true, false, not, arith, refl}

-- a test that answered false refutes the fact that it is about
pub refuted : {P : Type 0} → (IsTrue false ↔ P) → P → ⊥
refuted test fact = let impossible : false ≡ true = test.1 fact in cc

-- a fact that holds, by a test that answers true
pub yes_by : {P : Type 0} → P → IsTrue true ↔ P
yes_by fact = (λ _. fact, λ _. refl)

-- a fact that does not hold, by a test that answers false
pub no_by : {P : Type 0} → (P → ⊥) → IsTrue false ↔ P
no_by none = (λ t. absurd (let impossible : false ≡ true = t in cc), λ fact. absurd (none fact))

-- a number is at most one that it cannot be above
pub not_above : (a b : ℕ) → (b < a → ⊥) → a ≤ b
not_above a b none = omega arith

-- a test that is turned round, of the fact that does not hold
pub not_by : {P : Type 0} (r : Bool) → (IsTrue r ↔ P) → IsTrue (not r) ↔ ¬ P
not_by true test = (λ t. absurd (let impossible : false ≡ true = t in cc), λ none. absurd (none (test.0 refl)))
not_by false test = (λ _ fact. refuted test fact, λ _. refl)
