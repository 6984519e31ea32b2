-- What tests tell of the facts that they are about.
use Rattle.std.proofs.Common.{◌≡◌, ◌⊎◌, inl, inr, ◌↔◌, IsTrue, Bool, true, false, not, refl}

-- a test that answered false refutes the fact that it is about
pub refuted : {P : Type 0} → (IsTrue false ↔ P) → P → ⊥
refuted test fact = let impossible : false ≡ true = test.1 fact in cc

-- a test that is turned round, of the fact that does not hold
pub not_by : {P : Type 0} (r : Bool) → (IsTrue r ↔ P) → IsTrue (not r) ↔ ¬ P
not_by true test = (λ t. absurd (let impossible : false ≡ true = t in cc), λ none. absurd (none (test.0 refl)))
not_by false test = (λ _ fact. refuted test fact, λ _. refl)

-- the first of two facts holds, by a test that answered true
pub first_holds : {P Q : Type 0} → (IsTrue true ↔ P) → IsTrue true ↔ (P ⊎ Q)
first_holds test = (λ _. inl (test.0 refl), λ _. refl)

-- the first of two facts does not hold, and a test tells of the second
pub second_tells : {P Q : Type 0} (t : Bool) → (IsTrue false ↔ P) → (IsTrue t ↔ Q) → IsTrue t ↔ (P ⊎ Q)
second_tells t first second = (λ set. inr (second.0 set), λ either. elim either [ inl p ↦ absurd (refuted first p) | inr q ↦ second.1 q ])
