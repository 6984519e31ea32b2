-- One more claim in the flags of claimed and shared blocks.
use Rattle.std.proofs.Common.{◌≡◌, ◌≢◌, ◌∙◌, inl, inr, ◌↔◌, ◌+◌, ◌*◌, ◌/◌, ◌%◌, ◌<◌, ◌≤◌, ℕ, zero, suc, Bool, true, false, IsTrue, List, length, slice_index_or, slice_set, replicate, cond, arith, refl, sym, subst, get_or-set_same, get_or-set_other}
use Rattle.std.proofs.lemmas.Bool.{cases_eq}
use Rattle.std.proofs.lemmas.List.{get_or-replicate}
use Rattle.std.proofs.Math.ListN.{length-set}
use Rattle.rd_cpm.specs.Entries.{IsOfFile}
use Rattle.rd_cpm.specs.Files.{Directory, Claims}
use Rattle.rd_cpm.specs.Claimed.{IsClaimedBefore, IsSharedBefore, AreClaims, shared_after}

-- a pointer claims one block
one_block : (d : Directory) (j i b v : ℕ) → Claims d j i b → Claims d j i v → b ≡ v
one_block d j i b v of_b of_v = sym of_b.value ∙ of_v.value

-- what is claimed before n is claimed before n + 1
claimed_later : (d : Directory) (n b : ℕ) → IsClaimedBefore d n b → IsClaimedBefore d (n + 1) b
claimed_later d n b c = record { number = c.number; before = let low : c.number < n = c.before in omega arith; claim = c.claim }

-- what is claimed before n + 1 is claimed before n, where claim n is none of the block
claimed_earlier : (d : Directory) (n b : ℕ) → (Claims d (n / 16) (n % 16) b → ⊥) → IsClaimedBefore d (n + 1) b → IsClaimedBefore d n b
claimed_earlier d n b none c = elim (cases_eq c.number n) [
  | inl same ↦ absurd (none (subst (λ p. Claims d (p / 16) (p % 16) b) same c.claim))
  | inr other ↦ record { number = c.number; before = let low : c.number < n + 1 = c.before in omega arith; claim = c.claim }
]

shared_later : (d : Directory) (n b : ℕ) → IsSharedBefore d n b → IsSharedBefore d (n + 1) b
shared_later d n b s = record { one = s.one; other = s.other; first = s.first; before = let low : s.other < n = s.before in omega arith; one_claim = s.one_claim; other_claim = s.other_claim }

-- two claims of a block before n + 1 are two before n, where claim n is none of the block or none before n is
shared_earlier : (d : Directory) (n b : ℕ) → (Claims d (n / 16) (n % 16) b → IsClaimedBefore d n b → ⊥) → IsSharedBefore d (n + 1) b → IsSharedBefore d n b
shared_earlier d n b none s = elim (cases_eq s.other n) [
  | inl same ↦ absurd (none (subst (λ p. Claims d (p / 16) (p % 16) b) same s.other_claim)
      (record { number = s.one; before = let low : s.one < s.other = s.first in omega arith; claim = s.one_claim }))
  | inr other ↦ record { one = s.one; other = s.other; first = s.first; before = let low : s.other < n + 1 = s.before in omega arith; one_claim = s.one_claim; other_claim = s.other_claim }
]

-- no claim has number n
pub claims_none : (d : Directory) (n : ℕ) (claimed shared : List Bool) → AreClaims d n claimed shared
    → ((b : ℕ) → Claims d (n / 16) (n % 16) b → ⊥) → AreClaims d (n + 1) claimed shared
claims_none d n claimed shared are none = record {
  claimed_blocks = are.claimed_blocks;
  shared_blocks = are.shared_blocks;
  bytes = λ b c. are.bytes b (claimed_earlier d n b (none b) c);
  once = λ b low high. (
    λ t. claimed_later d n b ((are.once b low high).0 t),
    λ c. (are.once b low high).1 (claimed_earlier d n b (none b) c),
  );
  twice = λ b low high. (
    λ t. shared_later d n b ((are.twice b low high).0 t),
    λ s. (are.twice b low high).1 (shared_earlier d n b (λ c _. none b c) s),
  );
}

-- the flag of the block that claim n has
set_flag : (flags : List Bool) (v : ℕ) → v < length flags → IsTrue (slice_index_or (slice_set flags v true) v false)
set_flag flags v inside = rw get_or-set_same refl

other_flag : (flags : List Bool) (b v : ℕ) → b ≢ v → slice_index_or (slice_set flags v true) b false ≡ slice_index_or flags b false
other_flag flags b v other = get_or-set_other flags v b true false other

-- what holds of both values holds of the one that a flag chooses
by_flag : (P : List Bool → Type 0) (t : Bool) (x y : List Bool) → (t ≡ true → P x) → (t ≡ false → P y) → P (cond t x y)
by_flag P true x y p q = p refl
by_flag P false x y p q = q refl

length-shared_after : (claimed shared : List Bool) (v : ℕ) → length (shared_after claimed shared v) ≡ length shared
length-shared_after claimed shared v =
    by_flag (λ l. length l ≡ length shared) (slice_index_or claimed v false) (slice_set shared v true) shared
    (λ _. length-set shared v true) (λ _. refl)

other_shared : (claimed shared : List Bool) (b v : ℕ) → b ≢ v → slice_index_or (shared_after claimed shared v) b false ≡ slice_index_or shared b false
other_shared claimed shared b v other =
    by_flag (λ l. slice_index_or l b false ≡ slice_index_or shared b false) (slice_index_or claimed v false) (slice_set shared v true) shared
    (λ _. other_flag shared b v other) (λ _. refl)

-- a test that answers as another one does, of a fact that is as good as the other's
as_before : {P Q : Type 0} (t u : Bool) → t ≡ u → IsTrue u ↔ P → (P → Q) → (Q → P) → IsTrue t ↔ Q
as_before t u same test to from = (λ x. to (test.0 (sym same ∙ x)), λ q. same ∙ test.1 (from q))

-- the flag of shared blocks, for the block that claim n has
shared_same : (d : Directory) (n v : ℕ) (claimed shared : List Bool) → AreClaims d n claimed shared → v < 256
    → Claims d (n / 16) (n % 16) v → IsTrue (slice_index_or (shared_after claimed shared v) v false) ↔ IsSharedBefore d (n + 1) v
shared_same d n v claimed shared are high claim =
    by_flag (λ l. IsTrue (slice_index_or l v false) ↔ IsSharedBefore d (n + 1) v) (slice_index_or claimed v false) (slice_set shared v true) shared
    (λ t. (
      λ _. let before = (are.once v claim.block high).0 t in
          record { one = before.number; other = n; first = before.before; before = omega arith; one_claim = before.claim; other_claim = claim },
      λ _. set_flag shared v (let blocks : length shared ≡ 256 = are.shared_blocks in omega arith),
    ))
    (λ f. (
      λ t. shared_later d n v ((are.twice v claim.block high).0 t),
      λ s. (are.twice v claim.block high).1 (shared_earlier d n v (λ _ before. let t : slice_index_or claimed v false ≡ true = (are.once v claim.block high).1 before in let clash : true ≡ false = sym t ∙ f in cc) s),
    ))

-- claim n has block v
pub claims_more : (d : Directory) (n v : ℕ) (claimed shared : List Bool) → AreClaims d n claimed shared → v < 256
    → Claims d (n / 16) (n % 16) v → AreClaims d (n + 1) (slice_set claimed v true) (shared_after claimed shared v)
claims_more d n v claimed shared are v_high claim = record {
  claimed_blocks = length-set claimed v true ∙ are.claimed_blocks;
  shared_blocks = length-shared_after claimed shared v ∙ are.shared_blocks;
  bytes = λ b c. elim (cases_eq b v) [
    | inl same ↦ subst (λ x. x < 256) (sym same) v_high
    | inr other ↦ are.bytes b (claimed_earlier d n b (λ own. other (one_block d _ _ b v own claim)) c)
  ];
  once = λ b low high. elim (cases_eq b v) [
    | inl same ↦ (
      λ _. record { number = n; before = omega arith; claim = subst (Claims d (n / 16) (n % 16)) (sym same) claim },
      λ _. subst (λ x. IsTrue (slice_index_or (slice_set claimed v true) x false)) (sym same)
          (set_flag claimed v (let blocks : length claimed ≡ 256 = are.claimed_blocks in omega arith)),
    )
    | inr other ↦ as_before _ _ (other_flag claimed b v other) (are.once b low high) (claimed_later d n b)
        (claimed_earlier d n b (λ c. other (one_block d _ _ b v c claim)))
  ];
  twice = λ b low high. elim (cases_eq b v) [
    | inl same ↦ subst (λ x. IsTrue (slice_index_or (shared_after claimed shared v) x false) ↔ IsSharedBefore d (n + 1) x) (sym same)
        (shared_same d n v claimed shared are v_high claim)
    | inr other ↦ as_before _ _ (other_shared claimed shared b v other) (are.twice b low high) (shared_later d n b)
        (shared_earlier d n b (λ c _. other (one_block d _ _ b v c claim)))
  ];
}

-- the claim of pointer i of slot s has number 16 · s + i
slot_of_number : (s i : ℕ) → i < 16 → (16 * s + i) / 16 ≡ s
slot_of_number s i low = omega arith

place_of_number : (s i : ℕ) → i < 16 → (16 * s + i) % 16 ≡ i
place_of_number s i low = omega arith

pub numbered : (d : Directory) (s i b : ℕ) → i < 16 → Claims d s i b → Claims d ((16 * s + i) / 16) ((16 * s + i) % 16) b
numbered d s i b low claim = rw (slot_of_number s i low, place_of_number s i low) claim

unnumbered : (d : Directory) (s i b : ℕ) → i < 16 → Claims d ((16 * s + i) / 16) ((16 * s + i) % 16) b → Claims d s i b
unnumbered d s i b low claim = rw (slot_of_number s i low, place_of_number s i low) at claim

-- pointer i of slot s claims nothing
pub claims_none_at : (d : Directory) (s i : ℕ) (claimed shared : List Bool) → i < 16 → AreClaims d (16 * s + i) claimed shared
    → ((b : ℕ) → Claims d s i b → ⊥) → AreClaims d (16 * s + (i + 1)) claimed shared
claims_none_at d s i claimed shared low are none =
    let next : (16 * s + i) + 1 ≡ 16 * s + (i + 1) = omega arith in
    subst (λ n. AreClaims d n claimed shared) next
    (claims_none d (16 * s + i) claimed shared are (λ b claim. none b (unnumbered d s i b low claim)))

-- pointer i of slot s claims block v
pub claims_more_at : (d : Directory) (s i v : ℕ) (claimed shared : List Bool) → AreClaims d (16 * s + i) claimed shared → v < 256
    → Claims d s i v → AreClaims d (16 * s + (i + 1)) (slice_set claimed v true) (shared_after claimed shared v)
claims_more_at d s i v claimed shared are high claim =
    let next : (16 * s + i) + 1 ≡ 16 * s + (i + 1) = omega arith in
    subst (λ n. AreClaims d n (slice_set claimed v true) (shared_after claimed shared v)) next
    (claims_more d (16 * s + i) v claimed shared are high (numbered d s i v claim.place claim))

-- the first i pointers of slot s claim nothing
claims_free_to : (d : Directory) (s : ℕ) (claimed shared : List Bool) → AreClaims d (16 * s) claimed shared
    → ((i b : ℕ) → Claims d s i b → ⊥) → (i : ℕ) → i ≤ 16 → AreClaims d (16 * s + i) claimed shared
claims_free_to d s claimed shared are none zero low = let same : 16 * s ≡ 16 * s + 0 = omega arith in subst (λ n. AreClaims d n claimed shared) same are
claims_free_to d s claimed shared are none (suc i) low =
    let next : 16 * s + (i + 1) ≡ 16 * s + suc i = omega arith in
    subst (λ n. AreClaims d n claimed shared) next
    (claims_none_at d s i claimed shared (omega arith) (claims_free_to d s claimed shared are none i (omega arith)) (none i))

-- an entry of no file claims nothing
pub claims_free : (d : Directory) (s : ℕ) (claimed shared : List Bool) → AreClaims d (16 * s) claimed shared → ¬ IsOfFile (d s)
    → AreClaims d (16 * (s + 1)) claimed shared
claims_free d s claimed shared are none =
    let next : 16 * s + 16 ≡ 16 * (s + 1) = omega arith in
    subst (λ n. AreClaims d n claimed shared) next
    (claims_free_to d s claimed shared are (λ i b claim. none claim.file) 16 (omega arith))

-- no claim has a number below 0
pub claims_at_first : (d : Directory) → AreClaims d 0 (replicate 256 false) (replicate 256 false)
claims_at_first d = record {
  claimed_blocks = refl;
  shared_blocks = refl;
  bytes = λ b c. absurd (let none : c.number < 0 = c.before in omega arith);
  once = λ b low high. (λ t. absurd (clash _ t (clear b high)), λ c. absurd (let none : c.number < 0 = c.before in omega arith));
  twice = λ b low high. (λ t. absurd (clash _ t (clear b high)), λ s. absurd (let none : s.other < 0 = s.before in omega arith));
}
  where
    clash : (t : Bool) → t ≡ true → t ≡ false → ⊥
    clash t set unset = let wrong : true ≡ false = sym set ∙ unset in cc

    clear : (b : ℕ) → b < 256 → slice_index_or (replicate 256 false) b false ≡ false
    clear b high = get_or-replicate 256 b false false high
