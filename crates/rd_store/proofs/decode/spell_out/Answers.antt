use Rattle.rd_store.proofs.Common.{below_more, ◌≡◌, ◌∙◌, ◌+◌, ◌*◌, ◌/◌, ◌<◌, ℕ, zero, suc, List, [], ◌∷◌, ap₂, arith, length, refl, slice_index, slice_set, sym, ext_get_or, get_or-set_other, get_or-set_same, length-set, units_in}
use Rattle.rd_store.proofs.decode.spell_out.Goals as goal

-- two bytes spell a unit
units_length : (bytes : List ℕ) → length (units_in bytes) ≡ length bytes / 2
units_length [] = refl
units_length (byte ∷ []) = refl
units_length (high ∷ low ∷ more) = let rest = units_length more in omega arith

unit_at : (bytes : List ℕ) (k : ℕ) → k < length bytes / 2 → slice_index (units_in bytes) k ≡ 256 * slice_index bytes (2 * k) + slice_index bytes (2 * k + 1)
unit_at [] k inside = absurd (omega arith)
unit_at (byte ∷ []) k inside = absurd (omega arith)
unit_at (high ∷ low ∷ more) zero inside = refl
unit_at (high ∷ low ∷ more) (suc k) inside =
    let bytes : List ℕ = high ∷ low ∷ more in
    let first : suc (suc (2 * k)) ≡ 2 * suc k = omega arith in
    let second : suc (suc (2 * k + 1)) ≡ 2 * suc k + 1 = omega arith in
    unit_at more k (omega arith) ∙ ap₂ (λ i j. 256 * slice_index bytes i + slice_index bytes j) first second

pub loop-at-preserved : goal.loop-at-preserved
loop-at-preserved c =
    let bytes = c.args.bytes.now in
    let units = c.loop-at.units in
    let at = c.loop-at.at in
    let unit : ℕ = 256 * slice_index bytes (2 * at) + slice_index bytes (2 * at + 1) in
    let inside : at < length bytes / 2 = omega arith in
    record {
      sized = length-set units at unit ∙ c.loop-at.invariant.sized;
      spelled = below_more (λ k. slice_index (slice_set units at unit) k ≡ slice_index (units_in bytes) k) at
          (λ k below. get_or-set_other units at k unit 0 (omega arith) ∙ c.loop-at.invariant.spelled k below)
          (get_or-set_same units at unit 0 (omega arith) ∙ sym (unit_at bytes at inside));
    }

pub returns : goal.returns
returns c =
    let bytes = c.args.bytes.now in
    let inv = c.loop-at.invariant in
    ext_get_or 0 c.loop-at.units (units_in bytes) (inv.sized ∙ sym (units_length bytes)) (λ k below. inv.spelled k (omega arith))
