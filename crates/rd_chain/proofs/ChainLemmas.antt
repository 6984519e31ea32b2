-- The chain of sums.
use Rattle.std.proofs.Common.{◌≡◌, ◌∙◌, ◌≢◌, ◌⊎◌, inl, inr, ℕ, suc, List, [], ◌∷◌, Bool, true, false, Contains, length, bytes_eq, take, drop, ap₂, arith, refl, sym}
use Rattle.std.proofs.Math.Seq.{drop-append_seam, take-append_seam}
use Rattle.std.proofs.lemmas.Slice.Eq.{bytes_eq-Decides}
use Rattle.sha2.specs.Sha256.{sha256}
use Rattle.sha2.proofs.Facts256.{length-sha256}
use Rattle.rd_chain.specs.Chains.{Collides, FIRST_SUM, OneChain, all_summed, last_sum, next_sum, summed}

-- two different texts with one SHA-256, one of each list of texts
record Clash (texts others : List (List ℕ)) : Type 0 where
  text : List ℕ
  other : List ℕ
  of_texts : Contains texts text
  of_others : Contains others other
  differ : text ≢ other
  same : sha256 text ≡ sha256 other

later : (text first : List ℕ) (texts : List (List ℕ)) → Contains texts text → Contains (first ∷ texts) text
later text first texts has = (suc has.0, omega (arith, has.1), has.2)

further : (first second : List ℕ) (texts others : List (List ℕ)) → Clash texts others → Clash (first ∷ texts) (second ∷ others)
further first second texts others clash = record {
  text = clash.text;
  other = clash.other;
  of_texts = later clash.text first texts clash.of_texts;
  of_others = later clash.other second others clash.of_others;
  differ = clash.differ;
  same = clash.same;
}

-- a text of a sum and a line has one sum and one line
one_split : (sum other line another : List ℕ) → length sum ≡ length other → summed sum line ≡ summed other another → (sum ≡ other) × (line ≡ another)
one_split sum other line another long same = (
  sym (take-append_seam sum line) ∙ ap₂ take long same ∙ take-append_seam other another,
  sym (drop-append_seam sum line) ∙ ap₂ drop long same ∙ drop-append_seam other another,
)

differs : ¬ (false ≡ true)
differs e = absurd cc

-- after sums of one length
from : (sum other : List ℕ) (lines others : List (List ℕ)) → length sum ≡ length other → length lines ≡ length others → last_sum sum lines ≡ last_sum other others
    → ((sum ≡ other) × (lines ≡ others)) ⊎ Clash (all_summed sum lines) (all_summed other others)
from sum other [] [] long many same = inl (same, refl)
from sum other [] (line ∷ others) long many same = absurd (omega (arith, many))
from sum other (line ∷ lines) [] long many same = absurd (omega (arith, many))
from sum other (line ∷ lines) (another ∷ others) long many same =
    elim (from (next_sum sum line) (next_sum other another) lines others (length-sha256 (summed sum line) ∙ sym (length-sha256 (summed other another))) (omega (arith, many)) same) as
    (λ _. ((sum ≡ other) × (line ∷ lines ≡ another ∷ others)) ⊎ Clash (all_summed sum (line ∷ lines)) (all_summed other (another ∷ others))) [
      | inl found ↦ by_test (bytes_eq (summed sum line) (summed other another)) refl found.0 found.1
      | inr clash ↦ inr (further (summed sum line) (summed other another) (all_summed (next_sum sum line) lines) (all_summed (next_sum other another) others) clash)
    ]
  where
    by_test : (b : Bool) → bytes_eq (summed sum line) (summed other another) ≡ b → next_sum sum line ≡ next_sum other another → lines ≡ others
        → ((sum ≡ other) × (line ∷ lines ≡ another ∷ others)) ⊎ Clash (all_summed sum (line ∷ lines)) (all_summed other (another ∷ others))
    by_test true is sums rest =
        let split = one_split sum other line another long ((bytes_eq-Decides (summed sum line) (summed other another)).0 is) in
        inl (split.0, ap₂ (λ line lines. line ∷ lines) split.1 rest)
    by_test false is sums rest = inr (record {
      text = summed sum line;
      other = summed other another;
      of_texts = (0, omega arith, refl);
      of_others = (0, omega arith, refl);
      differ = λ same. differs (sym is ∙ (bytes_eq-Decides (summed sum line) (summed other another)).1 same);
      same = sums;
    })

pub one_chain : OneChain
one_chain lines others many same =
    elim (from FIRST_SUM FIRST_SUM lines others refl many same) as (λ _. (lines ≡ others) ⊎ Collides lines others) [
      | inl found ↦ inl found.1
      | inr clash ↦ inr (record {
        text = clash.text;
        other = clash.other;
        of_lines = clash.of_texts;
        of_others = clash.of_others;
        differ = clash.differ;
        same = clash.same;
      })
    ]
