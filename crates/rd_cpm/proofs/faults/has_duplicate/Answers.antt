use Rattle.std.proofs.Common.{◌≡◌, ◌∙◌, inl, inr, ◌<◌, ◌≤◌, ℕ, List, [], length, slice_index_or, take, ap, sym, arith}
use Rattle.std.proofs.lemmas.Bool.{cases_eq}
use Rattle.std.proofs.lemmas.List.{length-take-le, get_or-take}
use Rattle.std.proofs.lemmas.List.{get_or_default}
use Rattle.std.proofs.lemmas.List.Elements.{Contains-get_or}
use Rattle.rd_cpm.specs.Entries.{extent_number_of}
use Rattle.rd_cpm.specs.Gathered.{HasExtent}
use Rattle.rd_cpm.proofs.TestLemmas.{refuted}
use Rattle.rd_cpm.proofs.faults.has_duplicate.Goals as goal

-- an entry before the place i is one of the front that ends there
in_front : (entries : List (List ℕ)) (one i number : ℕ) → one < i → i ≤ length entries
    → extent_number_of (slice_index_or entries one []) ≡ number → HasExtent (take i entries) number
in_front entries one i number before inside holds =
    let same : slice_index_or (take i entries) one [] ≡ slice_index_or entries one [] = get_or-take i entries one [] before in
    let cut : length (take i entries) ≡ i = length-take-le i entries inside in
    let there = Contains-get_or (take i entries) one [] (omega arith) in
    (there.0, slice_index_or (take i entries) one [], there.1, there.2, ap extent_number_of same ∙ holds)

-- what the entry at a place has is what was read there
read_at : (entries : List (List ℕ)) (i number : ℕ) (own : List ℕ) → i < length entries → own ≡ slice_index_or entries i own
    → number ≡ extent_number_of own → extent_number_of (slice_index_or entries i []) ≡ number
read_at entries i number own inside read is = ap extent_number_of (get_or_default entries i [] own inside ∙ sym read) ∙ sym is

pub loop-i-preserved : goal.loop-i-preserved
loop-i-preserved c = λ one other first inside same.
    elim (cases_eq other c.loop-i.i) [
      | inl last ↦ refuted c.if-has_extent.ensures (in_front c.args.entries.now one c.loop-i.i _ (omega arith) (omega arith)
          (same ∙ ap (λ k. extent_number_of (slice_index_or c.args.entries.now k [])) last ∙ read_at c.args.entries.now c.loop-i.i _ _ (omega arith) c.index-entries-i.is c.extent_number.ensures))
      | inr before ↦ c.loop-i.invariant one other first (omega arith) same
    ]
