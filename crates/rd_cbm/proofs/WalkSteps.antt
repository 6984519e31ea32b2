-- The steps of a walk with a mark for each block: one more block, and the ends.
use Rattle.std.proofs.Common.{◌≡◌, ◌≢◌, ◌<◌, ◌+◌, ◌∙◌, inl, inr, ℕ, zero, suc, Bool, true, false, List, [], ◌∷◌, ◌++◌, All, Option, Some, None, length, slice_index, slice_index_or, Contains, replicate, arith, refl, sym, ap, subst, below_more, length-append, if◌then◌else◌}
use Rattle.std.proofs.Math.Nat.{eq-or-lt_of_le}
use Rattle.std.proofs.Math.Seq.{get_or-append_seam}
use Rattle.std.proofs.Math.ListN.{set, length-set}
use Rattle.std.proofs.lemmas.Bool.{cases_eq}
use Rattle.std.proofs.lemmas.List.{get_or_default, get_or_append_left, get_or-set_same, get_or-set_other}
use Rattle.std.proofs.lemmas.List.Elements.{All-append, Contains-append_left, Contains-push, Contains-push_cases}
use Rattle.std.proofs.lemmas.List.Quantifiers.{all_pairs_push}
use Rattle.std.proofs.lemmas.List.Sums.{sum_by-set}
use Rattle.std.proofs.lemmas.Option.{option_and_then_some}
use Rattle.rd_geometry.specs.Blocks.{CBM_BLOCKS}
use Rattle.rd_cbm.specs.declared.chains.Link.{Link}
use Rattle.rd_cbm.specs.declared.chains.Link.TheVariants.{Next}
use Rattle.rd_cbm.specs.Walks.{Links, next_of, at, Reaches, Loops, IsChain}
use Rattle.rd_cbm.proofs.MarkLemmas.{AreMarked, IsAt, Leads, unmarked}
use Rattle.rd_cbm.proofs.WalkLaws.{at-suc, at-zero, at-next, le-or-lt, over_later}

-- a mark more leaves one block fewer without
pub one_fewer : (marks : List Bool) (block : ℕ) → block < length marks → slice_index_or marks block false ≡ false → unmarked (set marks block true) + 1 ≡ unmarked marks
one_fewer marks block inside new =
    let weight : Bool → ℕ = λ mark. if mark then 0 else 1 in
    let sums = sum_by-set weight marks block true false inside in
    let one : weight (slice_index_or marks block false) ≡ weight false = ap weight new in
    omega (arith, sums, one)

all_of_one : (P : ℕ → Type 0) (n : ℕ) → P n → All P (n ∷ [])
all_of_one P n holds k d inside = let first : 0 ≡ k = omega arith in subst (λ k. P (slice_index_or (n ∷ []) k d)) first holds

-- the block that the walk has come to is noted and marked
pub noted_more : (link : Links) (s : Option ℕ) (block : ℕ) (blocks : List ℕ) (marks : List Bool)
    → IsAt link s block blocks marks → slice_index_or marks block false ≡ false → Leads link s block (blocks ++ block ∷ []) (set marks block true)
noted_more link s block blocks marks w new =
    let longer : length (blocks ++ block ∷ []) ≡ suc (length blocks) = length-append blocks (block ∷ []) ∙ omega arith in
    let more : length (blocks ++ block ∷ []) ≡ length blocks + 1 = length-append blocks (block ∷ []) in
    let low : block < length marks = omega (arith, w.on_disk, w.noted.whole) in
    let at_block : slice_index_or (set marks block true) block false ≡ true = get_or-set_same marks block true false low in
    record {
      there = ap (at link s) longer ∙ at-next link s (length blocks) block w.here;
      noted = record {
        whole = length-set marks block true ∙ w.noted.whole;
        in_order = λ i inside.
            below_more (λ i. at link s i ≡ Some (slice_index (blocks ++ block ∷ []) i)) (length blocks)
            (λ k before. w.noted.in_order k before ∙ ap Some (sym (get_or_append_left blocks (block ∷ []) 0 k before)))
            (w.here ∙ ap Some (sym (get_or-append_seam blocks block [] 0)))
            i (omega (arith, more));
        once = all_pairs_push (λ m n. m ≢ n) blocks block w.noted.once (λ k d inside same.
            let found : slice_index_or blocks k block ≡ block = get_or_default blocks k block d inside ∙ same in
            let set_before : slice_index_or marks block false ≡ true = w.noted.marked block (k, inside, found) in cc);
        marked = λ n there. elim (cases_eq n block) [
          | inl same ↦ subst (λ i. slice_index_or (set marks block true) i false ≡ true) (sym same) at_block
          | inr other ↦ elim (Contains-push_cases blocks block n there) [
            | inl before ↦ get_or-set_other marks block n true false other ∙ w.noted.marked n before
            | inr last ↦ absurd (other (sym last))
          ]
        ];
        only = λ n mark. elim (cases_eq n block) [
          | inl same ↦ subst (Contains (blocks ++ block ∷ [])) (sym same) (Contains-push blocks block)
          | inr other ↦ Contains-append_left blocks (block ∷ []) n (w.noted.only n (sym (get_or-set_other marks block n true false other) ∙ mark))
        ];
        inside = All-append (λ n. n < CBM_BLOCKS) blocks (block ∷ []) w.noted.inside (all_of_one (λ n. n < CBM_BLOCKS) block w.on_disk);
        counted = let fewer : unmarked (set marks block true) + 1 ≡ unmarked marks = one_fewer marks block low new in omega (arith, w.noted.counted, more);
      };
      reached = Contains-push blocks block;
    }

-- the link leads to a next block
pub walk_on : (link : Links) (s : Option ℕ) (block next : ℕ) (blocks : List ℕ) (marks : List Bool)
    → Leads link s block blocks marks → link block ≡ Next next → next < CBM_BLOCKS → IsAt link s next blocks marks
walk_on link s block next blocks marks w is low = record { here = w.there ∙ ap next_of is; on_disk = low; noted = w.noted }

-- a block noted is at its place of the walk
noted_there : (link : Links) (s : Option ℕ) (blocks : List ℕ) (marks : List Bool) (n : ℕ) → AreMarked link s blocks marks → (there : Contains blocks n)
    → at link s there.0 ≡ Some n
noted_there link s blocks marks n m there = m.in_order there.0 there.1 ∙ ap Some (get_or_default blocks there.0 0 n there.1 ∙ there.2)

-- a block noted is one that the walk comes to
pub noted_reached : (link : Links) (s : Option ℕ) (blocks : List ℕ) (marks : List Bool) (n : ℕ) → AreMarked link s blocks marks → Contains blocks n → Reaches link s n
noted_reached link s blocks marks n m there = record { place = there.0; there = noted_there link s blocks marks n m there }

-- a place before the last noted is a block noted
found : (link : Links) (s : Option ℕ) (blocks : List ℕ) (marks : List Bool) → AreMarked link s blocks marks
    → (i n : ℕ) → i < length blocks → at link s i ≡ Some n → Contains blocks n
found link s blocks marks m i n inside there =
    let same : Some (slice_index blocks i) ≡ Some n = sym (m.in_order i inside) ∙ there in
    let is : slice_index blocks i ≡ n = cc in
    (i, inside, get_or_default blocks i n 0 inside ∙ is)

-- where the link leads to no block, the blocks noted are the chain
pub chain_stopped : (link : Links) (s : Option ℕ) (block : ℕ) (blocks : List ℕ) (marks : List Bool) (l : Link)
    → Leads link s block blocks marks → link block ≡ l → next_of l ≡ None → IsChain link s blocks
chain_stopped link s block blocks marks l w is stop = record {
  in_order = w.noted.in_order;
  once = w.noted.once;
  all = λ n r. elim (le-or-lt (length blocks) r.place) [
    | inl past ↦
        let gone : at link s r.place ≡ None = over_later link s (length blocks) r.place past (w.there ∙ ap next_of is ∙ stop) in
        let there : at link s r.place ≡ Some n = r.there in absurd (cc)
    | inr within ↦ found link s blocks marks w.noted r.place n within r.there
  ];
}

-- where the walk comes to a block noted, each block that it comes to is noted
loop_all : (link : Links) (s : Option ℕ) (block : ℕ) (blocks : List ℕ) (marks : List Bool)
    → IsAt link s block blocks marks → Contains blocks block → (i n : ℕ) → at link s i ≡ Some n → Contains blocks n
loop_all link s block blocks marks w again zero n there = found link s blocks marks w.noted 0 n (let inside : again.0 < length blocks = again.1 in omega arith) there
loop_all link s block blocks marks w again (suc i) n there =
    option_and_then_some (λ n. next_of (link n)) (at link s i) n (sym (at-suc link s i) ∙ there) (λ m before next.
    let known : Contains blocks m = loop_all link s block blocks marks w again i m before in
    let here : at link s known.0 ≡ Some m = noted_there link s blocks marks m w.noted known in
    let after : at link s (suc known.0) ≡ Some n = at-next link s known.0 m here ∙ next in
    elim (eq-or-lt_of_le known.1) [
      | inl last ↦
          let same : Some block ≡ Some n = sym w.here ∙ ap (at link s) (sym last) ∙ after in
          let is : block ≡ n = cc in subst (Contains blocks) is again
      | inr within ↦ found link s blocks marks w.noted (suc known.0) n within after
    ])

pub chain_looped : (link : Links) (s : Option ℕ) (block : ℕ) (blocks : List ℕ) (marks : List Bool)
    → IsAt link s block blocks marks → slice_index_or marks block false ≡ true → IsChain link s blocks
chain_looped link s block blocks marks w mark = record {
  in_order = w.noted.in_order;
  once = w.noted.once;
  all = λ n r. loop_all link s block blocks marks w (w.noted.only block mark) r.place n r.there;
}

-- where the walk comes to a block noted, it loops
pub loops : (link : Links) (s : Option ℕ) (block : ℕ) (blocks : List ℕ) (marks : List Bool)
    → IsAt link s block blocks marks → slice_index_or marks block false ≡ true → Loops link s
loops link s block blocks marks w mark =
    let old : Contains blocks block = w.noted.only block mark in
    record {
      first = old.0;
      second = length blocks;
      block = block;
      later = old.1;
      reached = noted_there link s blocks marks block w.noted old;
      again = w.here;
    }

-- a table without a mark has none at any place, nor past its end
pub no_marks : (count n : ℕ) → slice_index_or (replicate count false) n false ≡ false
no_marks zero n = refl
no_marks (suc count) zero = refl
no_marks (suc count) (suc n) = no_marks count n

-- at the start no block is noted
pub first_block : (link : Links) (s : Option ℕ) (block : ℕ) → s ≡ Some block → block < CBM_BLOCKS → IsAt link s block [] (replicate CBM_BLOCKS false)
first_block link s block is low = record {
  here = at-zero link s ∙ is;
  on_disk = low;
  noted = record {
    whole = refl;
    in_order = λ i before. absurd (omega arith);
    once = λ i j d before inside. absurd (omega arith);
    marked = λ n there. absurd (omega (arith, there.1));
    only = λ n mark. absurd (let none : slice_index_or (replicate CBM_BLOCKS false) n false ≡ false = no_marks CBM_BLOCKS n in cc);
    inside = λ k d before. absurd (omega arith);
    counted = refl;
  };
}

-- from no start there is no chain
pub chain_none : (link : Links) (s : Option ℕ) → s ≡ None → IsChain link s []
chain_none link s none = record {
  in_order = λ i before. absurd (omega arith);
  once = λ i j d before inside. absurd (omega arith);
  all = λ n r. absurd (
      let gone : at link s r.place ≡ None = over_later link s 0 r.place (omega arith) (at-zero link s ∙ none) in
      let there : at link s r.place ≡ Some n = r.there in cc);
}
