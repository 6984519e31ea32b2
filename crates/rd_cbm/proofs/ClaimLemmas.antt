-- The chains by which the file at a slot claims blocks, as the code reads them.
use Rattle.std.proofs.Common.{◌≡◌, ◌≢◌, ◌∙◌, inl, inr, ◌↔◌, ◌*◌, ◌<◌, ◌≤◌, ℕ, Bool, true, false, IsTrue, List, [], ◌∷◌, length, slice_index_or, replicate, All, AllPairs, Contains, Option, Some, arith, refl, sym, ap, subst}
use Rattle.std.proofs.lemmas.List.{get_or-replicate, get_or_default}
use Rattle.rd_geometry.specs.Blocks.{CBM_BLOCKS, index_of}
use Rattle.rd_geometry.proofs.Zones.{second_zone}
use Rattle.rd_cbm.specs.declared.chains.Chain.{Chain}
use Rattle.rd_cbm.specs.declared.chains.End.TheVariants as end
use Rattle.rd_cbm.specs.Links.{link_of}
use Rattle.rd_cbm.specs.Walks.{IsChain, EndsBy, Reaches}
use Rattle.rd_cbm.specs.Entries.{ChainRole, Data, Side, entry_at, type_of, start_of, kind_of, ClaimsBy}
use Rattle.rd_cbm.specs.Files.{Claims, IsSystem}
use Rattle.rd_cbm.specs.Marked.{IsClaimChain, AreAdded}
use Rattle.rd_cbm.proofs.UseLemmas.{AreFlags, flags_first}

-- the index of 18/0
pub map_index : index_of 18 0 ≡ Some 357
map_index = second_zone 18 0 357 (omega arith) (omega arith) refl refl

none_in_empty : (b : ℕ) → Contains [] b → ⊥
none_in_empty b there = let inside : there.0 < 0 = there.1 in absurd (omega arith)

in_one : (m b : ℕ) → Contains (m ∷ []) b → m ≡ b
in_one m b there =
    let first : there.0 ≡ 0 = (let inside : there.0 < 1 = there.1 in omega arith) in
    subst (λ k. slice_index_or (m ∷ []) k b ≡ b) first there.2

-- a block of a chain is one that the walk comes to
pub chain_reached : (image : List ℕ) (start : Option ℕ) (blocks : List ℕ) (b : ℕ) → IsChain (link_of image) start blocks → Contains blocks b → Reaches (link_of image) start b
chain_reached image start blocks b chain there = record { place = there.0; there = chain.in_order there.0 there.1 ∙ ap Some (get_or_default blocks there.0 0 b there.1 ∙ there.2) }

-- where a file claims by a chain it is not unused
pub claimant_used : (type : ℕ) (role : ChainRole) → ClaimsBy type role → type ≢ 0
claimant_used type Data claims = λ none. let some : 1 ≤ kind_of type = claims.1 in absurd (omega arith)
claimant_used type Side claims = λ none. let some : kind_of type ≡ 4 = claims.1 in absurd (omega arith)

-- the blocks of the chain that was read are those that the file at the slot claims by it
pub own_chain : (image blocks : List ℕ) (slot : ℕ) (role : ChainRole) (start : Option ℕ) (type : ℕ) (chain : Chain) → slot < 8 * length blocks
    → type ≡ type_of (entry_at image blocks slot) → start ≡ start_of (entry_at image blocks slot) role → IsClaimChain image start (ClaimsBy type role) chain
    → (b : ℕ) → Contains chain.blocks b ↔ Claims image blocks slot role b
own_chain image blocks slot role start type chain inside read starts is b = (
  λ there. elim is.decided [
    | inl claims ↦ record {
      file = record { inside = inside; used = subst (λ t. t ≢ 0) read (claimant_used type role claims) };
      claimant = subst (λ t. ClaimsBy t role) read claims;
      on_chain = subst (λ s. Reaches (link_of image) s b) starts (chain_reached image start chain.blocks b (is.blocks claims) there);
    }
    | inr none ↦ absurd (none_in_empty b (subst (λ l. Contains l b) (is.none none) there))
  ],
  λ claim. (is.blocks (subst (λ t. ClaimsBy t role) (sym read) claim.claimant)).all b (subst (λ s. Reaches (link_of image) s b) (sym starts) claim.on_chain),
)

-- a chain is read where it is claimed
pub chain_claimed : (image : List ℕ) (start : Option ℕ) (t : Bool) (chain : Chain) → t ≡ true → IsChain (link_of image) start chain.blocks
    → EndsBy (link_of image) start chain.end → All (λ b. b < CBM_BLOCKS) chain.blocks → length chain.blocks ≤ CBM_BLOCKS → IsClaimChain image start (IsTrue t) chain
chain_claimed image start t chain set blocks ends inside few = record {
  decided = inl set;
  blocks = λ _. blocks;
  ends = λ _. ends;
  none = λ unset. absurd (unset set);
  none_end = λ unset. absurd (unset set);
  on_disk = inside;
  distinct = blocks.once;
  few = few;
}

clash : {A : Type 0} (t : Bool) → t ≡ true → t ≡ false → A
clash t set unset = absurd (let wrong : true ≡ false = sym set ∙ unset in cc)

-- no chain is read where none is claimed
pub chain_unclaimed : (image : List ℕ) (start : Option ℕ) (t : Bool) (chain : Chain) → t ≡ false → chain.blocks ≡ [] → chain.end ≡ end.Last 0 → IsClaimChain image start (IsTrue t) chain
chain_unclaimed image start t chain unset none ends = record {
  decided = inr (λ set. clash t set unset);
  blocks = λ set. clash t set unset;
  ends = λ set. clash t set unset;
  none = λ _. none;
  none_end = λ _. ends;
  on_disk = subst (All (λ b. b < CBM_BLOCKS)) (sym none) (λ k d inside. absurd (let low : k < 0 = inside in omega arith));
  distinct = subst (AllPairs (λ m n. m ≢ n)) (sym none) (λ i j d before inside. absurd (let low : j < 0 = inside in omega arith));
  few = let none : length chain.blocks ≡ 0 = ap length none in omega arith;
}

-- what is claimed by a test is claimed by the fact that it tests
pub by_test : {P : Type 0} (image : List ℕ) (start : Option ℕ) (t : Bool) (chain : Chain) → IsTrue t ↔ P → IsClaimChain image start (IsTrue t) chain → IsClaimChain image start P chain
by_test image start t chain test is = record {
  decided = elim is.decided [ inl set ↦ inl (test.0 set) | inr unset ↦ inr (λ p. unset (test.1 p)) ];
  blocks = λ p. is.blocks (test.1 p);
  ends = λ p. is.ends (test.1 p);
  none = λ unclaimed. is.none (λ set. unclaimed (test.0 set));
  none_end = λ unclaimed. is.none_end (λ set. unclaimed (test.0 set));
  on_disk = is.on_disk;
  distinct = is.distinct;
  few = is.few;
}

-- flags that are all clear
unset_at : (clear : List Bool) (b : ℕ) → clear ≡ replicate CBM_BLOCKS false → b < CBM_BLOCKS → slice_index_or clear b false ≡ false
unset_at clear b is low = ap (λ l. slice_index_or l b false) is ∙ get_or-replicate CBM_BLOCKS b false false low

-- the flags after 18/0 and the blocks of the directory are added
pub flags_start : (H : ℕ → ℕ → Type 0) (blocks : List ℕ) (unused unshared used shared used_now shared_now : List Bool)
    → unused ≡ replicate CBM_BLOCKS false → unshared ≡ replicate CBM_BLOCKS false
    → AreAdded unused unshared (357 ∷ []) used shared → AreAdded used shared blocks used_now shared_now → AreFlags (IsSystem blocks) H 0 used_now shared_now
flags_start H blocks unused unshared used shared used_now shared_now unused_is unshared_is map directory =
    flags_first (IsSystem blocks) H used_now shared_now directory.used_whole directory.shared_whole
    (λ b low. (
      λ t. elim ((directory.once b low).0 t) [ inl before ↦ inl (by_map b low before) | inr there ↦ inr there ],
      λ either. (directory.once b low).1 (elim either [
        | inl is ↦ inl ((map.once b low).1 (inr (0, omega arith, (let same : Some 357 ≡ Some b = sym map_index ∙ is in cc))))
        | inr there ↦ inr there
      ]),
    ))
    (λ b low t. (directory.once b low).1 (elim ((directory.twice b low).0 t) [ inl before ↦ inl (shared_used b low before) | inr both ↦ inl both.0 ]))
  where
    by_map : (b : ℕ) → b < CBM_BLOCKS → IsTrue (slice_index_or used b false) → index_of 18 0 ≡ Some b
    by_map b low t = elim ((map.once b low).0 t) [
      | inl before ↦ clash (slice_index_or unused b false) before (unset_at unused b unused_is low)
      | inr there ↦ map_index ∙ ap Some (in_one 357 b there)
    ]

    shared_used : (b : ℕ) → b < CBM_BLOCKS → IsTrue (slice_index_or shared b false) → IsTrue (slice_index_or used b false)
    shared_used b low t = elim ((map.twice b low).0 t) [
      | inl before ↦ clash (slice_index_or unshared b false) before (unset_at unshared b unshared_is low)
      | inr both ↦ clash (slice_index_or unused b false) both.0 (unset_at unused b unused_is low)
    ]

-- the blocks used after a list is added to none are those of the list
pub used_by_one : (blocks : List ℕ) (unused unshared used shared : List Bool) → unused ≡ replicate CBM_BLOCKS false → AreAdded unused unshared blocks used shared
    → (b : ℕ) → b < CBM_BLOCKS → IsTrue (slice_index_or used b false) ↔ Contains blocks b
used_by_one blocks unused unshared used shared unused_is added b low = (
  λ t. elim ((added.once b low).0 t) [
    | inl never ↦ clash (slice_index_or unused b false) never (unset_at unused b unused_is low)
    | inr there ↦ there
  ],
  λ there. (added.once b low).1 (inr there),
)
