-- The entries of one file, gathered slot by slot.
use Rattle.std.proofs.Common.{◌≡◌, ◌≢◌, ◌∙◌, ◌↔◌, ◌⊎◌, inl, inr, ◌+◌, ◌<◌, ◌≤◌, ℕ, List, [], ◌∷◌, ◌++◌, length, map, slice_index, slice_index_or, Contains, AllPairs, Any, arith, refl, sym, ap, subst}
use Rattle.std.proofs.lemmas.Bool.{cases_eq}
use Rattle.std.proofs.lemmas.List.{get_or-map, length-map, map-append}
use Rattle.std.proofs.lemmas.List.Elements.{Contains-get_or, Contains-append_left, Contains-push, Contains-push_cases}
use Rattle.std.proofs.lemmas.List.Quantifiers.{all_pairs_push}
use Rattle.rd_cpm.specs.Files.{Directory, IsEntryOf, IsFileSlot}
use Rattle.rd_cpm.specs.Gathered.{AreGathered}
use Rattle.rd_cpm.specs.Owners.{AreOwners}
use Rattle.rd_cpm.proofs.OwnerLemmas.{owner_is}

-- the entries of the file at the slots below n
pub record IsGatheredBelow (d : Directory) (k n : ℕ) (entries : List (List ℕ)) : Type 0 where
  pub slots : List ℕ
  pub each : (j : ℕ) → Contains slots j ↔ (IsEntryOf d k j × (j < n))
  pub once : AllPairs (λ i j. i ≢ j) slots
  pub taken : entries ≡ map d slots

none_in_empty : (j : ℕ) → Contains [] j → ⊥
none_in_empty j there = let inside : there.0 < 0 = there.1 in absurd (omega arith)

-- no entry of a file stands before its slot
pub gathered_at_first : (d : Directory) (k : ℕ) → IsFileSlot d k → IsGatheredBelow d k k []
gathered_at_first d k file = record {
  slots = [];
  each = λ j. (λ there. absurd (none_in_empty j there), λ entry. absurd (let least : k ≤ j = file.least j entry.0 in let low : j < k = entry.1 in omega arith));
  once = λ i j x first inside. absurd (let low : j < 0 = inside in omega arith);
  taken = refl;
}

-- the slot after is of another owner
pub gathered_none : (d : Directory) (k n : ℕ) (owners : List ℕ) (entries : List (List ℕ)) → IsFileSlot d k → AreOwners d 64 owners → n < 64
    → slice_index owners n ≢ k → IsGatheredBelow d k n entries → IsGatheredBelow d k (n + 1) entries
gathered_none d k n owners entries file owned low other g = record {
  slots = g.slots;
  each = λ j. (
    λ there. let was = (g.each j).0 there in (was.0, let before : j < n = was.1 in omega arith),
    λ entry. (g.each j).1 (entry.0, before_n j entry.0 entry.1),
  );
  once = g.once;
  taken = g.taken;
}
  where
    not_n : (j : ℕ) → IsEntryOf d k j → j ≡ n → ⊥
    not_n j entry same = other (ap (slice_index owners) (sym same) ∙ owner_is d k j (slice_index owners j) file entry (owned j (let b : j < 64 = entry.slot in b)))

    before_n : (j : ℕ) → IsEntryOf d k j → j < n + 1 → j < n
    before_n j entry high = let differ : j ≢ n = not_n j entry in omega arith

-- the slot after is of this owner
pub gathered_more : (d : Directory) (k n : ℕ) (owners : List ℕ) (entries : List (List ℕ)) → IsFileSlot d k → AreOwners d 64 owners → n < 64
    → slice_index owners n ≡ k → IsGatheredBelow d k n entries → IsGatheredBelow d k (n + 1) (entries ++ d n ∷ [])
gathered_more d k n owners entries file owned low same g = record {
  slots = g.slots ++ n ∷ [];
  each = λ j. (
    λ there. elim (Contains-push_cases g.slots n j there) [
      | inl before ↦ (let was = (g.each j).0 before in (was.0, let less : j < n = was.1 in omega arith))
      | inr last ↦ (subst (IsEntryOf d k) last here, let e : n ≡ j = last in omega arith)
    ],
    λ entry. elim (cases_last j n entry.1) [
      | inl before ↦ Contains-append_left g.slots (n ∷ []) j ((g.each j).1 (entry.0, before))
      | inr last ↦ subst (Contains (g.slots ++ n ∷ [])) (sym last) (Contains-push g.slots n)
    ],
  );
  once = all_pairs_push (λ i j. i ≢ j) g.slots n g.once (λ i x inside same. let before : slice_index_or g.slots i x < n = ((g.each (slice_index_or g.slots i x)).0 (Contains-get_or g.slots i x inside)).1 in omega arith);
  taken = ap (λ l. l ++ d n ∷ []) g.taken ∙ sym (map-append d g.slots (n ∷ []));
}
  where
    here : IsEntryOf d k n
    here =
        let owner = owned n low in
        let k_low : k < 64 = file.slot in
        let small : slice_index owners n < 64 = omega arith in
        subst (λ o. IsEntryOf d o n) same (owner.of_file small)

    cases_last : (j n : ℕ) → j < n + 1 → (j < n) ⊎ (j ≡ n)
    cases_last j n high = elim (cases_eq j n) [ inl same ↦ inr same | inr other ↦ inl (omega arith) ]

-- all 64 slots are passed
pub gathered_all : (d : Directory) (k : ℕ) (entries : List (List ℕ)) → IsGatheredBelow d k 64 entries → AreGathered d k entries
gathered_all d k entries g = record {
  slots = g.slots;
  of_file = record {
    each = λ j. (λ there. ((g.each j).0 there).0, λ entry. (g.each j).1 (entry, entry.slot));
    once = g.once;
  };
  taken = g.taken;
}

-- an entry of the list that passes a test is one of the file
pub any_to_entry : (d : Directory) (k : ℕ) (entries : List (List ℕ)) (P : List ℕ → Type 0) → AreGathered d k entries → Any P entries
    → (j : ℕ) × IsEntryOf d k j × P (d j)
any_to_entry d k entries P g found =
    let among : Any P (map d g.slots) = subst (Any P) g.taken found in
    let i : ℕ = among.0 in
    let x : List ℕ = among.1 in
    let inside : i < length g.slots = subst (λ n. i < n) (length-map g.slots d) among.2 in
    let j : ℕ = slice_index_or g.slots i 0 in
    let is : d j ≡ x = sym (get_or-map d g.slots i 0 x inside) ∙ among.3 in
    (j, (g.of_file.each j).0 (Contains-get_or g.slots i 0 inside), subst P (sym is) among.4)

-- an entry of the file is in the list
pub entry_to_member : (d : Directory) (k : ℕ) (entries : List (List ℕ)) (j : ℕ) → AreGathered d k entries → IsEntryOf d k j → Contains entries (d j)
entry_to_member d k entries j g entry =
    let there = (g.of_file.each j).1 entry in
    let i : ℕ = there.0 in
    let inside : i < length (map d g.slots) = rw (length-map g.slots d) there.1 in
    subst (λ l. Contains l (d j)) (sym g.taken)
    (i, inside, get_or-map d g.slots i j (d j) there.1 ∙ ap d there.2)

-- an entry of the file that passes a test is in the list
pub entry_to_any : (d : Directory) (k : ℕ) (entries : List (List ℕ)) (P : List ℕ → Type 0) (j : ℕ) → AreGathered d k entries → IsEntryOf d k j → P (d j) → Any P entries
entry_to_any d k entries P j g entry holds =
    let there = entry_to_member d k entries j g entry in
    (there.0, d j, there.1, there.2, holds)

-- what holds of an entry of the list is one of the file's
pub member_to_entry : (d : Directory) (k : ℕ) (entries : List (List ℕ)) (entry : List ℕ) → AreGathered d k entries → Contains entries entry
    → (j : ℕ) × IsEntryOf d k j × (d j ≡ entry)
member_to_entry d k entries entry g there = any_to_entry d k entries (λ e. e ≡ entry) g (there.0, entry, there.1, there.2, refl)
