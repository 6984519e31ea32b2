-- The used entries of a directory, slot by slot.
use Rattle.std.proofs.Common.{◌≡◌, ◌≢◌, ◌∙◌, ◌+◌, ◌*◌, ◌<◌, ℕ, List, [], ◌∷◌, ◌++◌, arith, sym, subst, map, length, slice_index_or, All, AllPairs, Contains, below_more}
use Rattle.std.proofs.lemmas.List.{map-append}
use Rattle.std.proofs.lemmas.List.Elements.{All-append, Contains-append_left, Contains-append_right}
use Rattle.std.proofs.lemmas.List.Quantifiers.{all_pairs_push}
use Rattle.rd_cbm.specs.Files.{IsFileSlot}
use Rattle.rd_cbm.specs.declared.entries.CbmEntry.{CbmEntry}
use Rattle.rd_cbm.specs.Listing.{HasFields, AreEntries}

-- The used entries at the slots below n.
pub record AreEntriesBelow (image blocks : List ℕ) (n : ℕ) (entries : List CbmEntry) : Type 0 where
  pub slots : All (λ entry. IsFileSlot image blocks entry.slot) entries
  pub fields : All (HasFields image blocks) entries
  pub below : All (λ entry. entry.slot < n) entries
  pub ascending : AllPairs (λ d e. d.slot < e.slot) entries
  pub complete : (slot : ℕ) → slot < n → IsFileSlot image blocks slot → Contains (map (λ entry. entry.slot) entries) slot

pub entries_none : (image blocks : List ℕ) → AreEntriesBelow image blocks 0 []
entries_none image blocks = record {
  slots = λ k d inside. absurd (omega arith);
  fields = λ k d inside. absurd (omega arith);
  below = λ k d inside. absurd (omega arith);
  ascending = λ i j d before inside. absurd (omega arith);
  complete = λ slot low. absurd (omega arith);
}

all_of_one : (P : CbmEntry → Type 0) (entry : CbmEntry) → P entry → All P (entry ∷ [])
all_of_one P entry holds k d inside = let first : 0 ≡ k = omega arith in subst (λ k. P (slice_index_or (entry ∷ []) k d)) first holds

-- the entry at slot n is not used
pub entries_unused : (image blocks : List ℕ) (n : ℕ) (entries : List CbmEntry) (entry : CbmEntry) → AreEntriesBelow image blocks n entries
    → HasFields image blocks entry → entry.slot ≡ n → entry.ty_byte ≡ 0 → AreEntriesBelow image blocks (n + 1) entries
entries_unused image blocks n entries entry are fields at unused = record {
  slots = are.slots;
  fields = are.fields;
  below = λ k d inside. let low : (slice_index_or entries k d).slot < n = are.below k d inside in omega arith;
  ascending = are.ascending;
  complete = below_more (λ slot. IsFileSlot image blocks slot → Contains (map (λ entry. entry.slot) entries) slot) n are.complete
      (λ file. absurd (
      let used : IsFileSlot image blocks entry.slot = subst (IsFileSlot image blocks) (sym at) file in
      used.used (sym fields.ty_byte ∙ unused)));
}

-- the entry at slot n is used
pub entries_more : (image blocks : List ℕ) (n : ℕ) (entries : List CbmEntry) (entry : CbmEntry) → AreEntriesBelow image blocks n entries
    → HasFields image blocks entry → entry.slot ≡ n → n < 8 * length blocks → entry.ty_byte ≢ 0 → AreEntriesBelow image blocks (n + 1) (entries ++ entry ∷ [])
entries_more image blocks n entries entry are fields at inside used = record {
  slots = All-append (λ e. IsFileSlot image blocks e.slot) entries (entry ∷ []) are.slots (all_of_one (λ e. IsFileSlot image blocks e.slot) entry file);
  fields = All-append (HasFields image blocks) entries (entry ∷ []) are.fields (all_of_one (HasFields image blocks) entry fields);
  below = All-append (λ e. e.slot < n + 1) entries (entry ∷ [])
      (λ k d inside. let low : (slice_index_or entries k d).slot < n = are.below k d inside in omega arith) (all_of_one (λ e. e.slot < n + 1) entry (omega arith));
  ascending = all_pairs_push (λ d e. d.slot < e.slot) entries entry are.ascending
      (λ k d inside. let low : (slice_index_or entries k d).slot < n = are.below k d inside in omega arith);
  complete = below_more (λ slot. IsFileSlot image blocks slot → Contains (map (λ e. e.slot) (entries ++ entry ∷ [])) slot) n
      (λ slot low is. rw (map-append (λ (e : CbmEntry). e.slot) entries (entry ∷ [])) (Contains-append_left (map (λ e. e.slot) entries) (entry.slot ∷ []) slot (are.complete slot low is)))
      (λ is. rw (map-append (λ (e : CbmEntry). e.slot) entries (entry ∷ [])) (Contains-append_right (map (λ e. e.slot) entries) (entry.slot ∷ []) n (0, omega arith, at)));
}
  where
    file : IsFileSlot image blocks entry.slot
    file = record {
      inside = omega arith;
      used = λ unused. used (fields.ty_byte ∙ unused);
    }

-- all slots are passed
pub entries_all : (image blocks : List ℕ) (n : ℕ) (entries : List CbmEntry) → n ≡ 8 * length blocks → AreEntriesBelow image blocks n entries → AreEntries image blocks entries
entries_all image blocks n entries whole are = record {
  slots = are.slots;
  fields = are.fields;
  ascending = are.ascending;
  complete = λ slot file. are.complete slot (let inside : slot < 8 * length blocks = file.inside in omega arith) file;
}
