-- The files of a disk, slot by slot.
use Rattle.std.proofs.Common.{◌≡◌, ◌+◌, ◌<◌, ℕ, List, [], ◌∷◌, ◌++◌, arith, subst, map, slice_index, slice_index_or, All, AllPairs, Contains, below_more}
use Rattle.std.proofs.lemmas.List.{map-append}
use Rattle.std.proofs.lemmas.List.Elements.{All-append, Contains-append_left, Contains-append_right}
use Rattle.std.proofs.lemmas.List.Quantifiers.{all_pairs_push}
use Rattle.rd_cpm.specs.Entries.{entry_of_slot}
use Rattle.rd_cpm.specs.Files.{IsFileSlot}
use Rattle.rd_cpm.specs.Owners.{AreOwners}
use Rattle.rd_cpm.specs.declared.listing.CpmFile.{CpmFile}
use Rattle.rd_cpm.specs.Listing.{Describes}
use Rattle.rd_cpm.proofs.OwnerLemmas.{own_entry, owner_is}

-- The files of an image whose slots are below n.
pub record AreFilesBelow (image : List ℕ) (n : ℕ) (files : List CpmFile) : Type 0 where
  pub each : All (Describes image) files
  pub below : All (λ f. f.slot < n) files
  pub ascending : AllPairs (λ f g. f.slot < g.slot) files
  pub complete : (k : ℕ) → k < n → IsFileSlot (entry_of_slot image) k → Contains (map (λ f. f.slot) files) k

pub listed_none : (image : List ℕ) (n : ℕ) (files : List CpmFile) → AreFilesBelow image n files → (IsFileSlot (entry_of_slot image) n → ⊥) → AreFilesBelow image (n + 1) files
listed_none image n files are none = record {
  each = are.each;
  below = λ k d inside. let low = are.below k d inside in omega arith;
  ascending = are.ascending;
  complete = below_more _ _ are.complete (λ file. absurd (none file));
}

all_of_one : {X : Type 0} (P : X → Type 0) (x : X) → P x → All P (x ∷ [])
all_of_one P x holds k d inside = let first : 0 ≡ k = omega arith in subst (λ k. P (slice_index_or (x ∷ []) k d)) first holds

pub listed_more : (image : List ℕ) (n : ℕ) (files : List CpmFile) (file : CpmFile) → AreFilesBelow image n files → Describes image file → file.slot ≡ n
    → AreFilesBelow image (n + 1) (files ++ file ∷ [])
listed_more image n files file are described at = record {
  each = All-append (Describes image) files (file ∷ []) are.each (all_of_one (Describes image) file described);
  below = All-append (λ f. f.slot < n + 1) files (file ∷ []) (λ k d inside. let low = are.below k d inside in omega arith) (all_of_one (λ f. f.slot < n + 1) file (omega arith));
  ascending = all_pairs_push (λ f g. f.slot < g.slot) files file are.ascending (λ k d inside. let low = are.below k d inside in omega arith);
  complete = below_more (λ k. IsFileSlot (entry_of_slot image) k → Contains (map (λ f. f.slot) (files ++ file ∷ [])) k) n
      (λ k low is. rw (map-append (λ f. f.slot) files (file ∷ [])) (Contains-append_left (map (λ f. f.slot) files) (file.slot ∷ []) k (are.complete k low is)))
      (λ is. rw (map-append (λ f. f.slot) files (file ∷ [])) (Contains-append_right (map (λ f. f.slot) files) (file.slot ∷ []) n (0, omega arith, at)));
}

-- a slot that is not its own owner is no file's
pub no_file_slot : (image : List ℕ) (n : ℕ) (owners : List ℕ) → AreOwners (entry_of_slot image) 64 owners → n < 64 → (slice_index owners n ≡ n → ⊥) → IsFileSlot (entry_of_slot image) n → ⊥
no_file_slot image n owners owned low other file = other (owner_is (entry_of_slot image) n n (slice_index owners n) file (own_entry (entry_of_slot image) n file) (owned n low))

-- a slot that is its own owner is a file's
pub file_slot : (image : List ℕ) (n : ℕ) (owners : List ℕ) → AreOwners (entry_of_slot image) 64 owners → n < 64 → slice_index owners n ≡ n → IsFileSlot (entry_of_slot image) n
file_slot image n owners owned low same = let owner : slice_index owners n < 64 = omega arith in subst (IsFileSlot (entry_of_slot image)) same ((owned n low).file_slot owner)
