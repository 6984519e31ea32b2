-- The files of a disk, slot by slot.
use Rattle.std.proofs.Common.{◌≡◌, ◌+◌, ◌*◌, ◌<◌, ℕ, List, [], ◌∷◌, ◌++◌, arith, subst, map, length, slice_index_or, All, AllPairs, Contains, below_more}
use Rattle.std.proofs.lemmas.List.{map-append}
use Rattle.std.proofs.lemmas.List.Elements.{All-append, Contains-append_left, Contains-append_right}
use Rattle.std.proofs.lemmas.List.Quantifiers.{all_pairs_push}
use Rattle.rd_cbm.specs.Files.{AreDirectoryBlocks, IsFileSlot}
use Rattle.rd_cbm.specs.declared.listing.CbmFile.{CbmFile}
use Rattle.rd_cbm.specs.Listing.{Describes, AreFiles}

-- The files of an image at the slots below n.
pub record AreFilesBelow (image blocks : List ℕ) (n : ℕ) (files : List CbmFile) : Type 0 where
  pub each : All (Describes image blocks) files
  pub below : All (λ f. f.slot < n) files
  pub ascending : AllPairs (λ f g. f.slot < g.slot) files
  pub complete : (slot : ℕ) → slot < n → IsFileSlot image blocks slot → Contains (map (λ f. f.slot) files) slot

pub files_none : (image blocks : List ℕ) → AreFilesBelow image blocks 0 []
files_none image blocks = record {
  each = λ k d inside. absurd (omega arith);
  below = λ k d inside. absurd (omega arith);
  ascending = λ i j d before inside. absurd (omega arith);
  complete = λ slot low. absurd (omega arith);
}

pub files_skip : (image blocks : List ℕ) (n : ℕ) (files : List CbmFile) → AreFilesBelow image blocks n files → (IsFileSlot image blocks n → ⊥) → AreFilesBelow image blocks (n + 1) files
files_skip image blocks n files are none = record {
  each = are.each;
  below = λ k d inside. let low = are.below k d inside in omega arith;
  ascending = are.ascending;
  complete = below_more _ _ are.complete (λ file. absurd (none file));
}

all_of_one : {X : Type 0} (P : X → Type 0) (x : X) → P x → All P (x ∷ [])
all_of_one P x holds k d inside = let first : 0 ≡ k = omega arith in subst (λ k. P (slice_index_or (x ∷ []) k d)) first holds

pub files_more : (image blocks : List ℕ) (n : ℕ) (files : List CbmFile) (file : CbmFile) → AreFilesBelow image blocks n files → Describes image blocks file → file.slot ≡ n
    → AreFilesBelow image blocks (n + 1) (files ++ file ∷ [])
files_more image blocks n files file are described at = record {
  each = All-append (Describes image blocks) files (file ∷ []) are.each (all_of_one (Describes image blocks) file described);
  below = All-append (λ f. f.slot < n + 1) files (file ∷ []) (λ k d inside. let low = are.below k d inside in omega arith) (all_of_one (λ f. f.slot < n + 1) file (omega arith));
  ascending = all_pairs_push (λ f g. f.slot < g.slot) files file are.ascending (λ k d inside. let low = are.below k d inside in omega arith);
  complete = below_more (λ slot. IsFileSlot image blocks slot → Contains (map (λ f. f.slot) (files ++ file ∷ [])) slot) n
      (λ slot low is. rw (map-append (λ f. f.slot) files (file ∷ [])) (Contains-append_left (map (λ f. f.slot) files) (file.slot ∷ []) slot (are.complete slot low is)))
      (λ is. rw (map-append (λ f. f.slot) files (file ∷ [])) (Contains-append_right (map (λ f. f.slot) files) (file.slot ∷ []) n (0, omega arith, at)));
}

-- all slots are passed
pub files_all : (image blocks : List ℕ) (n : ℕ) (files : List CbmFile) → AreDirectoryBlocks image blocks → n ≡ 8 * length blocks → AreFilesBelow image blocks n files → AreFiles image files
files_all image blocks n files directory whole are = record {
  blocks = blocks;
  directory = directory;
  each = are.each;
  ascending = are.ascending;
  complete = λ slot file. are.complete slot (let inside : slot < 8 * length blocks = file.inside in omega arith) file;
}
