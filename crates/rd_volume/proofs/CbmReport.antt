-- The files of a 1541 disk counted.
use Rattle.std.proofs.Common.{◌≡◌, ◌∙◌, ◌*◌, ◌%◌, ◌<◌, ◌≤◌, ◌==◌, ◌&&◌, ℕ, List, All, IsSome, Option, Some, ap, arith, count_by, length, nat_le, not, refl, slice_index_or, subst, sym, true}
use Rattle.std.proofs.lemmas.Bool.{agree_below_at, and_from, and_parts, eq-eqb, eqb-false, eqb-true, le-leb, leb-true, ne_eqb, not-true, not_from_false}
use Rattle.rd_geometry.specs.Blocks.{CBM_BLOCKS, cbm_block, index_of}
use Rattle.rd_geometry.specs.Kinds.{IsCbm}
use Rattle.rd_geometry.specs.declared.kind.Kind.{Kind}
use Rattle.rd_geometry.specs.declared.kind.Kind.TheVariants.{Cpm8}
use Rattle.rd_cbm.specs.BlockMap.{bytes_at, map_of}
use Rattle.rd_cbm.specs.Counts.{IsCount}
use Rattle.rd_cbm.specs.Entries.{ChainRole, class_of, entry_at, size_field_of, type_of}
use Rattle.rd_cbm.specs.Files.{AreDirectoryBlocks, Claims}
use Rattle.rd_cbm.specs.Listing.{AreCounts, AreFiles, Describes}
use Rattle.rd_cbm.specs.Links.{link_of}
use Rattle.rd_cbm.specs.Walks.{EndsBy}
use Rattle.rd_cbm.specs.declared.chains.End.{End}
use Rattle.rd_cbm.specs.declared.listing.CbmFile.{CbmFile}
use Rattle.rd_cbm.specs.declared.report.MapReport.{MapReport}
use Rattle.rd_cbm.proofs.OneChain.{one_chain}
use Rattle.rd_volume.specs.CbmKinds.{not_cpm}
use Rattle.rd_volume.specs.OneDirectory.{holds_of_directory, holds_of_blocks}
use Rattle.rd_volume.specs.Reports.{DiffersInSize, HasOtherSize, IsDirectoryEnd, IsFaultySlot, IsMapReport, IsSoundSlot}
use Rattle.rd_volume.specs.Tallies.{differs_in_size, is_claimant, is_sound}
use Rattle.rd_volume.specs.Volumes.{IsSlotOfFile}
use Rattle.rd_volume.proofs.CbmLemmas.{class_by, class_is, told_class}
use Rattle.rd_volume.proofs.CountLemmas.{counted, counted_all, one_count}
use Rattle.rd_volume.proofs.ListLemmas.{few_below, few_items}

few_slots : (n slot : ℕ) → n ≤ 683 → slot < 8 * n → slot < 5464
few_slots n slot few below = omega arith

-- a disk has at most 5,464 files
pub few_files : (image blocks : List ℕ) (files : List CbmFile) → AreDirectoryBlocks image blocks → All (λ block. block < CBM_BLOCKS) blocks → AreFiles image files
    → length files ≤ 5464
few_files image blocks files are_blocks on_disk are =
    let same = one_chain _ _ blocks are.blocks are_blocks are.directory in
    let few : length are.blocks ≤ 683 = subst (λ bs. length bs ≤ 683) same (few_below blocks CBM_BLOCKS on_disk are_blocks.once) in
    few_items (λ file. file.slot) files 5464 are.ascending
    (λ i d inside. few_slots (length are.blocks) (slice_index_or files i d).slot few (are.each i d inside).slot.inside)

pub all_files : (kind : Kind) → IsCbm kind → (image : List ℕ) (files : List CbmFile) → AreFiles image files → IsCount (IsSlotOfFile kind image) (length files)
all_files Cpm8 cbm image files are = absurd (not_cpm cbm)
all_files kind cbm image files are =
    counted_all (λ file. file.slot) (IsSlotOfFile kind image) files are.ascending
    (λ i d inside. holds_of_directory image are.blocks are.directory _ (are.each i d inside).slot)
    (λ n is. are.complete n (holds_of_blocks image are.blocks are.directory _ is))

pub sound_files : (kind : Kind) → IsCbm kind → (image : List ℕ) (files : List CbmFile) → AreFiles image files → IsCount (IsSoundSlot kind image) (count_by is_sound files)
sound_files Cpm8 cbm image files are = absurd (not_cpm cbm)
sound_files kind cbm image files are =
    counted (λ file. file.slot) is_sound (IsSoundSlot kind image) files are.ascending
    (λ i d inside passed.
    let file = slice_index_or files i d in
    let described = are.each i d inside in
    let parts = and_parts _ (file.faults == 0) passed in
    record {
      file = holds_of_directory image are.blocks are.directory _ described.slot;
      class = holds_of_directory image are.blocks are.directory _ ((told_class image are.blocks file described).0 parts.0);
      sound = holds_of_directory image are.blocks are.directory _ (described.faults.none.0 (eqb-true file.faults 0 parts.1));
    })
    (λ i d inside is.
    let file = slice_index_or files i d in
    let described = are.each i d inside in
    and_from _ (file.faults == 0) ((told_class image are.blocks file described).1 (holds_of_blocks image are.blocks are.directory _ is.class))
    (eq-eqb file.faults 0 (described.faults.none.1 (holds_of_blocks image are.blocks are.directory _ is.sound))))
    (λ n is. are.complete n (holds_of_blocks image are.blocks are.directory _ is.file))

pub faulty_files : (kind : Kind) → IsCbm kind → (image : List ℕ) (files : List CbmFile) → AreFiles image files → IsCount (IsFaultySlot kind image) (count_by (λ file. not (file.faults == 0)) files)
faulty_files Cpm8 cbm image files are = absurd (not_cpm cbm)
faulty_files kind cbm image files are =
    counted (λ file. file.slot) (λ file. not (file.faults == 0)) (IsFaultySlot kind image) files are.ascending
    (λ i d inside passed.
    let file = slice_index_or files i d in
    let described = are.each i d inside in
    record {
      file = holds_of_directory image are.blocks are.directory _ described.slot;
      faulty = λ none. eqb-false file.faults 0 (not-true (file.faults == 0) passed) (described.faults.none.1 (holds_of_blocks image are.blocks are.directory _ none));
    })
    (λ i d inside is.
    let file = slice_index_or files i d in
    let described = are.each i d inside in
    not_from_false (file.faults == 0) (ne_eqb file.faults 0 (λ zero. is.faulty (holds_of_directory image are.blocks are.directory _ (described.faults.none.0 zero)))))
    (λ n is. are.complete n (holds_of_blocks image are.blocks are.directory _ is.file))

-- a class claims blocks, where its files are closed
claimant_by : (k : ℕ) → k < 16 → is_claimant (class_by k) ≡ (nat_le 1 k && nat_le k 4)
claimant_by k low = agree_below_at (λ k. is_claimant (class_by k)) (λ k. nat_le 1 k && nat_le k 4) 16 k refl low

claimant_is : (type : ℕ) → is_claimant (class_of type) ≡ (nat_le 1 (type % 16) && nat_le (type % 16) 4)
claimant_is type = ap is_claimant (class_is type) ∙ claimant_by (type % 16) (omega arith)

claimant_of : (type : ℕ) → is_claimant (class_of type) ≡ true → (1 ≤ type % 16) × (type % 16 ≤ 4)
claimant_of type passed =
    let parts = and_parts (nat_le 1 (type % 16)) (nat_le (type % 16) 4) (sym (claimant_is type) ∙ passed) in
    (leb-true 1 (type % 16) parts.0, leb-true (type % 16) 4 parts.1)

claimant_to : (type : ℕ) → 1 ≤ type % 16 → type % 16 ≤ 4 → is_claimant (class_of type) ≡ true
claimant_to type low high =
    claimant_is type ∙ and_from (nat_le 1 (type % 16)) (nat_le (type % 16) 4) (le-leb 1 (type % 16) low) (le-leb (type % 16) 4 high)

other_size : (image blocks : List ℕ) (file : CbmFile) → Describes image blocks file → differs_in_size file ≡ true → HasOtherSize image file.slot blocks
other_size image blocks file described passed =
    let both = and_parts (file.closed && is_claimant file.class) (not (file.claimed == file.size_field)) passed in
    let parts = and_parts file.closed (is_claimant file.class) both.0 in
    let kinds = claimant_of (type_of (entry_at image blocks file.slot)) (ap is_claimant (sym described.class) ∙ parts.1) in
    record {
      file = described.slot;
      claimant = (described.closed.0 parts.0, kinds.0, kinds.1);
      differs = λ count. eqb-false file.claimed file.size_field (not-true (file.claimed == file.size_field) both.1)
          (one_count _ file.claimed (size_field_of (entry_at image blocks file.slot)) described.claimed count ∙ sym described.size_field);
    }

told_size : (image blocks : List ℕ) (file : CbmFile) → Describes image blocks file → HasOtherSize image file.slot blocks → differs_in_size file ≡ true
told_size image blocks file described is =
    and_from (file.closed && is_claimant file.class) (not (file.claimed == file.size_field))
    (and_from file.closed (is_claimant file.class) (described.closed.1 is.claimant.0)
    (ap is_claimant described.class ∙ claimant_to (type_of (entry_at image blocks file.slot)) is.claimant.1 is.claimant.2))
    (not_from_false (file.claimed == file.size_field) (ne_eqb file.claimed file.size_field (λ same.
    is.differs (subst (IsCount (λ block. (way : ChainRole) × Claims image blocks file.slot way block)) (same ∙ described.size_field) described.claimed))))

pub other_sizes : (kind : Kind) → IsCbm kind → (image : List ℕ) (files : List CbmFile) → AreFiles image files → IsCount (DiffersInSize kind image) (count_by differs_in_size files)
other_sizes Cpm8 cbm image files are = absurd (not_cpm cbm)
other_sizes kind cbm image files are =
    counted (λ file. file.slot) differs_in_size (DiffersInSize kind image) files are.ascending
    (λ i d inside passed. holds_of_directory image are.blocks are.directory _ (other_size image are.blocks (slice_index_or files i d) (are.each i d inside) passed))
    (λ i d inside is. told_size image are.blocks (slice_index_or files i d) (are.each i d inside) (holds_of_blocks image are.blocks are.directory _ is))
    (λ n is. are.complete n (holds_of_blocks image are.blocks are.directory _ is).file)

-- the counts of its block map and the end of its directory are told
pub map_counts : (kind : Kind) → IsCbm kind → (image : List ℕ) (map : MapReport) → AreCounts image map → IsMapReport kind image map
map_counts Cpm8 cbm image map are = absurd (not_cpm cbm)
map_counts _ cbm image map are = are

pub directory_ends : (kind : Kind) → IsCbm kind → (image : List ℕ) (ends : End) → EndsBy (link_of image) (index_of 18 1) ends → IsDirectoryEnd kind image ends
directory_ends Cpm8 cbm image ends by = absurd (not_cpm cbm)
directory_ends _ cbm image ends by = by

-- 18/0 is on the disk, and holds the block map
pub has_map_block : (found : Option ℕ) → found ≡ index_of 18 0 → IsSome found
unfolding index_of
has_map_block found is = rw is refl

pub is_map_block : (image : List ℕ) (found : Option ℕ) (n : ℕ) → found ≡ index_of 18 0 → found ≡ Some n → cbm_block image n ≡ map_of image
unfolding map_of
is_map_block image found n is at = ap (bytes_at image) (sym at ∙ is)
