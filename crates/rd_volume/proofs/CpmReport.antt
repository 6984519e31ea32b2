-- The files of a CP/M disk counted.
use Rattle.std.proofs.Common.{◌==◌, ◌≤◌, ℕ, List, count_by, length, not, slice_index_or}
use Rattle.std.proofs.lemmas.Bool.{eq-eqb, eqb-false, eqb-true, ne_eqb, not-true, not_from_false}
use Rattle.rd_geometry.specs.declared.kind.Kind.TheVariants.{Cpm8}
use Rattle.rd_cbm.specs.Counts.{IsCount}
use Rattle.rd_cpm.specs.Entries.{entry_of_slot}
use Rattle.rd_cpm.specs.Files.{IsFileSlot}
use Rattle.rd_cpm.specs.Listing.{AreFiles}
use Rattle.rd_cpm.specs.declared.listing.CpmFile.{CpmFile}
use Rattle.rd_volume.specs.Reports.{DiffersInSize, IsFaultySlot, IsSoundSlot}
use Rattle.rd_volume.proofs.CountLemmas.{counted, counted_all, counted_none}
use Rattle.rd_volume.proofs.ListLemmas.{few_items}

-- a disk has at most 64 files
pub few_files : (image : List ℕ) (files : List CpmFile) → AreFiles image files → length files ≤ 64
few_files image files are = few_items (λ file. file.slot) files 64 are.ascending (λ i d inside. (are.each i d inside).slot.slot)

pub all_files : (image : List ℕ) (files : List CpmFile) → AreFiles image files → IsCount (IsFileSlot (entry_of_slot image)) (length files)
all_files image files are =
    counted_all (λ file. file.slot) (IsFileSlot (entry_of_slot image)) files are.ascending (λ i d inside. (are.each i d inside).slot) are.complete

pub sound_files : (image : List ℕ) (files : List CpmFile) → AreFiles image files → IsCount (IsSoundSlot Cpm8 image) (count_by (λ file. file.faults == 0) files)
sound_files image files are =
    counted (λ file. file.slot) (λ file. file.faults == 0) (IsSoundSlot Cpm8 image) files are.ascending
    (λ i d inside passed. let described = are.each i d inside in record {
      file = described.slot;
      class = tt;
      sound = described.faults.sound.0 (eqb-true (slice_index_or files i d).faults 0 passed);
    })
    (λ i d inside is. eq-eqb (slice_index_or files i d).faults 0 ((are.each i d inside).faults.sound.1 is.sound))
    (λ n is. are.complete n is.file)

pub faulty_files : (image : List ℕ) (files : List CpmFile) → AreFiles image files → IsCount (IsFaultySlot Cpm8 image) (count_by (λ file. not (file.faults == 0)) files)
faulty_files image files are =
    counted (λ file. file.slot) (λ file. not (file.faults == 0)) (IsFaultySlot Cpm8 image) files are.ascending
    (λ i d inside passed. let described = are.each i d inside in record {
      file = described.slot;
      faulty = λ sound. eqb-false (slice_index_or files i d).faults 0 (not-true ((slice_index_or files i d).faults == 0) passed) (described.faults.sound.1 sound);
    })
    (λ i d inside is. not_from_false ((slice_index_or files i d).faults == 0)
    (ne_eqb (slice_index_or files i d).faults 0 (λ zero. is.faulty ((are.each i d inside).faults.sound.0 zero))))
    (λ n is. are.complete n is.file)

pub no_sizes : (image : List ℕ) → IsCount (DiffersInSize Cpm8 image) 0
no_sizes image = counted_none (DiffersInSize Cpm8 image) (λ n is. is)
