-- Each image of bytes has a survey and a report, and each slot is a file's or not.
use Rattle.std.proofs.Common.{◌≡◌, ◌-◌, ◌*◌, ◌<◌, ℕ, List, [], All, None, Some, length, refl, subst, true}
use Rattle.rd_geometry.specs.declared.kind.Kind.{Kind}
use Rattle.rd_geometry.specs.declared.kind.Kind.TheVariants.{Cpm8, D64}
use Rattle.rd_geometry.proofs.Decidability.{Decided, decided_as, decided_both, decided_not, decided_same, fails, flag, flag_is, holds, items_below}
use Rattle.rd_cbm.specs.Counts.{IsCount}
use Rattle.rd_cbm.specs.Entries.{Data, IsServed, ChainRole, class_of, entry_at, name_of as cbm_name, size_field_of, start_of, type_of}
use Rattle.rd_cbm.specs.Faults.{HasNoFault, IsSound as IsSoundCbm}
use Rattle.rd_cbm.specs.Files.{AreDirectoryBlocks, Claims, IsFileSlot as IsCbmSlot}
use Rattle.rd_cbm.specs.declared.chains.End.{End}
use Rattle.rd_cbm.specs.declared.chains.End.TheVariants as end
use Rattle.rd_cbm.specs.declared.report.MapReport.{MapReport}
use Rattle.rd_cbm.proofs.Decidability as cbm
use Rattle.rd_cbm.proofs.MapLemmas.{count_once}
use Rattle.rd_cpm.specs.Contents.{bytes_of_sectors}
use Rattle.rd_cpm.specs.Entries.{user_byte_of, name_of as cpm_name, without_high_bits, entry_of_slot}
use Rattle.rd_cpm.specs.Faults.{IsSound as IsSoundCpm}
use Rattle.rd_cpm.specs.Files.{IsFileSlot as IsCpmSlot}
use Rattle.rd_cpm.proofs.Existence as cpm
use Rattle.rd_volume.specs.CbmFounds.{IsCbmFile, bytes_of_chain}
use Rattle.rd_volume.specs.CpmFounds.{IsCpmFile, last_sector_length}
use Rattle.rd_volume.specs.Directories.{OfDirectory}
use Rattle.rd_volume.specs.OneDirectory.{holds_of_directory, holds_of_blocks}
use Rattle.rd_volume.specs.Printed.{cbm_type_of, cpm_name_of, cpm_type_of, printed}
use Rattle.rd_volume.specs.Reports.{DiffersInSize, HasOtherSize, IsDirectoryEnd, IsFaultySlot, IsMapReport, IsReport, IsSoundSlot, label_of}
use Rattle.rd_volume.specs.Volumes.{AreFounds, HasNoFault as IsWithoutFault, IsFound, IsOfServedClass, IsSlotOfFile}
use Rattle.rd_volume.specs.declared.found.Found.{Found}
use Rattle.rd_volume.specs.declared.reports.Report.{Report}

-- an image holds bytes
abbrev pub HoldsBytes : List ℕ → Type 0
HoldsBytes image = All (λ byte. byte < 256) image

-- ---- the files of a CP/M disk

module _ (image : List ℕ) (k : ℕ) (file : IsCpmSlot (entry_of_slot image) k) where
  sound_cpm : IsSoundCpm (entry_of_slot image) k → (found : Found) × IsCpmFile image found × (found.slot ≡ k)
  sound_cpm sound =
      let sectors = cpm.sectors_of (entry_of_slot image) k sound in
      let faults = cpm.faults_of (entry_of_slot image) k in
      let found : Found = record {
        slot = k;
        name = cpm_name_of (without_high_bits (cpm_name (entry_of_slot image k)));
        ty = cpm_type_of (without_high_bits (cpm_name (entry_of_slot image k)));
        user = Some (user_byte_of (entry_of_slot image k));
        served_class = true;
        size = Some (length (bytes_of_sectors image sectors.0));
        faults = faults.0;
        units = sectors.0;
        last_len = last_sector_length sectors.0;
      } in (
        found,
        record {
          slot = file;
          name = refl;
          type = refl;
          user = refl;
          class = refl;
          faults = faults.1;
          sound = λ _. record { units = sectors.1; size = refl; last = refl };
          faulty = λ unsound. absurd (unsound sound);
        },
        refl,
      )

  faulty_cpm : (IsSoundCpm (entry_of_slot image) k → ⊥) → (found : Found) × IsCpmFile image found × (found.slot ≡ k)
  faulty_cpm unsound =
      let faults = cpm.faults_of (entry_of_slot image) k in
      let found : Found = record {
        slot = k;
        name = cpm_name_of (without_high_bits (cpm_name (entry_of_slot image k)));
        ty = cpm_type_of (without_high_bits (cpm_name (entry_of_slot image k)));
        user = Some (user_byte_of (entry_of_slot image k));
        served_class = true;
        size = None;
        faults = faults.0;
        units = [];
        last_len = 0;
      } in (
        found,
        record {
          slot = file;
          name = refl;
          type = refl;
          user = refl;
          class = refl;
          faults = faults.1;
          sound = λ sound. absurd (unsound sound);
          faulty = λ _. record { size = refl; units = refl; last = refl };
        },
        refl,
      )

  cpm_by : Decided (IsSoundCpm (entry_of_slot image) k) → (found : Found) × IsCpmFile image found × (found.slot ≡ k)
  cpm_by (holds sound) = sound_cpm sound
  cpm_by (fails unsound) = faulty_cpm unsound

  cpm_file : (found : Found) × IsCpmFile image found × (found.slot ≡ k)
  cpm_file = cpm_by (cpm.decided_sound (entry_of_slot image) k)

-- ---- the files of a 1541 disk

module _ (image blocks : List ℕ) (bytes : HoldsBytes image) (k : ℕ) (file : IsCbmSlot image blocks k) where
  sound_cbm : IsSoundCbm image blocks k → (found : Found) × IsCbmFile image found blocks × (found.slot ≡ k)
  sound_cbm sound =
      let entry : List ℕ = entry_at image blocks k in
      let chain = cbm.walk_of image entry Data in
      let last = cbm.last_of image blocks k sound in
      let faults = cbm.faults_of image blocks k in
      let found : Found = record {
        slot = k;
        name = printed D64 (cbm_name entry);
        ty = cbm_type_of (class_of (type_of entry));
        user = None;
        served_class = flag (cbm.decided_served image blocks k);
        size = Some (length (bytes_of_chain image chain.blocks last.0));
        faults = faults.0;
        units = chain.blocks;
        last_len = last.0 - 1;
      } in (
        found,
        record {
          slot = file;
          name = refl;
          type = refl;
          user = refl;
          class = flag_is (cbm.decided_served image blocks k);
          faults = faults.1;
          sound = λ _. record {
            chain = chain.chain;
            on_disk = cbm.chain_on_disk image entry Data chain.blocks chain.chain;
            used = last.0;
            ends = last.1;
            byte = cbm.last_byte image (start_of entry Data) last.0 bytes last.1;
            size = refl;
            last = refl;
          };
          faulty = λ unsound. absurd (unsound sound);
        },
        refl,
      )

  faulty_cbm : (IsSoundCbm image blocks k → ⊥) → (found : Found) × IsCbmFile image found blocks × (found.slot ≡ k)
  faulty_cbm unsound =
      let entry : List ℕ = entry_at image blocks k in
      let faults = cbm.faults_of image blocks k in
      let found : Found = record {
        slot = k;
        name = printed D64 (cbm_name entry);
        ty = cbm_type_of (class_of (type_of entry));
        user = None;
        served_class = flag (cbm.decided_served image blocks k);
        size = None;
        faults = faults.0;
        units = [];
        last_len = 0;
      } in (
        found,
        record {
          slot = file;
          name = refl;
          type = refl;
          user = refl;
          class = flag_is (cbm.decided_served image blocks k);
          faults = faults.1;
          sound = λ sound. absurd (unsound sound);
          faulty = λ _. record { size = refl; units = refl; last = refl };
        },
        refl,
      )

  cbm_by : Decided (IsSoundCbm image blocks k) → (found : Found) × IsCbmFile image found blocks × (found.slot ≡ k)
  cbm_by (holds sound) = sound_cbm sound
  cbm_by (fails unsound) = faulty_cbm unsound

  cbm_file : (found : Found) × IsCbmFile image found blocks × (found.slot ≡ k)
  cbm_file = cbm_by (cbm.decided_sound image blocks k)

-- ---- slots

-- the blocks of the directory, which the image has
blocks_of : List ℕ → List ℕ
blocks_of image = (cbm.directory_of image).blocks

are_blocks : (image : List ℕ) → AreDirectoryBlocks image (blocks_of image)
unfolding blocks_of
are_blocks image = (cbm.directory_of image).chain

decided_of : (image : List ℕ) (P : List ℕ → Type 0) → Decided (P (blocks_of image)) → Decided (OfDirectory image P)
decided_of image P test = decided_as test (holds_of_directory image (blocks_of image) (are_blocks image) P) (holds_of_blocks image (blocks_of image) (are_blocks image) P)

-- slot k is the slot of a file, or not
pub decided_slot : (kind : Kind) (image : List ℕ) (k : ℕ) → Decided (IsSlotOfFile kind image k)
decided_slot Cpm8 image k = cpm.decided_file (entry_of_slot image) k
decided_slot _ image k = decided_of image (λ blocks. IsCbmSlot image blocks k) (cbm.decided_file image (blocks_of image) k)

-- slots of files are below this
most_of : Kind → List ℕ → ℕ
most_of Cpm8 image = 64
most_of _ image = 8 * length (blocks_of image)

slot_below : (kind : Kind) (image : List ℕ) (k : ℕ) → IsSlotOfFile kind image k → k < most_of kind image
unfolding most_of
slot_below Cpm8 image k file = file.slot
slot_below _ image k file = (holds_of_blocks image (blocks_of image) (are_blocks image) (λ blocks. IsCbmSlot image blocks k) file).inside

-- ---- the survey

-- each slot of a file has its file
pub file_at : (kind : Kind) (image : List ℕ) → HoldsBytes image → (k : ℕ) → IsSlotOfFile kind image k → (found : Found) × IsFound kind image found × (found.slot ≡ k)
file_at Cpm8 image bytes k file = cpm_file image k file
file_at _ image bytes k file =
    let found = cbm_file image (blocks_of image) bytes k (holds_of_blocks image (blocks_of image) (are_blocks image) (λ blocks. IsCbmSlot image blocks k) file) in
    (found.0, holds_of_directory image (blocks_of image) (are_blocks image) (IsCbmFile image found.0) found.1, found.2)

-- each image has a survey
pub survey_of : (kind : Kind) (image : List ℕ) → HoldsBytes image → (founds : List Found) × AreFounds kind image founds
survey_of kind image bytes =
    let items = items_below (λ (found : Found). found.slot) (IsSlotOfFile kind image) (IsFound kind image) (decided_slot kind image) (file_at kind image bytes) (most_of kind image) in
    (items.0, record { each = items.1.each; ascending = items.1.ascending; complete = λ k file. items.1.complete k (slot_below kind image k file) file })

-- ---- the report

decided_class : (kind : Kind) (image : List ℕ) (k : ℕ) → Decided (IsOfServedClass kind image k)
decided_class Cpm8 image k = holds tt
decided_class _ image k = decided_of image (λ blocks. IsServed (type_of (entry_at image blocks k))) (cbm.decided_served image (blocks_of image) k)

decided_clean : (kind : Kind) (image : List ℕ) (k : ℕ) → Decided (IsWithoutFault kind image k)
decided_clean Cpm8 image k = cpm.decided_sound (entry_of_slot image) k
decided_clean _ image k = decided_of image (λ blocks. HasNoFault image blocks k) (cbm.decided_no_fault image (blocks_of image) k)

decided_sound_slot : (kind : Kind) (image : List ℕ) (k : ℕ) → Decided (IsSoundSlot kind image k)
decided_sound_slot kind image k =
    decided_as (decided_both (decided_slot kind image k) (decided_both (decided_class kind image k) (decided_clean kind image k)))
    (λ is. record { file = is.0; class = is.1.0; sound = is.1.1 })
    (λ is. (is.file, (is.class, is.sound)))

decided_faulty_slot : (kind : Kind) (image : List ℕ) (k : ℕ) → Decided (IsFaultySlot kind image k)
decided_faulty_slot kind image k =
    decided_as (decided_both (decided_slot kind image k) (decided_not (decided_clean kind image k)))
    (λ is. record { file = is.0; faulty = is.1 })
    (λ is. (is.file, is.faulty))

decided_other_size : (image blocks : List ℕ) (k : ℕ) → Decided (HasOtherSize image k blocks)
decided_other_size image blocks k =
    let entry : List ℕ = entry_at image blocks k in
    let claimed = cbm.claimed_count image blocks k in
    let has : Decided (IsCount (λ block. (way : ChainRole) × Claims image blocks k way block) (size_field_of entry)) =
    decided_as (decided_same claimed.0 (size_field_of entry))
    (λ same. subst (IsCount (λ block. (way : ChainRole) × Claims image blocks k way block)) same claimed.1)
    (λ is. count_once (λ block. (way : ChainRole) × Claims image blocks k way block) claimed.0 (size_field_of entry) claimed.1 is) in
    decided_as (decided_both (cbm.decided_file image blocks k) (decided_both (cbm.decided_claimant (type_of entry) Data) (decided_not has)))
    (λ is. record { file = is.0; claimant = is.1.0; differs = is.1.1 })
    (λ is. (is.file, (is.claimant, is.differs)))

decided_size : (kind : Kind) (image : List ℕ) (k : ℕ) → Decided (DiffersInSize kind image k)
decided_size Cpm8 image k = fails (λ is. is)
decided_size _ image k = decided_of image (HasOtherSize image k) (decided_other_size image (blocks_of image) k)

size_below : (kind : Kind) (image : List ℕ) (k : ℕ) → DiffersInSize kind image k → k < most_of kind image
unfolding most_of
size_below Cpm8 image k differs = absurd differs
size_below _ image k differs = (holds_of_blocks image (blocks_of image) (are_blocks image) (HasOtherSize image k) differs).file.inside

map_report : (kind : Kind) (image : List ℕ) → (map : MapReport) × IsMapReport kind image map
map_report Cpm8 image = (record { wrong_counts = 0; claimed_free = 0; unclaimed_used = 0 }, refl)
map_report _ image = cbm.counts_of image

directory_end : (kind : Kind) (image : List ℕ) → (ends : End) × IsDirectoryEnd kind image ends
directory_end Cpm8 image = (end.Last 0, refl)
directory_end _ image = let is = cbm.directory_of image in (is.ending, is.holds)

-- each image has a report
pub report_of : (kind : Kind) (image : List ℕ) → (report : Report) × IsReport kind image report
report_of kind image =
    let most : ℕ = most_of kind image in
    let files = cbm.counted (IsSlotOfFile kind image) (decided_slot kind image) most (slot_below kind image) in
    let served = cbm.counted (IsSoundSlot kind image) (decided_sound_slot kind image) most (λ k is. slot_below kind image k is.file) in
    let faulty = cbm.counted (IsFaultySlot kind image) (decided_faulty_slot kind image) most (λ k is. slot_below kind image k is.file) in
    let sizes = cbm.counted (DiffersInSize kind image) (decided_size kind image) most (size_below kind image) in
    let map = map_report kind image in
    let ends = directory_end kind image in (
      record {
        files = files.0;
        served = served.0;
        faulty = faulty.0;
        size_differs = sizes.0;
        map = map.0;
        directory = ends.0;
        label = label_of kind image;
      },
      record {
        files = files.1;
        served = served.1;
        faulty = faulty.1;
        size_differs = sizes.1;
        map = map.1;
        directory = ends.1;
        label = refl;
      },
    )
