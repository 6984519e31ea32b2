use Rattle.std.proofs.Common.{◌≡◌, ◌≤◌, ◌==◌, arith, length, not, rules, subst, sym}
use Rattle.rd_geometry.specs.CbmDisks.{cbm_bytes, cbm_kind}
use Rattle.rd_cbm.specs.Counts.{IsCount}
use Rattle.rd_volume.specs.Reports.{DiffersInSize, IsFaultySlot, IsSoundSlot}
use Rattle.rd_volume.specs.Tallies.{differs_in_size, is_sound}
use Rattle.rd_volume.specs.Volumes.{IsSlotOfFile}
use Rattle.rd_volume.proofs.CbmReport.{all_files, directory_ends, faulty_files, few_files, map_counts, other_sizes, sound_files}
use Rattle.rd_volume.proofs.CountLemmas.{counted_as, small_count}
use Rattle.rd_volume.proofs.cbm.report.Goals as goal

pub overflow_cast-result : goal.overflow_cast-result
overflow_cast-result c =
    let directory = c.in_ok-directory.ensures in
    let few = few_files (cbm_bytes c.args.disk.now) _ c.in_ok-files.files.items directory.blocks directory.on_disk c.in_ok-files.ensures in
    let size : c.len.result ≡ length c.in_ok-files.files.items = search rules in
    omega arith

pub overflow_cast-result-2 : goal.overflow_cast-result-2
overflow_cast-result-2 c =
    let directory = c.in_ok-directory.ensures in
    let few = few_files (cbm_bytes c.args.disk.now) _ c.in_ok-files.files.items directory.blocks directory.on_disk c.in_ok-files.ensures in
    let small : c.count_sound.result ≤ 5464 = small_count is_sound _ _ _ 5464 c.as_slice.ensures.value c.count_sound.ensures few in
    omega arith

pub overflow_cast-result-3 : goal.overflow_cast-result-3
overflow_cast-result-3 c =
    let directory = c.in_ok-directory.ensures in
    let few = few_files (cbm_bytes c.args.disk.now) _ c.in_ok-files.files.items directory.blocks directory.on_disk c.in_ok-files.ensures in
    let small : c.count_faulty.result ≤ 5464 = small_count (λ file. not (file.faults == 0)) _ _ _ 5464 c.as_slice-2.ensures.value c.count_faulty.ensures few in
    omega arith

pub overflow_cast-result-4 : goal.overflow_cast-result-4
overflow_cast-result-4 c =
    let directory = c.in_ok-directory.ensures in
    let few = few_files (cbm_bytes c.args.disk.now) _ c.in_ok-files.files.items directory.blocks directory.on_disk c.in_ok-files.ensures in
    let small : c.count_differing.result ≤ 5464 = small_count differs_in_size _ _ _ 5464 c.as_slice-3.ensures.value c.count_differing.ensures few in
    omega arith

pub returns : goal.returns
returns c =
    let kind = cbm_kind c.args.disk.now in
    let cbm = c.args.disk.now.cbm in
    let image = cbm_bytes c.args.disk.now in
    let files = c.in_ok-files.files.items in
    let are = c.in_ok-files.ensures in
    let size : c.len.result ≡ length c.in_ok-files.files.items = search rules in
    record {
      files = subst (IsCount (IsSlotOfFile kind image)) (sym size) (all_files kind cbm image files are);
      served = counted_as (IsSoundSlot kind image) is_sound files _ _ c.as_slice.ensures.value c.count_sound.ensures (sound_files kind cbm image files are);
      faulty = counted_as (IsFaultySlot kind image) (λ file. not (file.faults == 0)) files _ _ c.as_slice-2.ensures.value c.count_faulty.ensures (faulty_files kind cbm image files are);
      size_differs = counted_as (DiffersInSize kind image) differs_in_size files _ _ c.as_slice-3.ensures.value c.count_differing.ensures (other_sizes kind cbm image files are);
      map = map_counts kind cbm image _ c.in_ok-map.ensures;
      directory = directory_ends kind cbm image _ c.in_ok-directory.ensures.end;
      label = c.in_ok-label.ensures;
    }
