use Rattle.std.proofs.Common.{◌≡◌, ◌≤◌, ◌==◌, [], arith, length, not, refl, rules, subst, sym}
use Rattle.rd_geometry.specs.CpmDisks.{cpm_bytes}
use Rattle.rd_geometry.specs.declared.kind.Kind.TheVariants.{Cpm8}
use Rattle.rd_cbm.specs.Counts.{IsCount}
use Rattle.rd_volume.specs.Reports.{IsFaultySlot, IsSoundSlot}
use Rattle.rd_volume.specs.Volumes.{IsSlotOfFile}
use Rattle.rd_volume.proofs.CountLemmas.{counted_as, small_count}
use Rattle.rd_volume.proofs.CpmReport.{all_files, faulty_files, few_files, no_sizes, sound_files}
use Rattle.rd_volume.proofs.cpm.report.Goals as goal

pub overflow_cast-result : goal.overflow_cast-result
overflow_cast-result c =
    let few = few_files (cpm_bytes c.args.disk.now) c.in_ok-files.files.items c.in_ok-files.ensures in
    let size : c.len.result ≡ length c.in_ok-files.files.items = search rules in
    omega arith

pub overflow_cast-result-2 : goal.overflow_cast-result-2
overflow_cast-result-2 c =
    let few = few_files (cpm_bytes c.args.disk.now) c.in_ok-files.files.items c.in_ok-files.ensures in
    let small : c.count_sound.result ≤ 64 = small_count (λ file. file.faults == 0) _ _ _ 64 c.as_slice.ensures.value c.count_sound.ensures few in
    omega arith

pub overflow_cast-result-3 : goal.overflow_cast-result-3
overflow_cast-result-3 c =
    let few = few_files (cpm_bytes c.args.disk.now) c.in_ok-files.files.items c.in_ok-files.ensures in
    let small : c.count_faulty.result ≤ 64 = small_count (λ file. not (file.faults == 0)) _ _ _ 64 c.as_slice-2.ensures.value c.count_faulty.ensures few in
    omega arith

pub returns : goal.returns
returns c =
    let image = cpm_bytes c.args.disk.now in
    let files = c.in_ok-files.files.items in
    let are = c.in_ok-files.ensures in
    let size : c.len.result ≡ length c.in_ok-files.files.items = search rules in
    let label : c.of.result ≡ [] = search rules in
    record {
      files = subst (IsCount (IsSlotOfFile Cpm8 image)) (sym size) (all_files image files are);
      served = counted_as (IsSoundSlot Cpm8 image) (λ file. file.faults == 0) files _ _ c.as_slice.ensures.value c.count_sound.ensures (sound_files image files are);
      faulty = counted_as (IsFaultySlot Cpm8 image) (λ file. not (file.faults == 0)) files _ _ c.as_slice-2.ensures.value c.count_faulty.ensures (faulty_files image files are);
      size_differs = no_sizes image;
      map = refl;
      directory = refl;
      label = label;
    }
