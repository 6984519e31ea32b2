use Rattle.std.proofs.Common.{◌≡◌, ◌∙◌, ◌↔◌, ◌≤◌, ℕ, List, IsTrue, nat_le, slice_index, ap, sym, subst, arith}
use Rattle.std.proofs.lemmas.Bool.Decides.{nat_tests}
use Rattle.rd_geometry.specs.CpmDisks.{cpm_bytes}
use Rattle.rd_cpm.specs.Entries.{entry_of_slot, user_byte_of, name_of, without_high_bits}
use Rattle.rd_cpm.specs.Gathered.{AreGathered}
use Rattle.rd_cpm.specs.Faults.{AreFaults}
use Rattle.rd_cpm.proofs.FaultLemmas.{faults_as, judged_sectors, AreFileSectors}
use Rattle.rd_cpm.proofs.walk.file_at.Goals as goal

-- the high bit of a byte of the name
marked : (name own : List ℕ) (i : ℕ) → name ≡ own → IsTrue (nat_le 128 (slice_index name i)) ↔ (128 ≤ slice_index own i)
marked name own i same = subst (λ l. IsTrue (nat_le 128 (slice_index name i)) ↔ (128 ≤ slice_index l i)) same (grind (arith, nat_tests), grind (arith, nat_tests))

pub returns-clause-file : goal.returns-clause-file
returns-clause-file c =
    let image : List ℕ = cpm_bytes c.args.disk.now in
    let own = c.entry-own.ensures in
    let name = c.name-name.ensures ∙ ap name_of own in
    let gathered : AreGathered (entry_of_slot image) c.args.slot c.as_slice.result.now =
    subst (AreGathered (entry_of_slot image) c.args.slot) (sym c.as_slice.ensures.value) c.in_ok-entries.ensures in
    let judged = c.in_ok-faults.ensures in
    let faults : AreFaults (entry_of_slot image) c.args.slot c.in_ok-faults.faults = faults_as _ _ _ _ _ _ gathered c.requires.claims judged.bits in
    let sectors : AreFileSectors (entry_of_slot image) c.args.slot c.in_ok-faults.sectors.items = judged_sectors _ _ _ _ _ _ gathered faults judged in
    let kept : AreFileSectors (entry_of_slot image) c.args.slot c.of.result = subst (AreFileSectors (entry_of_slot image) c.args.slot) (sym c.of.ensures) sectors in
    record {
      slot = c.requires.file;
      user = c.first.ensures ∙ ap user_byte_of own;
      name = c.plain_name.ensures ∙ ap (λ e. without_high_bits (name_of e)) own;
      read_only = marked _ _ 8 name;
      system = marked _ _ 9 name;
      faults = faults;
      sectors = kept.sound;
      none_where_faulty = kept.faulty;
      on_disk = kept.on_disk;
    }
