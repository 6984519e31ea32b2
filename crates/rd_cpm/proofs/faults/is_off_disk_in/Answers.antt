use Rattle.std.proofs.Common.{◌↔◌, ◌<◌, IsTrue, Any, subst}
use Rattle.rd_cpm.specs.Gathered.{IsOffDiskIn}
use Rattle.rd_cpm.proofs.faults.is_off_disk_in.Goals as goal

pub returns : goal.returns
unfolding IsOffDiskIn
returns c = subst (λ blocks. IsTrue c.has_block_off_disk.result ↔ Any (λ block. 242 < block) blocks) c.pointers.ensures c.has_block_off_disk.ensures
