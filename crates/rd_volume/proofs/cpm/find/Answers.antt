use Rattle.rd_geometry.specs.CpmDisks.{cpm_bytes}
use Rattle.rd_volume.proofs.CpmLemmas.{answered, few_sectors, found_at}
use Rattle.rd_volume.proofs.cpm.find.Goals as goal

pub tell-requires : goal.tell-requires
tell-requires c = few_sectors (cpm_bytes c.args.disk.now) c.in-Some.file (answered _ _ c.in-Some.file c.in-Some.is c.in_ok-file.ensures.file)

pub returns-clause-file : goal.returns-clause-file
returns-clause-file c =
    found_at (cpm_bytes c.args.disk.now) c.args.slot _ c.in-Some.file c.in_ok-tell.field-0 c.args.disk.now.sized c.in-Some.is c.in_ok-file.ensures.slot
    c.in_ok-file.ensures.file c.in_ok-tell.ensures
