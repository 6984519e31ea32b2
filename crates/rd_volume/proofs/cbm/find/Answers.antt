use Rattle.rd_geometry.specs.CbmDisks.{cbm_bytes, cbm_kind}
use Rattle.rd_volume.proofs.CbmLemmas.{answered, few_blocks, found_at, found_none}
use Rattle.rd_volume.proofs.cbm.find.Goals as goal

pub returns-in_default-clause-file : goal.returns-in_default-clause-file
returns-in_default-clause-file c = found_none (cbm_kind c.args.disk.now) c.args.disk.now.cbm (cbm_bytes c.args.disk.now) c.args.slot _ c.in_default.is c.in_ok-file.ensures

pub tell-requires : goal.tell-requires
tell-requires c =
    let at = c.in_ok-file.ensures in
    few_blocks (cbm_bytes c.args.disk.now) at.blocks c.in-Some.file (answered _ at.blocks _ c.in-Some.file c.in-Some.is at.described)

pub returns-clause-file : goal.returns-clause-file
returns-clause-file c =
    found_at (cbm_kind c.args.disk.now) c.args.disk.now.cbm (cbm_bytes c.args.disk.now) c.args.slot _ c.in-Some.file c.in_ok-tell.field-0
    c.args.disk.now.long c.in-Some.is c.in_ok-file.ensures c.in_ok-tell.ensures
