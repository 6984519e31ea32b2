use Rattle.std.proofs.Common.{◌∙◌}
use Rattle.rd_geometry.specs.CbmDisks.{cbm_bytes}
use Rattle.rd_volume.proofs.CbmReport.{has_map_block, is_map_block}
use Rattle.rd_volume.proofs.cbm.map_block.Goals as goal

pub unwrap-requires : goal.unwrap-requires
unwrap-requires c = has_map_block c.index.result c.index.ensures.index

pub returns-clause-value : goal.returns-clause-value
returns-clause-value c = c.unit.ensures.value ∙ is_map_block (cbm_bytes c.args.disk.now) c.index.result c.unwrap.result c.index.ensures.index c.unwrap.ensures
