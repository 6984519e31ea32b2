use Rattle.rd_cbm.proofs.MapLemmas.{free_block_as}
use Rattle.rd_cbm.proofs.map.is_free_block.Goals as goal

pub returns : goal.returns
returns c = free_block_as _ _ _ _ _ c.address-track.ensures c.is_marked_free.ensures
