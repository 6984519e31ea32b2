use Rattle.rd_geometry.specs.Blocks.{index_of}
use Rattle.rd_cbm.specs.Links.{link_of}
use Rattle.rd_cbm.proofs.Existence.{ends_once, long_walk_loops}
use Rattle.rd_cbm.proofs.BlockBounds.{links_inside, start_inside}
use Rattle.rd_cbm.proofs.walk.each_walk_ends_once.Goals as goal

pub returns-clause-once : goal.returns-clause-once
returns-clause-once c = λ image track sector. ends_once (link_of image) (index_of track sector) (links_inside image) (start_inside track sector)

pub returns-clause-long : goal.returns-clause-long
returns-clause-long c = λ image track sector n there. long_walk_loops (link_of image) (index_of track sector) (links_inside image) (start_inside track sector) n there
