use Rattle.rd_messages.specs.Examples.{each_row_inserts}
use Rattle.rd_messages.proofs.table.router.Goals as goal

pub router_of-requires : goal.router_of-requires
router_of-requires c = rw c.table.ensures each_row_inserts
