use Rattle.rd_store.proofs.Common.{non_decreasing_from_is_sorted}
use Rattle.rd_store.proofs.Listings.{ascending_told}
use Rattle.rd_store.proofs.opening.ascend.Goals as goal

pub returns : goal.returns
returns c = ascending_told c.args.numbers.now c.is_sorted.result (non_decreasing_from_is_sorted c.args.numbers.now c.is_sorted.result c.is_sorted.ensures.cases)
