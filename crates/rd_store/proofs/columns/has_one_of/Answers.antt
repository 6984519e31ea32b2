use Rattle.rd_store.proofs.Common.{sym}
use Rattle.rd_store.proofs.BinarySearch.{other_isnt}
use Rattle.rd_store.proofs.columns.has_one_of.Goals as goal

pub returns-in-None : goal.returns-in-None
returns-in-None c = sym (other_isnt c.args.numbers.now _ c.in-None.ensures)
