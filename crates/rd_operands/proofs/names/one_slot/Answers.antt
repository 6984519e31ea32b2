use Rattle.rd_operands.proofs.NameLemmas.{one_slot_lem}
use Rattle.rd_operands.proofs.names.one_slot.Goals as goal

pub returns : goal.returns
returns c = one_slot_lem
