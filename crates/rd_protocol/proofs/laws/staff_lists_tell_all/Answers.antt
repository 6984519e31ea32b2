use Rattle.rd_protocol.proofs.StaffListLemmas.{lists_tell_all}
use Rattle.rd_protocol.proofs.laws.staff_lists_tell_all.Goals as goal

pub returns : goal.returns
returns c = lists_tell_all
