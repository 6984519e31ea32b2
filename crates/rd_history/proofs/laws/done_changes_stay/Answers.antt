use Rattle.rd_history.proofs.Carried.{done_changes_stay}
use Rattle.rd_history.proofs.laws.done_changes_stay.Goals as goal

pub returns : goal.returns
returns g c = done_changes_stay g.S.Store g.H.Store
