use Rattle.rd_http.proofs.VisitHiding.{replied_until_shut}
use Rattle.rd_http.proofs.laws.visits_are_replied_until_shut.Goals as goal

pub returns : goal.returns
returns g c zone visits old new = replied_until_shut g.S.Store zone visits old new
