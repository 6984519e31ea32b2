use Rattle.rd_http.proofs.VisitHiding.{reach_none}
use Rattle.rd_http.proofs.laws.hidden_bytes_reach_no_visitor.Goals as goal

pub returns : goal.returns
returns c = reach_none
