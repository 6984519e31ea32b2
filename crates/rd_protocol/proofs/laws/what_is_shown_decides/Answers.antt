use Rattle.rd_protocol.proofs.ReplyHiding.{alike_shows}
use Rattle.rd_protocol.proofs.ShownDesks.{shown_decides, shows_itself}
use Rattle.rd_protocol.proofs.laws.what_is_shown_decides.Goals as goal

pub returns-clause-decides : goal.returns-clause-decides
returns-clause-decides c = shown_decides

pub returns-clause-itself : goal.returns-clause-itself
returns-clause-itself c = shows_itself

pub returns-clause-alike : goal.returns-clause-alike
returns-clause-alike c = alike_shows
