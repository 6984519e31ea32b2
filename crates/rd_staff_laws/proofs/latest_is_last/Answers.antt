use Rattle.rd_staff_laws.proofs.LatestChecks.{latest_is_last, none_is_latest}
use Rattle.rd_staff_laws.proofs.latest_is_last.Goals as goal

pub returns-clause-last : goal.returns-clause-last
returns-clause-last c = latest_is_last

pub returns-clause-none : goal.returns-clause-none
returns-clause-none c = none_is_latest
