use Rattle.rd_policy.proofs.DateLemmas.{one_text, one_day}
use Rattle.rd_policy.proofs.date.one_date.Goals as goal

pub returns-clause-text : goal.returns-clause-text
returns-clause-text c = one_text

pub returns-clause-day : goal.returns-clause-day
returns-clause-day c = one_day
