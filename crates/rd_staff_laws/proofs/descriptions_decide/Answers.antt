use Rattle.rd_staff_laws.proofs.Descriptions.{descriptions_decide, descriptions_suffice, needed_bytes_describe}
use Rattle.rd_staff_laws.proofs.descriptions_decide.Goals as goal

pub returns-clause-decide : goal.returns-clause-decide
returns-clause-decide c = descriptions_decide

pub returns-clause-needed : goal.returns-clause-needed
returns-clause-needed c = needed_bytes_describe

pub returns-clause-suffice : goal.returns-clause-suffice
returns-clause-suffice c = descriptions_suffice
