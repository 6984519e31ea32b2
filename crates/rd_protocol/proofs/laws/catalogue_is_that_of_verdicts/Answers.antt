use Rattle.rd_protocol.proofs.VerdictLawLemmas.{catalogue_of_verdicts, one_accession, served_where_read}
use Rattle.rd_protocol.proofs.laws.catalogue_is_that_of_verdicts.Goals as goal

pub returns-clause-catalogue : goal.returns-clause-catalogue
returns-clause-catalogue c = catalogue_of_verdicts

pub returns-clause-accession : goal.returns-clause-accession
returns-clause-accession c = one_accession

pub returns-clause-served : goal.returns-clause-served
returns-clause-served c = served_where_read
