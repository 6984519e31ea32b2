use Rattle.rd_store.proofs.Common.{refl}
use Rattle.rd_store.proofs.validation.first_sample.Goals as goal

pub returns-in-Ok-make_first_tables-clause-schema : goal.returns-in-Ok-make_first_tables-clause-schema
returns-in-Ok-make_first_tables-clause-schema c = (c.in-Ok-make_first_tables.ensures.turns.ok refl).holds.schema
