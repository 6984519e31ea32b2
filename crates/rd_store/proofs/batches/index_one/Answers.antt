use Rattle.rd_store.proofs.Common.{◌∙◌, ap, map, rules, files_at, file_in}
use Rattle.rd_store.proofs.BatchQueries.{files_read}
use Rattle.rd_store.proofs.batches.index_one.Goals as goal

pub returns-clause-one : goal.returns-clause-one
returns-clause-one c = record {
  acc = search rules;
  kind = search rules;
  deed = search rules;
  files = λ es sorted are. c.of.ensures ∙ c.in_ok-files.ensures.files ∙ ap (map file_in) (c.rows_of.ensures es sorted are) ∙ files_read (files_at c.args.entry.now.0 es);
}
