use Rattle.clap.specs.Words.{found_of}
use Rattle.std.proofs.Common.{◌∙◌, codes, sym}
use Rattle.clap.proofs.WalkLemmas.{first_value-rows}
use Rattle.rd_commands.proofs.GetterLemmas.{text_is, text_there}
use Rattle.rd_commands.proofs.asked.copy_asked.Goals as goal

pub returns-in_err-from-clause-asked : goal.returns-in_err-from-clause-asked
returns-in_err-from-clause-asked c = λ store target summed rows. absurd (text_there (found_of c.args.found.now) (codes "store") store c.in_err-from.ensures rows.store_found)

pub returns-in_err-target-clause-asked : goal.returns-in_err-target-clause-asked
returns-in_err-target-clause-asked c = λ store target summed rows. absurd (text_there (found_of c.args.found.now) (codes "to") target c.in_err-target.ensures rows.target_found)

pub returns-clause-asked : goal.returns-clause-asked
returns-clause-asked c = λ store target summed rows. record {
  store_is = text_is (found_of c.args.found.now) (codes "store") _ store c.in_ok-from.ensures rows.store_found;
  target_is = text_is (found_of c.args.found.now) (codes "to") _ target c.in_ok-target.ensures rows.target_found;
  sums_are = c.sums_asked-has_sums.ensures summed rows.sums_given;
}

pub returns-clause-from : goal.returns-clause-from
returns-clause-from c = record {
  store = sym (c.in_ok-from.ensures ∙ first_value-rows (found_of c.args.found.now) (codes "store"));
  target = sym (c.in_ok-target.ensures ∙ first_value-rows (found_of c.args.found.now) (codes "to"));
  sums = c.sums_asked-has_sums.ensures;
}
