use Rattle.clap.specs.Words.{found_of}
use Rattle.std.proofs.Common.{◌∙◌, codes, sym}
use Rattle.clap.proofs.WalkLemmas.{first_value-rows}
use Rattle.rd_commands.proofs.GetterLemmas.{text_is, text_there}
use Rattle.rd_commands.proofs.asked.staff_key_asked.Goals as goal

pub returns-in_err-store-clause-asked : goal.returns-in_err-store-clause-asked
returns-in_err-store-clause-asked c = λ store key rows. absurd (text_there (found_of c.args.found.now) (codes "store") store c.in_err-store.ensures rows.store_found)

pub returns-clause-asked : goal.returns-clause-asked
returns-clause-asked c = λ store key rows. record {
  store_is = text_is (found_of c.args.found.now) (codes "store") _ store c.in_ok-store.ensures rows.store_found;
  key_is = c.in_ok-key.ensures.asked key rows.key_found;
}

pub returns-clause-from : goal.returns-clause-from
returns-clause-from c = record {
  store = sym (c.in_ok-store.ensures ∙ first_value-rows (found_of c.args.found.now) (codes "store"));
  key = c.in_ok-key.ensures.from;
}
