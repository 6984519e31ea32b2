use Rattle.clap.specs.Words.{found_of}
use Rattle.std.proofs.Common.{◌∙◌, Some, ap, codes, refl, sym}
use Rattle.clap.proofs.WalkLemmas.{first_value-rows}
use Rattle.rd_commands.proofs.GetterLemmas.{text_is, text_there}
use Rattle.rd_commands.proofs.asked.show_asked.Goals as goal

pub returns-in_err-get_str-clause-asked : goal.returns-in_err-get_str-clause-asked
returns-in_err-get_str-clause-asked c = λ store key moment rule rows.
    absurd (text_there (found_of c.args.found.now) (codes "store") store c.in_err-get_str.ensures rows.store_found)

pub returns-clause-asked : goal.returns-clause-asked
returns-clause-asked c = λ store key moment rule rows. record {
  store_is = text_is (found_of c.args.found.now) (codes "store") _ store c.in_ok-get_str.ensures rows.store_found;
  key_is = ap Some (c.in_ok-key_asked.ensures.asked key rows.key_found);
  question_is = refl;
  when_is = c.in_ok-when_asked.ensures.asked moment rule rows.moment_given rows.rule_given;
}

pub returns-clause-from : goal.returns-clause-from
returns-clause-from c = λ names. record {
  store = sym (c.in_ok-get_str.ensures ∙ first_value-rows (found_of c.args.found.now) (codes "store"));
  caller = c.in_ok-key_asked.ensures.from;
  question = names;
  when = c.in_ok-when_asked.ensures.from;
}
