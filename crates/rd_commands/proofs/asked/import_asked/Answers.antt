use Rattle.clap.specs.Words.{found_of}
use Rattle.std.proofs.Common.{◌∙◌, codes, sym}
use Rattle.clap.proofs.WalkLemmas.{first_value-rows}
use Rattle.rd_commands.proofs.GetterLemmas.{text_is, text_there}
use Rattle.rd_commands.proofs.asked.import_asked.Goals as goal

pub returns-in_err-get_str-clause-asked : goal.returns-in_err-get_str-clause-asked
returns-in_err-get_str-clause-asked c = λ store key sheet moment rule rows.
    absurd (text_there (found_of c.args.found.now) (codes "store") store c.in_err-get_str.ensures rows.store_found)

pub returns-in_err-get_str-2-clause-asked : goal.returns-in_err-get_str-2-clause-asked
returns-in_err-get_str-2-clause-asked c = λ store key sheet moment rule rows.
    absurd (text_there (found_of c.args.found.now) (codes "sheet") sheet c.in_err-get_str-2.ensures rows.sheet_found)

pub returns-clause-asked : goal.returns-clause-asked
returns-clause-asked c = λ store key sheet moment rule rows. record {
  store_is = text_is (found_of c.args.found.now) (codes "store") _ store c.in_ok-get_str.ensures rows.store_found;
  key_is = c.in_ok-key_asked.ensures.asked key rows.key_found;
  sheet_is = text_is (found_of c.args.found.now) (codes "sheet") _ sheet c.in_ok-get_str-2.ensures rows.sheet_found;
  when_is = c.in_ok-when_asked.ensures.asked moment rule rows.moment_named rows.rule_named;
}

pub returns-clause-from : goal.returns-clause-from
returns-clause-from c = record {
  store = sym (c.in_ok-get_str.ensures ∙ first_value-rows (found_of c.args.found.now) (codes "store"));
  key = c.in_ok-key_asked.ensures.from;
  sheet = sym (c.in_ok-get_str-2.ensures ∙ first_value-rows (found_of c.args.found.now) (codes "sheet"));
  when = c.in_ok-when_asked.ensures.from;
}
