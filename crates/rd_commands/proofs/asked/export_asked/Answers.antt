use Rattle.clap.specs.Words.{found_of, rows_of}
use Rattle.std.proofs.Common.{◌∙◌, ap, codes, option_map, refl, sym}
use Rattle.httparse.specs.Grammar.{trim_ows}
use Rattle.clap.proofs.WalkLemmas.{first_value-rows}
use Rattle.rd_commands.proofs.GetterLemmas.{text_is, text_there}
use Rattle.rd_commands.proofs.Looks.{caller_spare}
use Rattle.rd_commands.proofs.asked.export_asked.Goals as goal

pub returns-in_err-get_str-clause-asked : goal.returns-in_err-get_str-clause-asked
returns-in_err-get_str-clause-asked c = λ store key moment rule rows.
    absurd (text_there (found_of c.args.found.now) (codes "store") store c.in_err-get_str.ensures rows.store_found)

pub returns-clause-asked : goal.returns-clause-asked
returns-clause-asked c = λ store key moment rule rows. record {
  store_is = text_is (found_of c.args.found.now) (codes "store") _ store c.in_ok-get_str.ensures rows.store_found;
  key_is = c.key_operand.ensures ∙ ap (option_map trim_ows) rows.key_named;
  question_is = refl;
  when_is = c.in_ok-when_asked.ensures.asked moment rule rows.moment_named rows.rule_named;
}

pub returns-clause-from : goal.returns-clause-from
returns-clause-from c = record {
  store = sym (c.in_ok-get_str.ensures ∙ first_value-rows (found_of c.args.found.now) (codes "store"));
  caller = caller_spare (rows_of (found_of c.args.found.now)) _ c.key_operand.ensures;
  question = tt;
  when = c.in_ok-when_asked.ensures.from;
}
