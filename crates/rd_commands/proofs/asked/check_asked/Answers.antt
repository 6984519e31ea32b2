use Rattle.clap.specs.Words.{found_of}
use Rattle.std.proofs.Common.{◌∙◌, ◌≡◌, Some, ap, codes, sym}
use Rattle.rd_commands.specs.declared.words.Question.TheVariants.{Check}
use Rattle.clap.proofs.WalkLemmas.{first_value-rows}
use Rattle.rd_commands.proofs.GetterLemmas.{text_is, text_there}
use Rattle.rd_commands.proofs.asked.check_asked.Goals as goal

pub returns-in_err-get_str-clause-asked : goal.returns-in_err-get_str-clause-asked
returns-in_err-get_str-clause-asked c = λ store key acc moment rule rows.
    absurd (text_there (found_of c.args.found.now) (codes "store") store c.in_err-get_str.ensures rows.store_found)

pub returns-clause-asked : goal.returns-clause-asked
returns-clause-asked c = λ store key acc moment rule rows.
    let same = c.in_ok-accession_asked.ensures.number rows.acc_text acc rows.acc_found rows.acc_number rows.acc_within in
    let number : c.in_ok-accession_asked.field-0 ≡ acc = cc in
    record {
      store_is = text_is (found_of c.args.found.now) (codes "store") _ store c.in_ok-get_str.ensures rows.store_found;
      key_is = ap Some (c.in_ok-key_asked.ensures.asked key rows.key_found);
      question_is = ap Check number;
      when_is = c.in_ok-when_asked.ensures.asked moment rule rows.moment_named rows.rule_named;
    }

pub returns-clause-from : goal.returns-clause-from
returns-clause-from c = record {
  store = sym (c.in_ok-get_str.ensures ∙ first_value-rows (found_of c.args.found.now) (codes "store"));
  caller = c.in_ok-key_asked.ensures.from;
  question = c.in_ok-accession_asked.ensures.from;
  when = c.in_ok-when_asked.ensures.from;
}
