use Rattle.clap.specs.Words.{found_of}
use Rattle.std.proofs.Common.{◌∙◌, codes, sym}
use Rattle.clap.proofs.WalkLemmas.{first_value-rows}
use Rattle.rd_commands.proofs.GetterLemmas.{text_is, text_there}
use Rattle.rd_commands.proofs.asked.files_asked.Goals as goal

pub returns-in_err-get_str-clause-asked : goal.returns-in_err-get_str-clause-asked
returns-in_err-get_str-clause-asked c = λ kind image rows. absurd (text_there (found_of c.args.found.now) (codes "IMAGE") image c.in_err-get_str.ensures rows.image_found)

pub returns-clause-asked : goal.returns-clause-asked
returns-clause-asked c = λ kind image rows. record {
  kind_is = let same = c.in_ok-kind_asked.ensures.asked kind rows.kind_found in cc;
  image_is = text_is (found_of c.args.found.now) (codes "IMAGE") _ image c.in_ok-get_str.ensures rows.image_found;
}

pub returns-clause-from : goal.returns-clause-from
returns-clause-from c = record {
  kind = c.in_ok-kind_asked.ensures.from;
  image = sym (c.in_ok-get_str.ensures ∙ first_value-rows (found_of c.args.found.now) (codes "IMAGE"));
}
