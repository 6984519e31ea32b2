use Rattle.clap.specs.Words.{found_of}
use Rattle.std.proofs.Common.{◌∙◌, codes, sym}
use Rattle.clap.proofs.WalkLemmas.{first_value-rows}
use Rattle.rd_commands.proofs.GetterLemmas.{text_is, text_there}
use Rattle.rd_commands.proofs.asked.extract_asked.Goals as goal

pub returns-in_err-files_asked-clause-asked : goal.returns-in_err-files_asked-clause-asked
returns-in_err-files_asked-clause-asked c = λ kind image folder rows. absurd (c.in_err-files_asked.ensures.asked kind image rows.image_rows)

pub returns-in_err-get_str-clause-asked : goal.returns-in_err-get_str-clause-asked
returns-in_err-get_str-clause-asked c = λ kind image folder rows. absurd (text_there (found_of c.args.found.now) (codes "to") folder c.in_err-get_str.ensures rows.folder_found)

pub returns-clause-asked : goal.returns-clause-asked
returns-clause-asked c = λ kind image folder rows. record {
  image_is = c.in_ok-files_asked.ensures.asked kind image rows.image_rows;
  folder_is = text_is (found_of c.args.found.now) (codes "to") _ folder c.in_ok-get_str.ensures rows.folder_found;
}

pub returns-clause-from : goal.returns-clause-from
returns-clause-from c = record {
  image = c.in_ok-files_asked.ensures.from;
  folder = sym (c.in_ok-get_str.ensures ∙ first_value-rows (found_of c.args.found.now) (codes "to"));
}
