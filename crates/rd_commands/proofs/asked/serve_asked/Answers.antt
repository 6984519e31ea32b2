use Rattle.clap.specs.Words.{found_of}
use Rattle.std.proofs.Common.{◌∙◌, codes, sym}
use Rattle.clap.proofs.WalkLemmas.{first_value-rows}
use Rattle.rd_commands.proofs.GetterLemmas.{text_is, text_there}
use Rattle.rd_commands.proofs.asked.serve_asked.Goals as goal

pub returns-in_err-get_str-clause-asked : goal.returns-in_err-get_str-clause-asked
returns-in_err-get_str-clause-asked c = λ store place count rule rows. absurd (text_there (found_of c.args.found.now) (codes "store") store c.in_err-get_str.ensures rows.store_found)

pub returns-in_err-place_asked-clause-asked : goal.returns-in_err-place_asked-clause-asked
returns-in_err-place_asked-clause-asked c = λ store place count rule rows. absurd (c.in_err-place_asked.ensures.asked place rows.place_named)

pub returns-in_err-count_asked-clause-asked : goal.returns-in_err-count_asked-clause-asked
returns-in_err-count_asked-clause-asked c = λ store place count rule rows.
    let none = c.in_err-count_asked.ensures.asked count rows.count_used in absurd (cc none)

pub returns-in_err-zone_asked-clause-asked : goal.returns-in_err-zone_asked-clause-asked
returns-in_err-zone_asked-clause-asked c = λ store place count rule rows. absurd (c.in_err-zone_asked.ensures.asked rule rows.rule_named)

pub returns-clause-asked : goal.returns-clause-asked
returns-clause-asked c = λ store place count rule rows. record {
  store_is = text_is (found_of c.args.found.now) (codes "store") _ store c.in_ok-get_str.ensures rows.store_found;
  place_is = c.in_ok-place_asked.ensures.asked place rows.place_named;
  count_is = let same = c.in_ok-count_asked.ensures.asked count rows.count_used in cc;
  zone_is = c.in_ok-zone_asked.ensures.asked rule rows.rule_named;
}

pub returns-clause-from : goal.returns-clause-from
returns-clause-from c = record {
  store = sym (c.in_ok-get_str.ensures ∙ first_value-rows (found_of c.args.found.now) (codes "store"));
  place = c.in_ok-place_asked.ensures.named;
  count = c.in_ok-count_asked.ensures.given;
  zone = c.in_ok-zone_asked.ensures.from;
}
