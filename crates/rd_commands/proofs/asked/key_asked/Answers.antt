use Rattle.clap.specs.Words.{found_of}
use Rattle.std.proofs.Common.{◌∙◌, ap, codes, inl, inr, refl, sym}
use Rattle.clap.proofs.WalkLemmas.{first_value-rows}
use Rattle.httparse.specs.Grammar.{trim_ows}
use Rattle.rd_commands.proofs.GetterLemmas.{text_is, text_there}
use Rattle.rd_commands.proofs.Looks.{is_there}
use Rattle.rd_commands.proofs.asked.key_asked.Goals as goal

pub returns-in_err-get_str-clause-asked : goal.returns-in_err-get_str-clause-asked
returns-in_err-get_str-clause-asked c = λ key there. absurd (text_there (found_of c.args.found.now) (codes "key") key c.in_default.ensures there)

pub returns-in_default-clause-asked : goal.returns-in_default-clause-asked
returns-in_default-clause-asked c = λ key there. absurd (text_there (found_of c.args.found.now) (codes "key") key c.in_default.ensures there)

pub returns-in_default-clause-from : goal.returns-in_default-clause-from
returns-in_default-clause-from c =
    inr (
      sym (c.in_default.ensures ∙ first_value-rows (found_of c.args.found.now) (codes "key")),
      (is_there (found_of c.args.found.now) (codes "key-file") _ c.in_ok-get_str.ensures, refl),
    )

pub returns-clause-asked : goal.returns-clause-asked
returns-clause-asked c = λ key there.
    c.trimmed.ensures ∙ ap trim_ows (c.as_bytes.ensures.value ∙ text_is (found_of c.args.found.now) (codes "key") _ key c.in-Some.ensures there)

pub returns-clause-from : goal.returns-clause-from
returns-clause-from c =
    inl (_, sym (c.in-Some.ensures ∙ first_value-rows (found_of c.args.found.now) (codes "key")), c.trimmed.ensures ∙ ap trim_ows c.as_bytes.ensures.value)
