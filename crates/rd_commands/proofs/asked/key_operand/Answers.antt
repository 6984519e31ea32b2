use Rattle.clap.specs.Words.{found_of}
use Rattle.std.proofs.Common.{◌∙◌, Some, ap, codes, option_map}
use Rattle.clap.proofs.WalkLemmas.{first_value-rows}
use Rattle.httparse.specs.Grammar.{trim_ows}
use Rattle.rd_commands.proofs.asked.key_operand.Goals as goal

pub returns-in-Some : goal.returns-in-Some
returns-in-Some c =
    ap Some (c.trimmed.ensures ∙ ap trim_ows c.as_bytes.ensures.value)
    ∙ ap (option_map trim_ows) (c.in-Some.ensures ∙ first_value-rows (found_of c.args.found.now) (codes "key"))

pub returns-in-None : goal.returns-in-None
returns-in-None c = ap (option_map trim_ows) (c.in-None.ensures ∙ first_value-rows (found_of c.args.found.now) (codes "key"))
