use Rattle.clap.specs.Words.{found_of}
use Rattle.std.proofs.Common.{◌∙◌, IfSome, codes, subst}
use Rattle.clap.proofs.WalkLemmas.{one_text-rows}
use Rattle.rd_commands.specs.Serving.{IsNumberGiven}
use Rattle.rd_commands.proofs.GetterLemmas.{number_is}
use Rattle.rd_commands.proofs.Places.{number_given}
use Rattle.rd_commands.proofs.serving.port_asked.Goals as goal

pub returns-clause-asked : goal.returns-clause-asked
returns-clause-asked c = λ text number there parses.
    number_is 16 text number c.get_one.result (c.get_one.ensures.value text (one_text-rows (found_of c.args.found.now) (codes "port") ∙ there)) parses

pub returns-clause-given : goal.returns-clause-given
returns-clause-given c =
    subst (λ told. IfSome c.get_one.result (IsNumberGiven told)) (one_text-rows (found_of c.args.found.now) (codes "port"))
    (number_given _ c.get_one.result c.get_one.ensures.none c.get_one.ensures.value)
