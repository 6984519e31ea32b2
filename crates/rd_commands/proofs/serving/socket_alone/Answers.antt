use Rattle.std.proofs.Common.{◌∙◌, codes, refl, sym}
use Rattle.clap.specs.Words.{found_of}
use Rattle.clap.proofs.WalkLemmas.{first_value-rows}
use Rattle.rd_commands.proofs.Options.{there_and_absent}
use Rattle.rd_commands.proofs.serving.socket_alone.Goals as goal

pub returns-in-Some-clause-alone : goal.returns-in-Some-clause-alone
returns-in-Some-clause-alone c = λ none.
    absurd (there_and_absent _ _ (c.in-Some.ensures ∙ first_value-rows (found_of c.args.found.now) (codes "port")) none)

pub returns-in-None-clause-named : goal.returns-in-None-clause-named
returns-in-None-clause-named c = (refl, sym (c.in-None.ensures ∙ first_value-rows (found_of c.args.found.now) (codes "port")))
