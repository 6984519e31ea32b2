use Rattle.clap.specs.Words.{found_of}
use Rattle.std.proofs.Common.{codes, subst, sym}
use Rattle.clap.proofs.WalkLemmas.{one_text-rows}
use Rattle.rd_commands.specs.Zones.{IsFlagGiven}
use Rattle.rd_commands.proofs.GetterLemmas.{flag_is}
use Rattle.rd_commands.proofs.asked.trust_asked.Goals as goal

pub returns : goal.returns
returns c = λ trusted told.
    flag_is _ trusted c.get_flag.result c.get_flag.ensures.none c.get_flag.ensures.value c.get_flag.ensures.other
    (subst (λ o. IsFlagGiven o trusted) (sym (one_text-rows (found_of c.args.found.now) (codes "trust-clock"))) told)
