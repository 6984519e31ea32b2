use Rattle.std.proofs.Common.{subst, sym}
use Rattle.clap.specs.Words.{found_of}
use Rattle.clap.proofs.WalkLemmas.{one_text-rows}
use Rattle.rd_commands.specs.Zones.{IsFlagGiven}
use Rattle.rd_commands.proofs.GetterLemmas.{flag_is}
use Rattle.rd_commands.proofs.common_options.is_set.Goals as goal

pub returns : goal.returns
returns c = λ flag told.
    flag_is _ flag c.get_flag.result c.get_flag.ensures.none c.get_flag.ensures.value c.get_flag.ensures.other
    (subst (λ o. IsFlagGiven o flag) (sym (one_text-rows (found_of c.args.found.now) c.args.id.now)) told)
