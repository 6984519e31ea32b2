use Rattle.clap.specs.Words.{found_of}
use Rattle.rd_commands.proofs.Looks.{there_is}
use Rattle.rd_commands.proofs.common_options.is_there.Goals as goal

pub returns : goal.returns
returns c = there_is (found_of c.args.found.now) c.args.id.now c.get_str.result c.is_some.result c.get_str.ensures c.is_some.ensures
