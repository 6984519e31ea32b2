use Rattle.std.proofs.Common.{◌∙◌}
use Rattle.clap.specs.Words.{found_of}
use Rattle.clap.proofs.WalkLemmas.{first_value-rows}
use Rattle.rd_commands.proofs.common_options.text_if.Goals as goal

pub returns-then-takes-clause-given : goal.returns-then-takes-clause-given
returns-then-takes-clause-given c = λ takes. c.get_str.ensures ∙ first_value-rows (found_of c.args.found.now) c.args.id.now
