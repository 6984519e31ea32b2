use Rattle.std.proofs.Common.{arith, sym}
use Rattle.rd_messages.proofs.RouteLemmas.{path_before, path_whole}
use Rattle.rd_messages.proofs.target.before_query.Goals as goal

pub returns-in-Some : goal.returns-in-Some
returns-in-Some c = let path = path_before c.args.target.now c.in-Some.end (sym c.in-Some.ensures) in grind arith

pub returns-in-None : goal.returns-in-None
returns-in-None c = sym (path_whole c.args.target.now (sym c.in-None.ensures))
