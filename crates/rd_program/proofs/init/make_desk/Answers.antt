use Rattle.rd_program.proofs.Frames.{opened_back}
use Rattle.rd_program.proofs.init.make_desk.Goals as goal

pub returns-clause-frame : goal.returns-clause-frame
returns-clause-frame g c =
    opened_back (g.M.Machine.seen c.args.machine.now) (g.M.Machine.seen c.connect.new.self) (g.M.Machine.seen c.release.new.self) c.connect.ensures.frame c.release.ensures.frame
