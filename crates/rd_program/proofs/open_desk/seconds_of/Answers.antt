use Rattle.std.proofs.Common.{◌≡◌, IfOk, IfSome, Ok, subst, sym}
use Rattle.rd_program.specs.Leaves.{moment_of}
use Rattle.rd_program.proofs.open_desk.seconds_of.Goals as goal

pub returns-in-None-clause-asked : goal.returns-in-None-clause-asked
returns-in-None-clause-asked g c =
    subst (λ t. IfOk c.clock_seconds.result (λ seconds. IfSome (moment_of t (g.M.Machine.seen c.args.machine.now).clock) (λ moment. seconds ≡ moment))) (sym c.in-None.is)
    c.clock_seconds.ensures.shown

pub returns-in-None-clause-sure : goal.returns-in-None-clause-sure
returns-in-None-clause-sure g c =
    subst (λ t. IfSome (moment_of t (g.M.Machine.seen c.args.machine.now).clock) (λ moment. c.clock_seconds.result ≡ Ok moment)) (sym c.in-None.is) c.clock_seconds.ensures.sure
