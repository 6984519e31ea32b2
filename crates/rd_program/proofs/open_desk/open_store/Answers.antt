use Rattle.std.proofs.Common.{◌∙◌, subst, sym}
use Rattle.std.specs.Prelude.{IsSome}
use Rattle.rd_program.specs.Leaves.{LeavesNone}
use Rattle.rd_program.specs.World.{OpensStore}
use Rattle.rd_program.proofs.Frames.{opened_back}
use Rattle.rd_program.proofs.LeftStores.{unconnected_left, unconnected_opening}
use Rattle.rd_program.proofs.open_desk.open_store.Goals as goal

-- ---- without a connection

pub returns-in-Err-clause-refused : goal.returns-in-Err-clause-refused
returns-in-Err-clause-refused g c = unconnected_opening c.not_connected.result c.not_connected.ensures.one_of

pub returns-in-Err-clause-left : goal.returns-in-Err-clause-left
returns-in-Err-clause-left g c =
    unconnected_left g.M.Disk.Store (g.M.Machine.seen c.args.machine.now).left ((g.M.Machine.seen c.args.machine.now).stands c.args.store.now) (g.M.Machine.seen c.not_connected.new.machine).left
    c.not_connected.result c.not_connected.ensures.one_of (λ missing. sym c.in-Err.ensures.still_stands ∙ c.not_connected.ensures.absent missing)
    (subst (λ machine. LeavesNone (g.M.Machine.seen c.args.machine.now).left (g.M.Machine.seen machine).left) (sym c.not_connected.ensures.same) c.in-Err.ensures.none)

pub returns-in-Err-clause-back : goal.returns-in-Err-clause-back
returns-in-Err-clause-back g c = λ shows had.
    subst (λ machine. IsSome (g.M.Machine.seen machine).left) (sym c.not_connected.ensures.same) (subst (λ left. IsSome left) (sym (c.in-Err.ensures.kept shows)) had)

-- ---- what stays

pub returns-in-Err-clause-frame : goal.returns-in-Err-clause-frame
returns-in-Err-clause-frame g c =
    subst (λ machine. OpensStore (g.M.Machine.seen c.args.machine.now) (g.M.Machine.seen machine)) (sym c.not_connected.ensures.same) c.connect.ensures.frame

pub returns-in-Err-migrate-clause-frame : goal.returns-in-Err-migrate-clause-frame
returns-in-Err-migrate-clause-frame g c = opened_back (g.M.Machine.seen c.args.machine.now) (g.M.Machine.seen c.connect.new.self) (g.M.Machine.seen c.release.new.self) c.connect.ensures.frame c.release.ensures.frame
