use Rattle.std.proofs.Common.{ap, IsTrue, subst, sym}
use Rattle.sha2.specs.Sha256.{sha256}
use Rattle.rd_program.proofs.LeftStores.{gives_back, has_both, on_ended_always, opening_fails}
use Rattle.rd_program.proofs.Named.{asked_then}
use Rattle.rd_program.proofs.ShowLemmas.{passed_on}
use Rattle.rd_program.proofs.StaffKeyLemmas.{ends_putting, store_opens, store_refused, unopened_unput, unput_left}
use Rattle.rd_program.specs.World.{World}
use Rattle.rd_program.proofs.Frames.{opened_back}
use Rattle.rd_program.proofs.staff_key.put_in_store.Goals as goal

pub returns-clause-put : goal.returns-clause-put
returns-clause-put g c =
    ends_putting g.M.Disk.Store (sha256 c.args.ask.key.now) ((g.M.Machine.seen c.args.machine.now).stands c.args.ask.store.now) (g.M.Machine.seen c.release.new.self).left
    c.in_ok-store.store c.put_staff-put.new.store c.into_connection.result c.put_staff-put.result c.put_staff-put.ensures.changes
    c.in_ok-store.ensures.opened c.into_connection.ensures.same c.release.ensures.left

pub returns-clause-left : goal.returns-clause-left
returns-clause-left g c =
    unput_left g.M.Disk.Store (sha256 c.args.ask.key.now) ((g.M.Machine.seen c.args.machine.now).stands c.args.ask.store.now) (g.M.Machine.seen c.release.new.self).left
    c.in_ok-store.store c.put_staff-put.new.store c.into_connection.result c.put_staff-put.result (g.M.Machine.seen c.args.machine.now).left c.put_staff-put.ensures.changes c.put_staff-put.ensures.refused
    c.in_ok-store.ensures.opened c.into_connection.ensures.same c.release.ensures.left

pub returns-clause-opens : goal.returns-clause-opens
returns-clause-opens g c =
    store_opens c.put_staff-put.result g.M.Disk.Store ((g.M.Machine.seen c.args.machine.now).stands c.args.ask.store.now) (g.M.Machine.seen c.release.new.self).left c.put_staff-put.ensures.refused

pub returns-clause-refused : goal.returns-clause-refused
returns-clause-refused g c = store_refused c.put_staff-put.result c.put_staff-put.ensures.refused

pub returns-clause-back : goal.returns-clause-back
returns-clause-back g c =
    gives_back (g.M.Machine.seen c.args.machine.now).shows (g.M.Machine.seen c.args.machine.now).left (g.M.Machine.seen c.release.new.self).left _
    (λ shows. c.release.ensures.back (subst (λ b. IsTrue b) (sym (ap (λ (w : World _ _). w.shows) c.open_store.ensures.frame)) shows))

pub returns-clause-there : goal.returns-clause-there
returns-clause-there g c =
    on_ended_always c.put_staff-put.result _ (has_both (g.M.Machine.seen c.args.machine.now).shows ((g.M.Machine.seen c.args.machine.now).stands c.args.ask.store.now) (g.M.Machine.seen c.release.new.self).left _
    c.in_ok-store.ensures.there (λ shows. c.release.ensures.back (subst (λ b. IsTrue b) (sym (ap (λ (w : World _ _). w.shows) c.open_store.ensures.frame)) shows)))

pub returns-clause-asked : goal.returns-clause-asked
returns-clause-asked g c =
    asked_then (g.M.Machine.seen c.args.machine.now).wanted (g.M.Machine.seen c.open_store.new.machine).wanted (g.M.Machine.seen c.release.new.self).wanted c.args.ask.store.now c.open_store.ensures.asked
    (ap (λ (w : World _ _). w.wanted) c.release.ensures.frame)

pub returns-in_err-store-clause-left : goal.returns-in_err-store-clause-left
returns-in_err-store-clause-left g c =
    passed_on c.from_residual.result c.in_err-store.field-0.0 _ c.from_residual.ensures.1
    (unopened_unput g.M.Disk.Store (sha256 c.args.ask.key.now) (g.M.Machine.seen c.args.machine.now).left ((g.M.Machine.seen c.args.machine.now).stands c.args.ask.store.now)
    (g.M.Machine.seen c.open_store.new.machine).left c.in_err-store.field-0.0 c.in_err-store.ensures.refused c.in_err-store.ensures.left)

pub returns-in_err-store-clause-there : goal.returns-in_err-store-clause-there
returns-in_err-store-clause-there g c = opening_fails c.from_residual.result c.in_err-store.field-0.0 _ c.from_residual.ensures.1 c.in_err-store.ensures.refused

pub returns-clause-frame : goal.returns-clause-frame
returns-clause-frame g c =
    opened_back (g.M.Machine.seen c.args.machine.now) (g.M.Machine.seen c.open_store.new.machine) (g.M.Machine.seen c.release.new.self) c.open_store.ensures.frame c.release.ensures.frame
