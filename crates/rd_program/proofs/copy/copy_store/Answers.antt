use Rattle.std.proofs.Common.{◌∙◌, IsTrue, ap, false, refl, subst, sym}
use Rattle.rd_program.specs.Copying.{OpensDesk}
use Rattle.rd_program.specs.World.Wanted.{NewAt, StoreAt}
use Rattle.rd_program.specs.Leaves.{IsSame}
use Rattle.rd_program.specs.Showing.{EndsWith}
use Rattle.rd_program.proofs.CopyLemmas.{back_between, back_same, copied_from, init_opens_all, init_refused, kept_left, not_copied_from, opened_left, unopened_new}
use Rattle.rd_program.proofs.LeftStores.{gives_back, has_both, on_ended_always, opening_fails, unopened_left}
use Rattle.rd_program.proofs.Named.{asked_more, asked_none, asked_one}
use Rattle.rd_program.proofs.ShowLemmas.{passed_on}
use Rattle.rd_program.specs.World.{World}
use Rattle.rd_program.proofs.Frames.{copied_back, opened_new}
use Rattle.rd_program.proofs.copy.copy_store.Goals as goal

pub returns-clause-leaves : goal.returns-clause-leaves
returns-clause-leaves g c =
    kept_left g.M.Disk.Store ((g.M.Machine.seen c.args.machine.now).stands c.args.ask.store.now) (g.M.Machine.seen c.release.new.self).left
    c.in_ok-store.store c.copy_to-copied.new.from c.into_connection.result c.copy_to-copied.ensures.leaves (g.M.Machine.seen c.args.machine.now).left
    c.in_ok-store.ensures.opened c.into_connection.ensures.same c.release.ensures.left

pub returns-clause-back : goal.returns-clause-back
returns-clause-back g c =
    gives_back (g.M.Machine.seen c.args.machine.now).shows (g.M.Machine.seen c.args.machine.now).left (g.M.Machine.seen c.release.new.self).left _
    (λ shows. c.release.ensures.back (subst (λ b. IsTrue b) (sym ((ap (λ (w : World _ _). w.shows) c.copy_to-copied.ensures.frame) ∙ (ap (λ (w : World _ _). w.shows) c.open_store.ensures.frame))) shows))

pub returns-clause-there : goal.returns-clause-there
returns-clause-there g c =
    on_ended_always c.copy_to-copied.result _ (has_both (g.M.Machine.seen c.args.machine.now).shows ((g.M.Machine.seen c.args.machine.now).stands c.args.ask.store.now) (g.M.Machine.seen c.release.new.self).left _
    c.in_ok-store.ensures.there (λ shows. c.release.ensures.back (subst (λ b. IsTrue b) (sym ((ap (λ (w : World _ _). w.shows) c.copy_to-copied.ensures.frame) ∙ (ap (λ (w : World _ _). w.shows) c.open_store.ensures.frame))) shows)))

pub returns-clause-asked : goal.returns-clause-asked
returns-clause-asked g c =
    let mid = (g.M.Machine.seen c.open_store.new.machine).wanted in
    let last = (g.M.Machine.seen c.copy_to-copied.new.machine).wanted in
    asked_more (g.M.Machine.seen c.args.machine.now).wanted mid last (g.M.Machine.seen c.release.new.self).wanted (StoreAt c.args.ask.store.now false false) (NewAt c.args.ask.target.now c.args.ask.has_sums)
    (EndsWith ((g.M.Machine.seen c.args.machine.now).stands c.args.ask.store.now) (g.M.Machine.seen c.release.new.self).left (OpensDesk g.M.Disk.Store)) c.open_store.ensures.asked
    (asked_one mid mid last _ _ refl c.copy_to-copied.ensures.asked
    (opened_left g.M.Disk.Store ((g.M.Machine.seen c.args.machine.now).stands c.args.ask.store.now) (g.M.Machine.seen c.release.new.self).left
    c.in_ok-store.store c.copy_to-copied.new.from c.into_connection.result c.copy_to-copied.ensures.leaves
    c.in_ok-store.ensures.opened c.into_connection.ensures.same c.release.ensures.left)) (ap (λ (w : World _ _). w.wanted) c.release.ensures.frame)

pub returns-in_err-store-clause-asked : goal.returns-in_err-store-clause-asked
returns-in_err-store-clause-asked g c =
    let mid = (g.M.Machine.seen c.open_store.new.machine).wanted in
    asked_more (g.M.Machine.seen c.args.machine.now).wanted mid mid mid (StoreAt c.args.ask.store.now false false) (NewAt c.args.ask.target.now c.args.ask.has_sums) _ c.open_store.ensures.asked
    (asked_none mid mid _ _ refl) refl

pub returns-in_err-store-clause-leaves : goal.returns-in_err-store-clause-leaves
returns-in_err-store-clause-leaves g c =
    unopened_left g.M.Disk.Store (g.M.Machine.seen c.args.machine.now).left ((g.M.Machine.seen c.args.machine.now).stands c.args.ask.store.now) (g.M.Machine.seen c.open_store.new.machine).left
    IsSame c.in_err-store.field-0.0 c.in_err-store.ensures.refused c.in_err-store.ensures.left

pub returns-in_err-store-clause-there : goal.returns-in_err-store-clause-there
returns-in_err-store-clause-there g c = opening_fails c.from_residual.result c.in_err-store.field-0.0 _ c.from_residual.ensures.1 c.in_err-store.ensures.refused

pub returns-in_err-store-clause-not_copied : goal.returns-in_err-store-clause-not_copied
returns-in_err-store-clause-not_copied g c =
    passed_on c.from_residual.result c.in_err-store.field-0.0 _ c.from_residual.ensures.1
    (unopened_new g.M.Disk.Store ((g.M.Machine.seen c.args.machine.now).stands c.args.ask.store.now) (g.M.Machine.seen c.open_store.new.machine).left (g.M.Machine.seen c.args.machine.now).made
    ((g.M.Machine.seen c.args.machine.now).fresh c.args.ask.target.now) (g.M.Machine.seen c.open_store.new.machine).made c.in_err-store.field-0.0 c.in_err-store.ensures.refused (ap (λ (w : World _ _). w.made) c.open_store.ensures.frame))

pub returns-clause-copied : goal.returns-clause-copied
returns-clause-copied g c =
    copied_from g.M.Disk.Store ((g.M.Machine.seen c.args.machine.now).stands c.args.ask.store.now) (g.M.Machine.seen c.release.new.self).left c.in_ok-store.store c.copy_to-copied.new.from c.into_connection.result c.copy_to-copied.ensures.leaves
    ((g.M.Machine.seen c.args.machine.now).fresh c.args.ask.target.now) ((g.M.Machine.seen c.open_store.new.machine).fresh c.args.ask.target.now) (g.M.Machine.seen c.release.new.self).made (g.M.Machine.seen c.copy_to-copied.new.machine).made
    (ap (λ (w : World _ _). w.fresh c.args.ask.target.now) c.open_store.ensures.frame) (ap (λ (w : World _ _). w.made) c.release.ensures.frame) c.in_ok-store.ensures.opened c.into_connection.ensures.same c.release.ensures.left
    c.copy_to-copied.result (g.M.Machine.seen c.args.machine.now).shows (g.M.Machine.seen c.open_store.new.machine).shows (ap (λ (w : World _ _). w.shows) c.open_store.ensures.frame) c.copy_to-copied.ensures.copied

pub returns-clause-not_copied : goal.returns-clause-not_copied
returns-clause-not_copied g c =
    not_copied_from g.M.Disk.Store ((g.M.Machine.seen c.args.machine.now).stands c.args.ask.store.now) (g.M.Machine.seen c.release.new.self).left c.in_ok-store.store c.copy_to-copied.new.from c.into_connection.result c.copy_to-copied.ensures.leaves
    ((g.M.Machine.seen c.args.machine.now).fresh c.args.ask.target.now) ((g.M.Machine.seen c.open_store.new.machine).fresh c.args.ask.target.now) (g.M.Machine.seen c.release.new.self).made (g.M.Machine.seen c.copy_to-copied.new.machine).made
    (ap (λ (w : World _ _). w.fresh c.args.ask.target.now) c.open_store.ensures.frame) (ap (λ (w : World _ _). w.made) c.release.ensures.frame) c.in_ok-store.ensures.opened c.into_connection.ensures.same c.release.ensures.left
    c.copy_to-copied.result (g.M.Machine.seen c.args.machine.now).made (g.M.Machine.seen c.open_store.new.machine).made (ap (λ (w : World _ _). w.made) c.open_store.ensures.frame) c.copy_to-copied.ensures.refused c.copy_to-copied.ensures.not_copied

pub returns-clause-opens : goal.returns-clause-opens
returns-clause-opens g c =
    init_opens_all c.copy_to-copied.result g.M.Disk.Store ((g.M.Machine.seen c.args.machine.now).stands c.args.ask.store.now) (g.M.Machine.seen c.release.new.self).left c.copy_to-copied.ensures.refused

pub returns-clause-refused : goal.returns-clause-refused
returns-clause-refused g c = init_refused c.copy_to-copied.result c.copy_to-copied.ensures.refused

pub returns-clause-back_new : goal.returns-clause-back_new
returns-clause-back_new g c =
    back_between (g.M.Machine.seen c.args.machine.now).shows (g.M.Machine.seen c.open_store.new.machine).shows (g.M.Machine.seen c.args.machine.now).made (g.M.Machine.seen c.open_store.new.machine).made (g.M.Machine.seen c.release.new.self).made
    (g.M.Machine.seen c.copy_to-copied.new.machine).made (ap (λ (w : World _ _). w.shows) c.open_store.ensures.frame) (ap (λ (w : World _ _). w.made) c.open_store.ensures.frame) (ap (λ (w : World _ _). w.made) c.release.ensures.frame) c.copy_to-copied.ensures.back_new

pub returns-in_err-store-clause-back_new : goal.returns-in_err-store-clause-back_new
returns-in_err-store-clause-back_new g c = back_same (g.M.Machine.seen c.args.machine.now).shows (g.M.Machine.seen c.args.machine.now).made (g.M.Machine.seen c.open_store.new.machine).made (ap (λ (w : World _ _). w.made) c.open_store.ensures.frame)

pub returns-clause-frame : goal.returns-clause-frame
returns-clause-frame g c =
    let before = g.M.Machine.seen c.args.machine.now in
    let copied = g.M.Machine.seen c.copy_to-copied.new.machine in
    let after = g.M.Machine.seen c.release.new.self in
    copied_back before copied after (opened_new before (g.M.Machine.seen c.open_store.new.machine) copied c.open_store.ensures.frame c.copy_to-copied.ensures.frame) c.release.ensures.frame

pub returns-in_err-store-clause-frame : goal.returns-in_err-store-clause-frame
returns-in_err-store-clause-frame g c = opened_new (g.M.Machine.seen c.args.machine.now) (g.M.Machine.seen c.open_store.new.machine) (g.M.Machine.seen c.open_store.new.machine) c.open_store.ensures.frame refl
