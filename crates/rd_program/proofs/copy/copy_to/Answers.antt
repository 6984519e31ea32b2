use Rattle.std.proofs.Common.{ap, ◌≡◌, Option, IsTrue, IfSome, Some, subst, sym}
use Rattle.sqlite.specs.Held.{Held}
use Rattle.rd_program.proofs.CopyLemmas.{done_to, failed_to, none_to}
use Rattle.rd_program.specs.World.{World}
use Rattle.rd_program.proofs.Frames.{new_back}
use Rattle.rd_program.proofs.copy.copy_to.Goals as goal

pub returns-clause-copied : goal.returns-clause-copied
returns-clause-copied g c =
    let fresh = (g.M.Machine.seen c.args.machine.now).fresh c.args.target.now in
    done_to g.M.Disk.Store c.args.from.now c.copy_desk-copied.new.from (g.M.Machine.seen c.args.machine.now).shows (g.M.Machine.seen c.args.machine.now).made fresh (g.M.Machine.seen c.release_new.new.self).made
    c.in-Some.conn c.copy_desk-copied.result.1
    (subst (λ (found : Option (Held _)). IfSome found (λ conn. IfSome fresh (λ held. conn ≡ held))) c.in-Some.is c.in-Ok.ensures.fresh) c.release_new.ensures.made c.copy_desk-copied.result.0
    (subst (λ (found : Option (Held _)). IfSome found (λ conn. IsTrue (g.M.Machine.seen c.args.machine.now).shows → fresh ≡ Some conn)) c.in-Some.is c.in-Ok.ensures.there)
    (λ shows. c.release_new.ensures.back (subst (λ b. IsTrue b) (sym (ap (λ (w : World _ _). w.shows) c.connect_new.ensures.frame)) shows)) c.copy_desk-copied.ensures.copied

pub returns-clause-not_copied : goal.returns-clause-not_copied
returns-clause-not_copied g c =
    let fresh = (g.M.Machine.seen c.args.machine.now).fresh c.args.target.now in
    failed_to g.M.Disk.Store c.args.from.now c.copy_desk-copied.new.from (g.M.Machine.seen c.args.machine.now).shows (g.M.Machine.seen c.args.machine.now).made fresh (g.M.Machine.seen c.release_new.new.self).made
    c.in-Some.conn c.copy_desk-copied.result.1
    (subst (λ (found : Option (Held _)). IfSome found (λ conn. IfSome fresh (λ held. conn ≡ held))) c.in-Some.is c.in-Ok.ensures.fresh) c.release_new.ensures.made c.copy_desk-copied.result.0
    c.copy_desk-copied.ensures.not_copied

pub returns-in-Err-clause-not_copied : goal.returns-in-Err-clause-not_copied
returns-in-Err-clause-not_copied g c =
    none_to g.M.Disk.Store c.args.from.now c.args.from.now (g.M.Machine.seen c.args.machine.now).made ((g.M.Machine.seen c.args.machine.now).fresh c.args.target.now)
    (g.M.Machine.seen c.connect_new.new.self).made c.or.result c.in-Err.ensures.kept

pub returns-clause-frame : goal.returns-clause-frame
returns-clause-frame g c =
    new_back (g.M.Machine.seen c.args.machine.now) (g.M.Machine.seen c.connect_new.new.self) (g.M.Machine.seen c.release_new.new.self) c.connect_new.ensures.frame c.release_new.ensures.frame
