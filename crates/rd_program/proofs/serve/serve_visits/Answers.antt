use Rattle.std.proofs.Common.{◌∙◌, ◌⊎◌, OnErr, OnOk, ap, inl, inr, refl, subst, sym}
use Rattle.std.proofs.KnownBytes.{Keeps-refl}
use Rattle.std.specs.Io.KnownBytes.{Keeps}
use Rattle.std.specs.Prelude.{⊤, IsOk}
use Rattle.rd_program.specs.World.{ChangesClock, World}
use Rattle.rd_program.proofs.Named.{asked_none, asked_one}
use Rattle.rd_commands.specs.Serving.{place_of}
use Rattle.rd_program.specs.OnTime.{IsOnTimeBy}
use Rattle.rd_program.specs.Serving.{RefusesVisits}
use Rattle.rd_program.proofs.Frames.{clock_doors}
use Rattle.rd_program.proofs.Moments.{is_err}
use Rattle.rd_program.proofs.OnTimeLemmas.{clock_on_time}
use Rattle.rd_program.proofs.ServeLines.{place_failed, visits_failed}
use Rattle.rd_program.proofs.ShowLemmas.{passed_on}
use Rattle.rd_program.proofs.serve.serve_visits.Goals as goal

-- ---- the checks are not read, or the clock is behind

pub returns-in_err-late-clause-refused : goal.returns-in_err-late-clause-refused
returns-in_err-late-clause-refused g c =
    passed_on c.from_residual.result c.in_err-late.field-0.0 _ c.from_residual.ensures.1 (subst (RefusesVisits (place_of c.args.ask.place) (g.W.Write.contents c.args.output.now) (g.W.Write.contents c.args.output.now)) (sym c.in_err-late.ensures.refused) (Keeps-refl _))

pub returns-in_err-late-clause-unserved : goal.returns-in_err-late-clause-unserved
returns-in_err-late-clause-unserved g c = passed_on c.from_residual.result c.in_err-late.field-0.0 _ c.from_residual.ensures.1 c.is_late.ensures.reads

pub returns-in_err-late-clause-on_time : goal.returns-in_err-late-clause-on_time
returns-in_err-late-clause-on_time g c = λ doubts.
    subst (λ r. OnOk r (IsOnTimeBy g.M.Disk.Store (g.M.Machine.seen c.args.machine.now).clock c.args.desk.now.zone c.args.desk.now.store c.is_late.new.desk.store)) (sym (is_err c.from_residual.result _ c.from_residual.ensures.1)) tt

pub returns-in_err-late-clause-begun_on_time : goal.returns-in_err-late-clause-begun_on_time
returns-in_err-late-clause-begun_on_time g c = λ doubts.
    subst (λ r. OnErr r (Keeps (g.W.Write.contents c.args.output.now) (g.W.Write.contents c.args.output.now) ⊎ IsOnTimeBy g.M.Disk.Store (g.M.Machine.seen c.args.machine.now).clock c.args.desk.now.zone c.args.desk.now.store c.is_late.new.desk.store)) (sym (is_err c.from_residual.result _ c.from_residual.ensures.1)) (inl (Keeps-refl _))

pub returns-then-late-clause-refused : goal.returns-then-late-clause-refused
returns-then-late-clause-refused g c = Keeps-refl _

pub returns-then-late-clause-begun_on_time : goal.returns-then-late-clause-begun_on_time
returns-then-late-clause-begun_on_time g c = λ doubts. inl (Keeps-refl _)

-- ---- the place is not opened, or the first line is cut

pub returns-in-Err-clause-refused : goal.returns-in-Err-clause-refused
returns-in-Err-clause-refused g c = place_failed c.in-Err.fault c.or.result (place_of c.args.ask.place) (g.W.Write.contents c.args.output.now) c.or.ensures

pub returns-in-Err-clause-begun_on_time : goal.returns-in-Err-clause-begun_on_time
returns-in-Err-clause-begun_on_time g c = λ doubts. inl (Keeps-refl _)

pub returns-in_err-tell_listening-clause-refused : goal.returns-in_err-tell_listening-clause-refused
returns-in_err-tell_listening-clause-refused g c =
    passed_on c.from_residual-in_err-tell_listening.result c.in_err-tell_listening.field-0.0 _ c.from_residual-in_err-tell_listening.ensures.1
    (visits_failed c.in_err-tell_listening.field-0.0 (place_of c.args.ask.place) _ _ c.in_err-tell_listening.ensures.refused c.in_err-tell_listening.ensures.cut)

pub returns-in_err-tell_listening-clause-unserved : goal.returns-in_err-tell_listening-clause-unserved
returns-in_err-tell_listening-clause-unserved g c =
    passed_on c.from_residual-in_err-tell_listening.result c.in_err-tell_listening.field-0.0 _ c.from_residual-in_err-tell_listening.ensures.1 c.is_late.ensures.reads

pub returns-in_err-tell_listening-clause-on_time : goal.returns-in_err-tell_listening-clause-on_time
returns-in_err-tell_listening-clause-on_time g c = λ doubts.
    subst (λ r. OnOk r (IsOnTimeBy g.M.Disk.Store (g.M.Machine.seen c.args.machine.now).clock c.args.desk.now.zone c.args.desk.now.store c.is_late.new.desk.store))
    (sym (is_err c.from_residual-in_err-tell_listening.result _ c.from_residual-in_err-tell_listening.ensures.1)) tt

pub returns-in_err-tell_listening-clause-begun_on_time : goal.returns-in_err-tell_listening-clause-begun_on_time
returns-in_err-tell_listening-clause-begun_on_time g c = λ doubts.
    subst (λ r. OnErr r (Keeps (g.W.Write.contents c.args.output.now) (g.W.Write.contents c.tell_listening.new.output) ⊎ IsOnTimeBy g.M.Disk.Store (g.M.Machine.seen c.args.machine.now).clock c.args.desk.now.zone c.args.desk.now.store c.is_late.new.desk.store))
    (sym (is_err c.from_residual-in_err-tell_listening.result _ c.from_residual-in_err-tell_listening.ensures.1))
    (inr (clock_on_time g.M.Disk.Store (g.M.Machine.seen c.args.machine.now).clock c.clock_shown-shown.result c.args.desk.now.zone c.args.desk.now.store c.is_late.new.desk.store c.is_late.new.desk.store (λ is_open. is_open) (c.clock_shown-shown.ensures.sure doubts) (c.in_ok-late.ensures.on_time c.if-late.false)))

-- ---- visits are served

pub returns-clause-on_time : goal.returns-clause-on_time
returns-clause-on_time g c = λ doubts.
    clock_on_time g.M.Disk.Store (g.M.Machine.seen c.args.machine.now).clock c.clock_shown-shown.result c.args.desk.now.zone c.args.desk.now.store c.is_late.new.desk.store c.serve_many.new.desk.store (λ is_open. c.serve_many.ensures.run.lasts.was_open is_open) (c.clock_shown-shown.ensures.sure doubts) (c.in_ok-late.ensures.on_time c.if-late.false)

-- ---- what stays

pub returns-in_err-late-clause-frame : goal.returns-in_err-late-clause-frame
returns-in_err-late-clause-frame g c =
    clock_doors (g.M.Machine.seen c.args.machine.now) (g.M.Machine.seen c.clock_shown-shown.new.machine) (g.M.Machine.seen c.clock_shown-shown.new.machine) c.clock_shown-shown.ensures.frame refl

pub returns-then-late-clause-frame : goal.returns-then-late-clause-frame
returns-then-late-clause-frame g c =
    clock_doors (g.M.Machine.seen c.args.machine.now) (g.M.Machine.seen c.clock_shown-shown.new.machine) (g.M.Machine.seen c.clock_shown-shown.new.machine) c.clock_shown-shown.ensures.frame refl

pub returns-in-Err-clause-frame : goal.returns-in-Err-clause-frame
returns-in-Err-clause-frame g c =
    let shown = g.M.Machine.seen c.clock_shown-shown.new.machine in
    let after = g.M.Machine.seen c.listen.follows.lender-at-none in
    let kept : ChangesClock shown after = subst (λ r. OnErr r (ChangesClock shown after)) c.in-Err.is c.listen.follows.holds-at-none in
    clock_doors (g.M.Machine.seen c.args.machine.now) shown after c.clock_shown-shown.ensures.frame (clock_doors shown after after kept refl)

pub returns-in_err-tell_listening-clause-frame : goal.returns-in_err-tell_listening-clause-frame
returns-in_err-tell_listening-clause-frame g c =
    clock_doors (g.M.Machine.seen c.args.machine.now) (g.M.Machine.seen c.clock_shown-shown.new.machine) (g.M.Machine.seen (c.listen.follows.lender c.in-Ok.door.now)) c.clock_shown-shown.ensures.frame
    (c.listen.follows.holds c.in-Ok.door.now (subst (λ r. IsOk r) (sym c.in-Ok.is) refl)).frame

pub returns-clause-frame : goal.returns-clause-frame
returns-clause-frame g c =
    clock_doors (g.M.Machine.seen c.args.machine.now) (g.M.Machine.seen c.clock_shown-shown.new.machine) (g.M.Machine.seen (c.listen.follows.lender c.serve_many.new.door)) c.clock_shown-shown.ensures.frame
    (c.listen.follows.holds c.serve_many.new.door (subst (λ r. IsOk r) (sym c.in-Ok.is) refl)).frame

-- ---- the door that is asked for

pub returns-in_err-late-clause-asked : goal.returns-in_err-late-clause-asked
returns-in_err-late-clause-asked g c = asked_none _ _ _ ⊤ (ap (λ (w : World _ _). w.wanted) c.clock_shown-shown.ensures.frame)

pub returns-then-late-clause-asked : goal.returns-then-late-clause-asked
returns-then-late-clause-asked g c = asked_none _ _ _ ⊤ (ap (λ (w : World _ _). w.wanted) c.clock_shown-shown.ensures.frame)

pub returns-in-Err-clause-asked : goal.returns-in-Err-clause-asked
returns-in-Err-clause-asked g c =
    let shown = g.M.Machine.seen c.clock_shown-shown.new.machine in
    let after = g.M.Machine.seen c.listen.follows.lender-at-none in
    let kept : ChangesClock shown after = subst (λ r. OnErr r (ChangesClock shown after)) c.in-Err.is c.listen.follows.holds-at-none in
    asked_none (g.M.Machine.seen c.args.machine.now).wanted after.wanted _ ⊤ ((ap (λ (w : World _ _). w.wanted) kept) ∙ (ap (λ (w : World _ _). w.wanted) c.clock_shown-shown.ensures.frame))

pub returns-in_err-tell_listening-clause-asked : goal.returns-in_err-tell_listening-clause-asked
returns-in_err-tell_listening-clause-asked g c =
    asked_one (g.M.Machine.seen c.args.machine.now).wanted (g.M.Machine.seen c.clock_shown-shown.new.machine).wanted (g.M.Machine.seen (c.listen.follows.lender c.in-Ok.door.now)).wanted _ ⊤
    (ap (λ (w : World _ _). w.wanted) c.clock_shown-shown.ensures.frame) (c.listen.follows.holds c.in-Ok.door.now (subst (λ r. IsOk r) (sym c.in-Ok.is) refl)).asked tt

pub returns-clause-asked : goal.returns-clause-asked
returns-clause-asked g c =
    asked_one (g.M.Machine.seen c.args.machine.now).wanted (g.M.Machine.seen c.clock_shown-shown.new.machine).wanted (g.M.Machine.seen (c.listen.follows.lender c.serve_many.new.door)).wanted _ ⊤
    (ap (λ (w : World _ _). w.wanted) c.clock_shown-shown.ensures.frame) (c.listen.follows.holds c.serve_many.new.door (subst (λ r. IsOk r) (sym c.in-Ok.is) refl)).asked tt
