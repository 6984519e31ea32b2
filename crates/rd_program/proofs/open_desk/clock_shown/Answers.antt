use Rattle.std.proofs.Common.{◌≡◌, FitsSigned, IfSome, Some, rules, subst, sym, w64}
use Rattle.std.proofs.lemmas.Int.{to_z-of_z}
use Rattle.rd_program.proofs.OnTimeLemmas.{shown_none, shown_some}
use Rattle.rd_program.proofs.open_desk.clock_shown.Goals as goal

pub returns-in-Ok-clause-sure : goal.returns-in-Ok-clause-sure
returns-in-Ok-clause-sure g c = λ doubts.
    let fits : FitsSigned w64 c.in-Ok.seconds = search rules in
    subst (λ s. IfSome (g.M.Machine.seen c.args.machine.now).clock (λ moment. Some s ≡ Some moment)) (sym (to_z-of_z w64 c.in-Ok.seconds fits))
    (shown_some (g.M.Machine.seen c.args.machine.now).clock c.in-Ok.seconds c.in-Ok.ensures.shown)

pub returns-in-Err-clause-sure : goal.returns-in-Err-clause-sure
returns-in-Err-clause-sure g c = λ doubts. shown_none c.now.result _ (g.M.Machine.seen c.args.machine.now).clock c.in-Err.is c.now.ensures.sure
