use Rattle.std.proofs.Common.{◌≡◌, ◌∙◌, FitsSigned, ap, false, refl, rules, subst, sym, true, w32, w64}
use Rattle.std.specs.Prelude.{IsSome}
use Rattle.std.proofs.lemmas.Int.{to_z-of_z}
use Rattle.std.proofs.lemmas.Result.{IfOk-weaker}
use Rattle.rd_policy.specs.Days.{HasDay}
use Rattle.rd_policy.specs.Zones.{day_number}
use Rattle.rd_program.specs.OnTime.{IsOnTimeBy}
use Rattle.rd_program.proofs.OnTimeLemmas.{late_on_time}
use Rattle.rd_program.proofs.open_desk.is_late.Goals as goal

pub returns-in-Ok-clause-moment : goal.returns-in-Ok-clause-moment
returns-in-Ok-clause-moment g c = IfOk-weaker c.is_behind.result _ _ (λ late found yes. subst (λ o. IsSome o) (sym c.in-Some.is) refl) c.is_behind.ensures.behind

pub returns-in-Ok-clause-on_time : goal.returns-in-Ok-clause-on_time
returns-in-Ok-clause-on_time g c =
    let moment : FitsSigned w64 c.in-Some.seconds = search rules in
    let fits : FitsSigned w32 c.in-Ok.day = search rules in
    late_on_time g.S.Store c.is_behind.result c.args.shown c.in-Some.seconds _ c.args.desk.now.zone c.args.desk.now.store c.is_behind.new.desk.store c.in-Some.is c.is_behind.ensures.behind
    (to_z-of_z w32 c.in-Ok.day fits ∙ (c.in-Ok.ensures.day ∙ ap (λ s. day_number s c.args.desk.now.zone) (to_z-of_z w64 c.in-Some.seconds moment)))

pub returns-in-Err-clause-on_time : goal.returns-in-Err-clause-on_time
returns-in-Err-clause-on_time g c = λ timely. subst (λ shown. IsOnTimeBy g.S.Store shown c.args.desk.now.zone c.args.desk.now.store c.args.desk.now.store) (sym c.in-Some.is) (λ has is_open.
    let moment : FitsSigned w64 c.in-Some.seconds = search rules in
    let no : false ≡ true = c.in-Err.ensures.taken.1 (subst HasDay (sym (to_z-of_z w64 c.in-Some.seconds moment)) has) in absurd (cc no))

pub returns-in-None-clause-on_time : goal.returns-in-None-clause-on_time
returns-in-None-clause-on_time g c = λ timely. subst (λ shown. IsOnTimeBy g.S.Store shown c.args.desk.now.zone c.args.desk.now.store c.args.desk.now.store) (sym c.in-None.is) tt
