use Rattle.std.proofs.Common.{◌≡◌, ◌∙◌, FitsSigned, IfErr, Some, ap, inl, inr, option_map, rules, subst, sym, w32}
use Rattle.std.proofs.lemmas.Int.{to_z-of_z}
use Rattle.std.specs.Prelude.{IsSome}
use Rattle.std.proofs.KnownBytes.{Keeps-refl}
use Rattle.std.proofs.lemmas.Result.{IfErr-weaker}
use Rattle.sha2.specs.Sha256.{sha256}
use Rattle.rd_commands.specs.Asks.{IsCheckOf}
use Rattle.rd_protocol.specs.declared.request.What.TheVariants as request
use Rattle.rd_program.specs.Leaves.{IsDayAt, StepsOf, moment_of}
use Rattle.rd_program.specs.Showing.{Finds, RefusesShow, Shows, asked_of, found_by, request_of, what_of, what_to_show}
use Rattle.rd_program.proofs.ShowLemmas.{badge_there, due_asked, finds_asked, key_of_check, key_of_show, no_check, passed_on, shows_asked}
use Rattle.rd_program.specs.OnTime.{is_dated}
use Rattle.rd_program.proofs.LeftStores.{still_same}
use Rattle.rd_program.proofs.OnTimeLemmas.{check_from, day_asks, day_due, day_no_accession, due_from, if_ok_from, ok_from, same_from, still_steps}
use Rattle.rd_program.proofs.Moments.{asks_none, asks_then}
use Rattle.rd_program.proofs.export_check.tell_asked.Goals as goal

pub returns-in_err-day-clause-not_shown : goal.returns-in_err-day-clause-not_shown
returns-in_err-day-clause-not_shown g c = λ what is.
    passed_on c.from_residual.result c.in_err-day.field-0.0 _ c.from_residual.ensures.1
    (inl (day_asks c.in_err-day.field-0.0 c.in_err-day.ensures.refused, Keeps-refl _), λ none. absurd (day_no_accession c.in_err-day.field-0.0 c.in_err-day.ensures.refused none))

pub returns-in_err-day-clause-due : goal.returns-in_err-day-clause-due
returns-in_err-day-clause-due g c = λ judged.
    passed_on c.from_residual.result c.in_err-day.field-0.0 _ c.from_residual.ensures.1
    (day_due g.S.Store (IsDayAt (moment_of c.args.ask.now.when.seconds (g.M.Machine.seen c.args.machine.now).clock) c.args.desk.now.zone)
    (request_of (option_map sha256 (option_map (λ key. key.now) c.args.ask.now.key)) (asked_of c.args.ask.now.question)) c.args.desk.now.store c.question_day.new.desk.store
    c.in_err-day.field-0.0 c.in_err-day.ensures.refused)

pub returns-in-Catalogue-clause-shown : goal.returns-in-Catalogue-clause-shown
returns-in-Catalogue-clause-shown g c = λ what is.
    let both : Some request.Catalogue ≡ Some what = sym (ap what_to_show c.in-Catalogue.is) ∙ is in
    let same : request.Catalogue ≡ what = cc both in
    let fits : FitsSigned w32 c.in_ok-day.day = search rules in
    ok_from g.S.Store c.args.desk.now.store c.question_day.new.desk.store c.show.new.desk.store (still_same g.S.Store c.args.desk.now.store c.question_day.new.desk.store c.question_day.ensures.reads) c.show.ensures.same.lasts c.show.result
    (λ stood after. Shows (IsDayAt (moment_of c.args.ask.now.when.seconds (g.M.Machine.seen c.args.machine.now).clock) c.args.desk.now.zone)
    (request_of (option_map sha256 (option_map (λ key. key.now) c.args.ask.now.key)) what) stood (g.W.Write.contents c.args.output.now) (g.W.Write.contents c.show.new.output))
    (shows_asked c.show.result g.S.Store c.question_day.new.desk.store c.show.new.desk.store _
    (IsDayAt (moment_of c.args.ask.now.when.seconds (g.M.Machine.seen c.args.machine.now).clock) c.args.desk.now.zone)
    (subst (IsDayAt (moment_of c.args.ask.now.when.seconds (g.M.Machine.seen c.args.machine.now).clock) c.args.desk.now.zone) (sym (to_z-of_z w32 c.in_ok-day.day fits)) c.in_ok-day.ensures.day)
    c.badge_of-badge.result (option_map sha256 (option_map (λ key. key.now) c.args.ask.now.key)) c.badge_of-badge.ensures request.Catalogue what
    (g.W.Write.contents c.args.output.now) (g.W.Write.contents c.show.new.output) same c.show.ensures.shown)

pub returns-in-Catalogue-clause-not_shown : goal.returns-in-Catalogue-clause-not_shown
returns-in-Catalogue-clause-not_shown g c = λ what is.
    let both : Some request.Catalogue ≡ Some what = sym (ap what_to_show c.in-Catalogue.is) ∙ is in
    let same : request.Catalogue ≡ what = cc both in
    subst (λ w. IfErr c.show.result (RefusesShow w (g.W.Write.contents c.args.output.now) (g.W.Write.contents c.show.new.output))) same c.show.ensures.refused

pub returns-in-Catalogue-clause-refused : goal.returns-in-Catalogue-clause-refused
returns-in-Catalogue-clause-refused g c = IfErr-weaker c.show.result _ _ (λ refusal why. why.0) c.show.ensures.refused

pub returns-in-Catalogue-clause-found : goal.returns-in-Catalogue-clause-found
returns-in-Catalogue-clause-found g c = λ acc is. absurd (subst (IsCheckOf acc) c.in-Catalogue.is is)

pub returns-in-Catalogue-clause-due : goal.returns-in-Catalogue-clause-due
returns-in-Catalogue-clause-due g c = λ judged.
    let fits : FitsSigned w32 c.in_ok-day.day = search rules in
    due_from g.S.Store c.args.desk.now.store c.question_day.new.desk.store c.show.new.desk.store (still_same g.S.Store c.args.desk.now.store c.question_day.new.desk.store c.question_day.ensures.reads) c.show.ensures.same.lasts c.show.result
    (IsDayAt (moment_of c.args.ask.now.when.seconds (g.M.Machine.seen c.args.machine.now).clock) c.args.desk.now.zone)
    (request_of (option_map sha256 (option_map (λ key. key.now) c.args.ask.now.key)) (asked_of c.args.ask.now.question))
    (due_asked c.show.result g.S.Store c.question_day.new.desk.store c.show.new.desk.store _
    (IsDayAt (moment_of c.args.ask.now.when.seconds (g.M.Machine.seen c.args.machine.now).clock) c.args.desk.now.zone)
    (subst (IsDayAt (moment_of c.args.ask.now.when.seconds (g.M.Machine.seen c.args.machine.now).clock) c.args.desk.now.zone) (sym (to_z-of_z w32 c.in_ok-day.day fits)) c.in_ok-day.ensures.day)
    c.badge_of-badge.result (option_map sha256 (option_map (λ key. key.now) c.args.ask.now.key)) c.badge_of-badge.ensures request.Catalogue (asked_of c.args.ask.now.question)
    (sym (ap asked_of c.in-Catalogue.is)) (c.show.ensures.due (inr (λ staff. staff))))

pub returns-in-Check-clause-shown : goal.returns-in-Check-clause-shown
returns-in-Check-clause-shown g c = λ what is. absurd (no_check c.in-Check.acc what (sym (ap what_to_show c.in-Check.is) ∙ is))

pub returns-in-Check-clause-not_shown : goal.returns-in-Check-clause-not_shown
returns-in-Check-clause-not_shown g c = λ what is. absurd (no_check c.in-Check.acc what (sym (ap what_to_show c.in-Check.is) ∙ is))

pub returns-in-Check-clause-found : goal.returns-in-Check-clause-found
returns-in-Check-clause-found g c = λ acc is.
    let same : c.in-Check.acc ≡ acc = subst (IsCheckOf acc) c.in-Check.is is in
    let fits : FitsSigned w32 c.in_ok-day.day = search rules in
    if_ok_from g.S.Store c.args.desk.now.store c.question_day.new.desk.store c.check.new.desk.store (still_same g.S.Store c.args.desk.now.store c.question_day.new.desk.store c.question_day.ensures.reads) c.check.ensures.checks.lasts c.check.result
    (λ done. Finds (IsDayAt (moment_of c.args.ask.now.when.seconds (g.M.Machine.seen c.args.machine.now).clock) c.args.desk.now.zone)
    (request_of (option_map sha256 (option_map (λ key. key.now) c.args.ask.now.key)) (request.Check acc)) (found_by done))
    (finds_asked c.check.result g.S.Store c.question_day.new.desk.store c.check.new.desk.store _
    (IsDayAt (moment_of c.args.ask.now.when.seconds (g.M.Machine.seen c.args.machine.now).clock) c.args.desk.now.zone)
    (subst (IsDayAt (moment_of c.args.ask.now.when.seconds (g.M.Machine.seen c.args.machine.now).clock) c.args.desk.now.zone) (sym (to_z-of_z w32 c.in_ok-day.day fits)) c.in_ok-day.ensures.day)
    c.badge_of-badge.result (option_map sha256 (option_map (λ key. key.now) c.args.ask.now.key)) c.in-Check.acc acc c.badge_of-badge.ensures same c.check.ensures.found)

pub returns-in-Check-clause-due : goal.returns-in-Check-clause-due
returns-in-Check-clause-due g c = λ judged.
    let some = key_of_check c.args.ask.now.key c.in-Check.acc c.args.ask.now.question c.in-Check.is judged in
    let there = subst (λ badge. IsSome badge) (sym c.badge_of-badge.ensures) (badge_there c.args.ask.now.key some) in
    let fits : FitsSigned w32 c.in_ok-day.day = search rules in
    due_from g.S.Store c.args.desk.now.store c.question_day.new.desk.store c.check.new.desk.store (still_same g.S.Store c.args.desk.now.store c.question_day.new.desk.store c.question_day.ensures.reads) c.check.ensures.checks.lasts c.check.result
    (IsDayAt (moment_of c.args.ask.now.when.seconds (g.M.Machine.seen c.args.machine.now).clock) c.args.desk.now.zone)
    (request_of (option_map sha256 (option_map (λ key. key.now) c.args.ask.now.key)) (asked_of c.args.ask.now.question))
    (due_asked c.check.result g.S.Store c.question_day.new.desk.store c.check.new.desk.store _
    (IsDayAt (moment_of c.args.ask.now.when.seconds (g.M.Machine.seen c.args.machine.now).clock) c.args.desk.now.zone)
    (subst (IsDayAt (moment_of c.args.ask.now.when.seconds (g.M.Machine.seen c.args.machine.now).clock) c.args.desk.now.zone) (sym (to_z-of_z w32 c.in_ok-day.day fits)) c.in_ok-day.ensures.day)
    c.badge_of-badge.result (option_map sha256 (option_map (λ key. key.now) c.args.ask.now.key)) c.badge_of-badge.ensures (request.Check c.in-Check.acc) (asked_of c.args.ask.now.question)
    (sym (ap asked_of c.in-Check.is)) (c.check.ensures.due there))

pub returns-in-Show-clause-refused : goal.returns-in-Show-clause-refused
returns-in-Show-clause-refused g c = IfErr-weaker c.show-in-Show.result _ _ (λ refusal why. why.0) c.show-in-Show.ensures.refused

pub returns-in-Show-clause-shown : goal.returns-in-Show-clause-shown
returns-in-Show-clause-shown g c = λ what is.
    let both : Some (what_of c.in-Show.shown) ≡ Some what = sym (ap what_to_show c.in-Show.is) ∙ is in
    let named : what_of c.in-Show.shown ≡ what = cc both in
    let fits : FitsSigned w32 c.in_ok-day.day = search rules in
    ok_from g.S.Store c.args.desk.now.store c.question_day.new.desk.store c.show-in-Show.new.desk.store (still_same g.S.Store c.args.desk.now.store c.question_day.new.desk.store c.question_day.ensures.reads) c.show-in-Show.ensures.same.lasts c.show-in-Show.result
    (λ stood after. Shows (IsDayAt (moment_of c.args.ask.now.when.seconds (g.M.Machine.seen c.args.machine.now).clock) c.args.desk.now.zone)
    (request_of (option_map sha256 (option_map (λ key. key.now) c.args.ask.now.key)) what) stood (g.W.Write.contents c.args.output.now) (g.W.Write.contents c.show-in-Show.new.output))
    (shows_asked c.show-in-Show.result g.S.Store c.question_day.new.desk.store c.show-in-Show.new.desk.store _
    (IsDayAt (moment_of c.args.ask.now.when.seconds (g.M.Machine.seen c.args.machine.now).clock) c.args.desk.now.zone)
    (subst (IsDayAt (moment_of c.args.ask.now.when.seconds (g.M.Machine.seen c.args.machine.now).clock) c.args.desk.now.zone) (sym (to_z-of_z w32 c.in_ok-day.day fits)) c.in_ok-day.ensures.day)
    c.badge_of-badge.result (option_map sha256 (option_map (λ key. key.now) c.args.ask.now.key)) c.badge_of-badge.ensures c.what_of.result what
    (g.W.Write.contents c.args.output.now) (g.W.Write.contents c.show-in-Show.new.output) (c.what_of.ensures.asks ∙ named) c.show-in-Show.ensures.shown)

pub returns-in-Show-clause-not_shown : goal.returns-in-Show-clause-not_shown
returns-in-Show-clause-not_shown g c = λ what is.
    let both : Some (what_of c.in-Show.shown) ≡ Some what = sym (ap what_to_show c.in-Show.is) ∙ is in
    let named : what_of c.in-Show.shown ≡ what = cc both in
    subst (λ w. IfErr c.show-in-Show.result (RefusesShow w (g.W.Write.contents c.args.output.now) (g.W.Write.contents c.show-in-Show.new.output))) (c.what_of.ensures.asks ∙ named) c.show-in-Show.ensures.refused

pub returns-in-Show-clause-found : goal.returns-in-Show-clause-found
returns-in-Show-clause-found g c = λ acc is. absurd (subst (IsCheckOf acc) c.in-Show.is is)

pub returns-in-Show-clause-due : goal.returns-in-Show-clause-due
returns-in-Show-clause-due g c = λ judged.
    let some = key_of_show c.args.ask.now.key c.in-Show.shown c.args.ask.now.question c.in-Show.is judged in
    let there = subst (λ badge. IsSome badge) (sym c.badge_of-badge.ensures) (badge_there c.args.ask.now.key some) in
    let fits : FitsSigned w32 c.in_ok-day.day = search rules in
    due_from g.S.Store c.args.desk.now.store c.question_day.new.desk.store c.show-in-Show.new.desk.store (still_same g.S.Store c.args.desk.now.store c.question_day.new.desk.store c.question_day.ensures.reads) c.show-in-Show.ensures.same.lasts c.show-in-Show.result
    (IsDayAt (moment_of c.args.ask.now.when.seconds (g.M.Machine.seen c.args.machine.now).clock) c.args.desk.now.zone)
    (request_of (option_map sha256 (option_map (λ key. key.now) c.args.ask.now.key)) (asked_of c.args.ask.now.question))
    (due_asked c.show-in-Show.result g.S.Store c.question_day.new.desk.store c.show-in-Show.new.desk.store _
    (IsDayAt (moment_of c.args.ask.now.when.seconds (g.M.Machine.seen c.args.machine.now).clock) c.args.desk.now.zone)
    (subst (IsDayAt (moment_of c.args.ask.now.when.seconds (g.M.Machine.seen c.args.machine.now).clock) c.args.desk.now.zone) (sym (to_z-of_z w32 c.in_ok-day.day fits)) c.in_ok-day.ensures.day)
    c.badge_of-badge.result (option_map sha256 (option_map (λ key. key.now) c.args.ask.now.key)) c.badge_of-badge.ensures c.what_of.result (asked_of c.args.ask.now.question)
    (c.what_of.ensures.asks ∙ sym (ap asked_of c.in-Show.is)) (c.show-in-Show.ensures.due (inl there)))

-- ---- what is left

pub returns-in_err-day-clause-steps : goal.returns-in_err-day-clause-steps
returns-in_err-day-clause-steps g c =
    still_steps g.S.Store c.args.desk.now.store c.question_day.new.desk.store (option_map sha256 (option_map (λ key. key.now) c.args.ask.now.key)) (IsDayAt (moment_of c.args.ask.now.when.seconds (g.M.Machine.seen c.args.machine.now).clock) c.args.desk.now.zone) c.args.ask.now.question
    (still_same g.S.Store c.args.desk.now.store c.question_day.new.desk.store c.question_day.ensures.reads)

pub returns-in-Catalogue-clause-steps : goal.returns-in-Catalogue-clause-steps
returns-in-Catalogue-clause-steps g c =
    same_from g.S.Store c.args.desk.now.store c.question_day.new.desk.store c.show.new.desk.store (still_same g.S.Store c.args.desk.now.store c.question_day.new.desk.store c.question_day.ensures.reads) c.show.ensures.same.lasts
    (option_map sha256 (option_map (λ key. key.now) c.args.ask.now.key)) (IsDayAt (moment_of c.args.ask.now.when.seconds (g.M.Machine.seen c.args.machine.now).clock) c.args.desk.now.zone) c.args.ask.now.question
    (λ d e same. subst (λ q. StepsOf (option_map sha256 (option_map (λ key. key.now) c.args.ask.now.key)) (IsDayAt (moment_of c.args.ask.now.when.seconds (g.M.Machine.seen c.args.machine.now).clock) c.args.desk.now.zone) q d e) (sym c.in-Catalogue.is) same) c.show.ensures.same

pub returns-in-Show-clause-steps : goal.returns-in-Show-clause-steps
returns-in-Show-clause-steps g c =
    same_from g.S.Store c.args.desk.now.store c.question_day.new.desk.store c.show-in-Show.new.desk.store (still_same g.S.Store c.args.desk.now.store c.question_day.new.desk.store c.question_day.ensures.reads) c.show-in-Show.ensures.same.lasts
    (option_map sha256 (option_map (λ key. key.now) c.args.ask.now.key)) (IsDayAt (moment_of c.args.ask.now.when.seconds (g.M.Machine.seen c.args.machine.now).clock) c.args.desk.now.zone) c.args.ask.now.question
    (λ d e same. subst (λ q. StepsOf (option_map sha256 (option_map (λ key. key.now) c.args.ask.now.key)) (IsDayAt (moment_of c.args.ask.now.when.seconds (g.M.Machine.seen c.args.machine.now).clock) c.args.desk.now.zone) q d e) (sym c.in-Show.is) same) c.show-in-Show.ensures.same

pub returns-in-Check-clause-steps : goal.returns-in-Check-clause-steps
returns-in-Check-clause-steps g c =
    let fits : FitsSigned w32 c.in_ok-day.day = search rules in
    check_from g.S.Store c.args.desk.now.store c.question_day.new.desk.store c.check.new.desk.store (still_same g.S.Store c.args.desk.now.store c.question_day.new.desk.store c.question_day.ensures.reads) c.check.ensures.checks.lasts
    (IsDayAt (moment_of c.args.ask.now.when.seconds (g.M.Machine.seen c.args.machine.now).clock) c.args.desk.now.zone) _ c.badge_of-badge.result (option_map sha256 (option_map (λ key. key.now) c.args.ask.now.key))
    c.in-Check.acc c.args.ask.now.question
    (subst (IsDayAt (moment_of c.args.ask.now.when.seconds (g.M.Machine.seen c.args.machine.now).clock) c.args.desk.now.zone) (sym (to_z-of_z w32 c.in_ok-day.day fits)) c.in_ok-day.ensures.day)
    c.badge_of-badge.ensures c.in-Check.is c.check.ensures.checks

pub returns-in_err-day-clause-moment : goal.returns-in_err-day-clause-moment
returns-in_err-day-clause-moment g c =
    asks_none g.S.Store (is_dated c.args.ask.now.question) c.args.ask.now.when (g.M.Machine.seen c.args.machine.now).clock c.args.desk.now.zone c.args.desk.now.store c.question_day.new.desk.store c.from_residual.result
    c.in_err-day.field-0.0 c.from_residual.ensures.1 c.in_err-day.ensures.dayless c.in_err-day.ensures.clock c.in_err-day.ensures.late c.in_err-day.ensures.refused

pub returns-in-Catalogue-clause-moment : goal.returns-in-Catalogue-clause-moment
returns-in-Catalogue-clause-moment g c =
    asks_then g.S.Store (is_dated c.args.ask.now.question) c.args.ask.now.when (g.M.Machine.seen c.args.machine.now).clock c.args.desk.now.zone c.args.desk.now.store c.question_day.new.desk.store c.show.new.desk.store c.show.result
    c.in_ok-day.day c.show.ensures.same.lasts c.in_ok-day.ensures.day c.in_ok-day.ensures.dayless c.in_ok-day.ensures.on_time c.show.ensures.dated c.show.ensures.opened

pub returns-in-Check-clause-moment : goal.returns-in-Check-clause-moment
returns-in-Check-clause-moment g c =
    asks_then g.S.Store (is_dated c.args.ask.now.question) c.args.ask.now.when (g.M.Machine.seen c.args.machine.now).clock c.args.desk.now.zone c.args.desk.now.store c.question_day.new.desk.store c.check.new.desk.store c.check.result
    c.in_ok-day.day c.check.ensures.checks.lasts c.in_ok-day.ensures.day c.in_ok-day.ensures.dayless c.in_ok-day.ensures.on_time c.check.ensures.dated c.check.ensures.opened

pub returns-in-Show-clause-moment : goal.returns-in-Show-clause-moment
returns-in-Show-clause-moment g c =
    asks_then g.S.Store (is_dated c.args.ask.now.question) c.args.ask.now.when (g.M.Machine.seen c.args.machine.now).clock c.args.desk.now.zone c.args.desk.now.store c.question_day.new.desk.store c.show-in-Show.new.desk.store c.show-in-Show.result
    c.in_ok-day.day c.show-in-Show.ensures.same.lasts c.in_ok-day.ensures.day c.in_ok-day.ensures.dayless c.in_ok-day.ensures.on_time c.show-in-Show.ensures.dated c.show-in-Show.ensures.opened
