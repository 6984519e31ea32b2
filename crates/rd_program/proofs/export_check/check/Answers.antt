use Rattle.std.proofs.Common.{◌≡◌, inl, inr, subst, sym}
use Rattle.std.proofs.KnownBytes.{Keeps-refl}
use Rattle.rd_protocol.specs.declared.request.What.TheVariants.{Check}
use Rattle.rd_program.specs.Showing.{Finds, OfDesk, request_of}
use Rattle.rd_program.proofs.ShowLemmas.{finds_desk, found_due, passed_on}
use Rattle.rd_program.proofs.Dated.{of_memory, of_reply, of_write}
use Rattle.rd_program.proofs.DeskSteps.{check_made}
use Rattle.rd_program.proofs.export_check.check.Goals as goal

pub returns-in-Sound-clause-checks : goal.returns-in-Sound-clause-checks
returns-in-Sound-clause-checks g c =
    let asked = c.answer_of-answered in
    check_made g.S.Store c.args.desk.now.store asked.new.desk.store c.args.asker.day asked.result c.args.asker.badge c.args.acc asked.ensures.responds

pub returns-clause-checks : goal.returns-clause-checks
returns-clause-checks g c =
    let asked = c.answer_of-answered in
    check_made g.S.Store c.args.desk.now.store asked.new.desk.store c.args.asker.day asked.result c.args.asker.badge c.args.acc asked.ensures.responds

pub returns-in-Sound-clause-found : goal.returns-in-Sound-clause-found
returns-in-Sound-clause-found g c =
    let asked = c.answer_of-answered in
    subst (λ o. OfDesk g.S.Store (Finds (λ d. d ≡ c.args.asker.day) (request_of c.args.asker.badge (Check c.args.acc)) o) c.args.desk.now.store asked.new.desk.store) c.in-Sound.is
    (finds_desk g.S.Store c.args.desk.now.store asked.new.desk.store c.args.asker.day c.args.asker.badge (Check c.args.acc) asked.result asked.ensures.responds
    c.in_ok-found.found (sym c.in_ok-found.ensures.is))

pub returns-clause-found : goal.returns-clause-found
returns-clause-found g c =
    let asked = c.answer_of-answered in
    subst (λ o. OfDesk g.S.Store (Finds (λ d. d ≡ c.args.asker.day) (request_of c.args.asker.badge (Check c.args.acc)) o) c.args.desk.now.store asked.new.desk.store) c.in-Changed.is
    (finds_desk g.S.Store c.args.desk.now.store asked.new.desk.store c.args.asker.day c.args.asker.badge (Check c.args.acc) asked.result asked.ensures.responds
    c.in_ok-found.found (sym c.in_ok-found.ensures.is))

pub returns-in_err-found-clause-due : goal.returns-in_err-found-clause-due
returns-in_err-found-clause-due g c = λ there.
    let asked = c.answer_of-answered in
    passed_on c.from_residual-in_err-found.result c.in_err-found.field-0.0 _ c.from_residual-in_err-found.ensures.1
    (found_due g.S.Store c.args.desk.now.store asked.new.desk.store c.args.asker.day c.args.asker.badge (Check c.args.acc) asked.result asked.ensures.responds (inl there)
    c.in_err-found.field-0.0 (sym c.in_err-found.ensures.is))

pub returns-in_err-found-clause-refused : goal.returns-in_err-found-clause-refused
returns-in_err-found-clause-refused g c =
    passed_on c.from_residual-in_err-found.result c.in_err-found.field-0.0 _ c.from_residual-in_err-found.ensures.1 (inl (inr (inr c.in_err-found.ensures.of), Keeps-refl _))

pub returns-in_err-found-clause-checks : goal.returns-in_err-found-clause-checks
returns-in_err-found-clause-checks g c =
    let asked = c.answer_of-answered in
    check_made g.S.Store c.args.desk.now.store asked.new.desk.store c.args.asker.day asked.result c.args.asker.badge c.args.acc asked.ensures.responds

pub returns-in_err-write_whole-in-Sound-clause-checks : goal.returns-in_err-write_whole-in-Sound-clause-checks
returns-in_err-write_whole-in-Sound-clause-checks g c =
    let asked = c.answer_of-answered in
    check_made g.S.Store c.args.desk.now.store asked.new.desk.store c.args.asker.day asked.result c.args.asker.badge c.args.acc asked.ensures.responds

pub returns-in_err-write_whole-in-Changed-clause-checks : goal.returns-in_err-write_whole-in-Changed-clause-checks
returns-in_err-write_whole-in-Changed-clause-checks g c =
    let asked = c.answer_of-answered in
    check_made g.S.Store c.args.desk.now.store asked.new.desk.store c.args.asker.day asked.result c.args.asker.badge c.args.acc asked.ensures.responds

-- ---- the day is known

pub returns-in_err-sound-clause-dated : goal.returns-in_err-sound-clause-dated
returns-in_err-sound-clause-dated g c =
    passed_on c.from_residual.result c.in_err-sound.field-0.0 _ c.from_residual.ensures.1 (of_memory c.in_err-sound.field-0.0 c.in_err-sound.ensures.refused)

pub returns-in_err-changed-clause-dated : goal.returns-in_err-changed-clause-dated
returns-in_err-changed-clause-dated g c =
    passed_on c.from_residual-in_err-changed.result c.in_err-changed.field-0.0 _ c.from_residual-in_err-changed.ensures.1
    (of_memory c.in_err-changed.field-0.0 c.in_err-changed.ensures.refused)

pub returns-in_err-found-clause-dated : goal.returns-in_err-found-clause-dated
returns-in_err-found-clause-dated g c =
    passed_on c.from_residual-in_err-found.result c.in_err-found.field-0.0 _ c.from_residual-in_err-found.ensures.1 (of_reply c.in_err-found.field-0.0 c.in_err-found.ensures.of)

pub returns-in_err-write_whole-in-Sound-clause-dated : goal.returns-in_err-write_whole-in-Sound-clause-dated
returns-in_err-write_whole-in-Sound-clause-dated g c =
    passed_on c.from_residual-in_err-write_whole-in-Sound.result c.in_err-write_whole-in-Sound.field-0.0 _ c.from_residual-in_err-write_whole-in-Sound.ensures.1
    (of_write c.in_err-write_whole-in-Sound.field-0.0 c.in_err-write_whole-in-Sound.ensures.device)

pub returns-in_err-write_whole-in-Changed-clause-dated : goal.returns-in_err-write_whole-in-Changed-clause-dated
returns-in_err-write_whole-in-Changed-clause-dated g c =
    passed_on c.from_residual-in_err-write_whole-in-Changed.result c.in_err-write_whole-in-Changed.field-0.0 _ c.from_residual-in_err-write_whole-in-Changed.ensures.1
    (of_write c.in_err-write_whole-in-Changed.field-0.0 c.in_err-write_whole-in-Changed.ensures.device)
