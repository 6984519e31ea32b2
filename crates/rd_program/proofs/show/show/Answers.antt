use Rattle.std.proofs.Common.{subst, sym}
use Rattle.std.proofs.KnownBytes.{Keeps-refl}
use Rattle.rd_program.specs.Showing.{IsShowRefusal}
use Rattle.rd_program.proofs.Dated.{of_device, of_show}
use Rattle.rd_program.proofs.ShowLemmas.{passed_on, show_due, shown_due, shows_desk, shows_same}
use Rattle.rd_program.proofs.show.show.Goals as goal

pub returns-clause-shown : goal.returns-clause-shown
returns-clause-shown g c =
    let asked = c.answer_of-answered in
    shows_desk g.S.Store c.args.desk.now.store asked.new.desk.store c.args.asker.day c.args.asker.badge c.args.what asked.result asked.ensures.responds
    c.names_accession-named.result c.in_ok-answer.answer c.in_ok-reply.reply (g.W.Write.contents c.args.output.now) (g.W.Write.contents c.write_shown.new.output) c.requires.to_show
    (sym c.in_ok-answer.ensures.is) c.in_ok-reply.ensures c.in_ok-write_shown.ensures.done

pub returns-clause-same : goal.returns-clause-same
returns-clause-same g c =
    let asked = c.answer_of-answered in
    shows_same g.S.Store c.args.desk.now.store asked.new.desk.store c.args.asker.day c.args.asker.badge c.args.what asked.result asked.ensures.responds c.requires.to_show

pub returns-in_err-answer-clause-same : goal.returns-in_err-answer-clause-same
returns-in_err-answer-clause-same g c =
    let asked = c.answer_of-answered in
    shows_same g.S.Store c.args.desk.now.store asked.new.desk.store c.args.asker.day c.args.asker.badge c.args.what asked.result asked.ensures.responds c.requires.to_show

pub returns-in_err-reply-clause-same : goal.returns-in_err-reply-clause-same
returns-in_err-reply-clause-same g c =
    let asked = c.answer_of-answered in
    shows_same g.S.Store c.args.desk.now.store asked.new.desk.store c.args.asker.day c.args.asker.badge c.args.what asked.result asked.ensures.responds c.requires.to_show

pub returns-in_err-write_shown-clause-same : goal.returns-in_err-write_shown-clause-same
returns-in_err-write_shown-clause-same g c =
    let asked = c.answer_of-answered in
    shows_same g.S.Store c.args.desk.now.store asked.new.desk.store c.args.asker.day c.args.asker.badge c.args.what asked.result asked.ensures.responds c.requires.to_show

pub returns-in_err-answer-clause-due : goal.returns-in_err-answer-clause-due
returns-in_err-answer-clause-due g c = λ there.
    let asked = c.answer_of-answered in
    passed_on c.from_residual.result c.in_err-answer.field-0.0 _ c.from_residual.ensures.1
    (shown_due g.S.Store c.args.desk.now.store asked.new.desk.store c.args.asker.day c.args.asker.badge c.args.what asked.result asked.ensures.responds
    c.names_accession-named.result there c.in_err-answer.field-0.0 (sym c.in_err-answer.ensures.is))

pub returns-in_err-answer-clause-refused : goal.returns-in_err-answer-clause-refused
returns-in_err-answer-clause-refused g c =
    passed_on c.from_residual.result c.in_err-answer.field-0.0 _ c.from_residual.ensures.1
    (show_due c.args.what _ _ _ (subst (λ named. IsShowRefusal named c.in_err-answer.field-0.0) c.names_accession-named.ensures c.in_err-answer.ensures.of) (Keeps-refl _))

pub returns-in_err-answer-clause-opened : goal.returns-in_err-answer-clause-opened
returns-in_err-answer-clause-opened g c = passed_on c.from_residual.result c.in_err-answer.field-0.0 _ c.from_residual.ensures.1 c.in_err-answer.ensures.opened

-- ---- the day is known

pub returns-in_err-answer-clause-dated : goal.returns-in_err-answer-clause-dated
returns-in_err-answer-clause-dated g c =
    passed_on c.from_residual.result c.in_err-answer.field-0.0 _ c.from_residual.ensures.1 (of_show _ c.in_err-answer.field-0.0 c.in_err-answer.ensures.of)

pub returns-in_err-write_shown-clause-dated : goal.returns-in_err-write_shown-clause-dated
returns-in_err-write_shown-clause-dated g c =
    passed_on c.from_residual-in_err-write_shown.result c.in_err-write_shown.field-0.0 _ c.from_residual-in_err-write_shown.ensures.1
    (of_device c.in_err-write_shown.field-0.0 c.in_err-write_shown.ensures.device)
