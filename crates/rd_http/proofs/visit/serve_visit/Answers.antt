use Rattle.std.proofs.Common.{◌≡◌, ◌∙◌, ℕ, FitsSigned, List, ap, rules, subst, w32, w64}
use Rattle.std.proofs.lemmas.Int.{to_z-of_z}
use Rattle.rd_policy.specs.Zones.{day_number}
use Rattle.rd_messages.specs.Readings.{IsReading}
use Rattle.rd_messages.specs.ReplyText.{reply_bytes}
use Rattle.rd_http.specs.Visits.{IsAnswer}
use Rattle.rd_http.proofs.VisitLemmas.{sent_cut, sent_whole}
use Rattle.rd_http.proofs.visit.serve_visit.Goals as goal

pub returns-in-Ok-send-clause-served : goal.returns-in-Ok-send-clause-served
returns-in-Ok-send-clause-served g c =
    let old = c.args.desk.now in
    let new = c.answer_to-reply.new.desk in
    let reading = c.in-Ok-read_request.reading in
    let text = reply_bytes c.answer_to-reply.result.0.now c.answer_to-reply.result.1 in
    let day = day_number c.args.seconds old.zone in
    let fits : FitsSigned w32 c.in-Ok.day = search rules in
    let same : c.in-Ok.day ≡ day = c.in-Ok.ensures.day ∙ ap (λ s. day_number s old.zone) (to_z-of_z w64 c.args.seconds c.ranges.seconds) in
    let answers = subst (λ day. (stream : List ℕ) → IsReading stream reading → IsAnswer g.S.Store stream old.store new.store day text)
    (to_z-of_z w32 c.in-Ok.day fits ∙ same) c.answer_to-reply.ensures.answers in
    record {
      answered = sent_whole (λ stream. IsReading stream reading) (λ stream text. IsAnswer g.S.Store stream old.store new.store day text)
          old.store new.store text answers
          (g.W.Wire.incoming c.args.wire.now) (g.W.Wire.outgoing c.args.wire.now) (g.W.Wire.outgoing c.read_request.new.wire) (g.W.Wire.outgoing c.send.new.wire)
          c.in-Ok-read_request.ensures.reading c.in-Ok-read_request.ensures.kept c.in-Ok-send.ensures.sends;
      clock = search rules;
      read = search rules;
      write = search rules;
      flushed = search rules;
      untouched = search rules;
      unread = search rules;
      bounded = search rules;
      came = search rules;
      lasts = search rules;
    }

pub returns-in-Err-clause-served : goal.returns-in-Err-clause-served
returns-in-Err-clause-served g c =
    let old = c.args.desk.now in
    let new = c.answer_to-reply.new.desk in
    let reading = c.in-Ok-read_request.reading in
    let text = reply_bytes c.answer_to-reply.result.0.now c.answer_to-reply.result.1 in
    let day = day_number c.args.seconds old.zone in
    let fits : FitsSigned w32 c.in-Ok.day = search rules in
    let same : c.in-Ok.day ≡ day = c.in-Ok.ensures.day ∙ ap (λ s. day_number s old.zone) (to_z-of_z w64 c.args.seconds c.ranges.seconds) in
    let answers = subst (λ day. (stream : List ℕ) → IsReading stream reading → IsAnswer g.S.Store stream old.store new.store day text)
    (to_z-of_z w32 c.in-Ok.day fits ∙ same) c.answer_to-reply.ensures.answers in
    record {
      answered = sent_cut (λ stream. IsReading stream reading) (λ stream text. IsAnswer g.S.Store stream old.store new.store day text)
          old.store new.store text answers
          (g.W.Wire.incoming c.args.wire.now) (g.W.Wire.outgoing c.args.wire.now) (g.W.Wire.outgoing c.read_request.new.wire) (g.W.Wire.outgoing c.send.new.wire)
          c.in-Ok-read_request.ensures.reading c.in-Ok-read_request.ensures.kept c.in-Err.ensures.sends;
      clock = search rules;
      read = search rules;
      write = search rules;
      flushed = search rules;
      untouched = search rules;
      unread = search rules;
      bounded = search rules;
      came = search rules;
      lasts = search rules;
    }
