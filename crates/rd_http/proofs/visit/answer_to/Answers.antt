use Rattle.std.proofs.Common.{◌∙◌, ap, inl, inr, refl, subst, w32}
use Rattle.std.proofs.lemmas.Int.{to_z-of_z}
use Rattle.rd_desk.specs.Served.{Serves}
use Rattle.rd_messages.specs.Asked.{request, fault}
use Rattle.rd_messages.specs.ReplyText.{reply_bytes}
use Rattle.rd_http.proofs.visit.answer_to.Goals as goal
use Rattle.rd_messages.specs.Answers.{answer_bytes}

pub returns-in-Request-clause-answers : goal.returns-in-Request-clause-answers
returns-in-Request-clause-answers g c stream is =
    let serves =
    subst (λ day. Serves g.S.Store c.args.desk.now.store c.answer_on.new.self.store day c.in-Request.request c.answer_on.result)
    (to_z-of_z w32 c.args.day c.ranges.day) c.answer_on.ensures.serves in
    inl (request c.in-Request.request, rw c.in-Request.is at is, (c.answer_on.result, serves, c.with_challenge.ensures.text))

pub returns-in-Fault-clause-answers : goal.returns-in-Fault-clause-answers
returns-in-Fault-clause-answers g c stream is =
    inl (fault c.in-Fault.fault, rw c.in-Fault.is at is, (refl, λ i. reply_bytes (c.line.ensures.line i) (c.reply.ensures i)))

pub returns-in-NoMemory-clause-answers : goal.returns-in-NoMemory-clause-answers
returns-in-NoMemory-clause-answers g c stream is =
    inr (record { framed = rw c.in-NoMemory.is at is; same = refl; text_is = c.with_challenge-in-NoMemory.ensures.text ∙ ap answer_bytes c.unavailable.ensures })
