use Rattle.std.proofs.Common.{subst, w32}
use Rattle.std.proofs.lemmas.Int.{to_z-of_z}
use Rattle.rd_desk.specs.Served.{Serves}
use Rattle.rd_desk.proofs.ReplyLemmas.{serves}
use Rattle.rd_desk.proofs.desk.Desk.answer_on.Goals as goal

pub returns-clause-serves : goal.returns-clause-serves
returns-clause-serves g c =
    let old = c.args.self.now.store in
    let new = c.respond-answer.new.self.store in
    let request = c.args.request.now in
    subst (λ day. Serves g.S.Store old new day request c.reply_with.result) (to_z-of_z w32 c.args.day c.ranges.day)
    (serves g.S.Store old new _ request c.respond-answer.result c.reply_with.result c.reply_with.ensures c.respond-answer.ensures.responds)
