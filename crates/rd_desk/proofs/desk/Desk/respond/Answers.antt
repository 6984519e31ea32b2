use Rattle.std.proofs.Common.{subst, w32}
use Rattle.std.proofs.lemmas.Int.{to_z-of_z}
use Rattle.rd_desk.specs.Served.{Responds}
use Rattle.rd_desk.proofs.ReplyLemmas.{ending, responds}
use Rattle.rd_desk.proofs.desk.Desk.respond.Goals as goal

pub returns-clause-responds : goal.returns-clause-responds
returns-clause-responds g c =
    let old = c.args.self.now.store in
    let new = c.response_to-answer.new.store in
    let request = c.args.request.now in
    let answer = c.response_to-answer.result in
    let ends_open = ending g.S.Store old new request answer c.response_to-answer.ensures.ends_open c.response_to-answer.ensures.turned_away in
    subst (λ day. Responds g.S.Store old new day request answer) (to_z-of_z w32 c.args.day c.ranges.day)
    (responds g.S.Store old new _ request answer c.response_to-answer.ensures.makes c.between_calls.ensures c.response_to-answer.ensures.one_change ends_open)
