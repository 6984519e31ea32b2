use Rattle.std.proofs.Common.{◌≡◌, inl, inr, FitsSigned, IsOk, Ok, Result, refl, rules, subst, sym, w32, w64}
use Rattle.std.proofs.lemmas.Int.{to_z-of_z}
use Rattle.rd_tables.proofs.ConnectionLaws.{lasts_still}
use Rattle.rd_tables.specs.Connections.{IsOpen}
use Rattle.rd_protocol.specs.declared.response.Response.{Response}
use Rattle.rd_protocol.specs.declared.response.Response.TheVariants.{Refused}
use Rattle.rd_desk.specs.declared.asking.Unavailable.{Unavailable}
use Rattle.rd_chain.specs.Held.{lines}
use Rattle.rd_store.specs.Held.{LeavesOnly, desk}
use Rattle.rd_desk.specs.Calls.{IsResponse}
use Rattle.rd_history.proofs.Carried.{answered_told, refused_back, refused_ends, stays_ends}
use Rattle.rd_history.proofs.Crashed.{back_near, stays_near}
use Rattle.rd_history.proofs.remembering.carry_out.Goals.{in-Ok-Refused, in_default}
use Rattle.rd_history.proofs.remembering.carry_out.Goals as goal

pub returns-clause-told : goal.returns-clause-told
returns-clause-told g c =
    let old = desk g.S.Store c.args.desk.now.store in
    let new = desk g.S.Store c.respond-answer.new.self.store in
    let request = c.args.request.now in
    let history = c.args.recorder.now.history in
    let these = lines g.H.Store history in
    let fits : FitsSigned w32 c.args.day = search rules in
    let day = c.args.day in
    let answers : IsOpen g.S.Store c.respond-answer.new.self.store → IsResponse {X = Unavailable} old day request c.respond-answer.result new = λ store_open.
    subst (λ on. IsResponse {X = Unavailable} old on request c.respond-answer.result new) (to_z-of_z w32 day fits) (c.respond-answer.ensures.responds.answers store_open) in
    elim c.match-answer.branch [
      | in-Ok-Refused w ↦ rw (w.recorder-is, w.recorder2-is, w.is_err-recorder.ensures.value) (λ store_open history_open entry asks pending.
          let is : ◌≡◌ {A = Result Response Unavailable} c.respond-answer.result (Ok (Refused w.in-Ok-Refused.refusal)) = search rules in
          let refused = subst (λ (r : Result Response Unavailable). IsResponse old day request r new) is (answers store_open) in
          let after = refused_back g.H.Store history w.take_back.new.history old entry pending _ w.cause_of.result w.take_back.result w.take_back.ensures.takes history_open (w.take_back.ensures.history history_open) in
          rw refused.1 after)
      | in_default w ↦ rw (w.recorder-is, w.recorder2-is) (λ store_open history_open entry asks pending.
          answered_told old day request c.respond-answer.result new (answers store_open) these entry pending asks w.is_done.result w.is_done.ensures.0)
    ]

pub returns-clause-ends : goal.returns-clause-ends
returns-clause-ends g c =
    let history = c.args.recorder.now.history in
    let these = lines g.H.Store history in
    let fits : FitsSigned w64 c.args.moment = c.ranges.moment in
    elim c.match-answer.branch [
      | in-Ok-Refused w ↦ rw (w.recorder-is, w.recorder2-is, w.is_err-recorder.ensures.value) (λ history_open.
          let refusal = w.in-Ok-Refused.refusal in
          let is : ◌≡◌ {A = Result Response Unavailable} c.respond-answer.result (Ok (Refused refusal)) = search rules in
          let takes = rw (to_z-of_z w64 c.args.moment fits, w.cause_of.ensures) at w.take_back.ensures.takes in
          rw is (refused_ends {X = Unavailable} g.H.Store history w.take_back.new.history c.args.moment refusal w.take_back.result takes history_open))
      | in_default w ↦ rw (w.recorder-is, w.recorder2-is) (λ history_open. stays_ends c.args.moment these c.respond-answer.result w.is_done.result w.is_done.ensures.0 w.is_done.ensures.1)
    ]

pub returns-clause-lasts : goal.returns-clause-lasts
returns-clause-lasts g c = elim c.match-answer.branch [
  | in-Ok-Refused w ↦ rw w.recorder-is w.take_back.ensures.takes.appends.lasts
  | in_default w ↦ rw w.recorder-is (lasts_still g.H.Store c.args.recorder.now.history)
]

pub returns-clause-crash : goal.returns-clause-crash
returns-clause-crash g c = λ entry asks named.
    let store = c.args.desk.now.store in
    let new = c.respond-answer.new.self.store in
    let d = desk g.S.Store store in
    let request = c.args.request.now in
    let history = c.args.recorder.now.history in
    let responds = c.respond-answer.ensures.responds in
    let fits : FitsSigned w32 c.args.day = search rules in
    let day = c.args.day in
    let answers : IsOpen g.S.Store new → IsResponse {X = Unavailable} d day request c.respond-answer.result (desk g.S.Store new) = λ store_open.
    subst (λ on. IsResponse {X = Unavailable} d on request c.respond-answer.result (desk g.S.Store new)) (to_z-of_z w32 day fits) (responds.answers store_open) in
    elim c.match-answer.branch [
      | in-Ok-Refused w ↦ rw w.recorder-is (λ store_was history_was store_clean history_clean pending.
          let is : ◌≡◌ {A = Result Response Unavailable} c.respond-answer.result (Ok (Refused w.in-Ok-Refused.refusal)) = search rules in
          let ok : IsOk c.respond-answer.result = subst (λ (r : Result Response Unavailable). IsOk r) (sym is) refl in
          let open_then : IsOpen g.S.Store new = elim (responds.ends_open store_clean ok) [
            | inl o ↦ o
            | inr away ↦ absurd (named away.nobody)
          ] in
          let refused = subst (λ (r : Result Response Unavailable). IsResponse d day request r (desk g.S.Store new)) is (answers open_then) in
          let only = subst (LeavesOnly g.S.Store new) refused.1 (responds.durable open_then) in
          let takes = rw (to_z-of_z w64 c.args.moment c.ranges.moment) at w.take_back.ensures.takes in
          back_near g.S.Store g.H.Store new d history w.take_back.new.history entry c.args.moment w.cause_of.result w.take_back.result only pending c.requires.moment takes w.take_back.ensures.crash history_was history_clean)
      | in_default w ↦ rw w.recorder-is (λ store_was history_was store_clean history_clean pending.
          stays_near g.S.Store g.H.Store store new _ request history entry pending asks (responds.crash store_was store_clean) (c.between_calls.ensures.rest.leaves history_was))
    ]
