use Rattle.std.proofs.Common.{inl, inr, rules, subst, w32}
use Rattle.std.proofs.lemmas.Int.{to_z-of_z}
use Rattle.rd_desk.specs.Calls.{MakesResponse}
use Rattle.rd_desk.proofs.OneChange.{reads_alone, reads_first}
use Rattle.rd_desk.proofs.ResponseLemmas.{does_respond, keeps_respond, known_still, still_open}
use Rattle.rd_desk.proofs.desk.response_to.Goals as goal

pub returns-clause-makes : goal.returns-clause-makes
returns-clause-makes g c =
    let old = c.args.store.now in
    let found = c.audience.new.store in
    let badge = c.args.request.now.badge in
    let known = known_still g.S.Store old found badge c.in_ok-audience.field-0 c.in-Some.audience c.audience.ensures.keeps c.in_ok-audience.ensures.answer c.in-Some.is in
    subst (λ day. MakesResponse g.S.Store old c.answer.new.store day c.args.request.now c.answer.result) (to_z-of_z w32 c.args.day c.ranges.day)
    (keeps_respond g.S.Store _ c.args.request.now c.answer.result old found c.answer.new.store c.audience.ensures.keeps
    (still_open g.S.Store old found badge c.in_ok-audience.ensures.ends_open (λ none. (c.audience.ensures.untouched none).1))
    (does_respond g.S.Store _ c.args.request.now c.answer.result found c.answer.new.store c.in-Some.audience known (search rules) c.between_calls.ensures
    c.answer.ensures.does))

pub returns-clause-ends_open : goal.returns-clause-ends_open
returns-clause-ends_open g c = λ given. elim c.answer.ensures.does [
  | inl question ↦ question.1.ends_open
  | inr command ↦ λ clean. command.1.stays_open
      (c.in_ok-audience.ensures.ends_open (λ none. given none command.0) (command.1.lasts.clean clean)) clean
]

pub returns-in_err-audience-clause-one_change : goal.returns-in_err-audience-clause-one_change
returns-in_err-audience-clause-one_change g c = reads_alone g.S.Store c.args.day _ _ c.args.store.now c.audience.new.store c.audience.ensures.keeps

pub returns-in_default-clause-one_change : goal.returns-in_default-clause-one_change
returns-in_default-clause-one_change g c = reads_alone g.S.Store c.args.day _ _ c.args.store.now c.audience.new.store c.audience.ensures.keeps

pub returns-then-not-may_ask-clause-one_change : goal.returns-then-not-may_ask-clause-one_change
returns-then-not-may_ask-clause-one_change g c = reads_alone g.S.Store c.args.day _ _ c.args.store.now c.audience.new.store c.audience.ensures.keeps

pub returns-clause-one_change : goal.returns-clause-one_change
returns-clause-one_change g c =
    let old = c.args.store.now in
    let found = c.audience.new.store in
    let day = to_z-of_z w32 c.args.day c.ranges.day in
    reads_first g.S.Store c.args.day _ _ old found c.answer.new.store c.audience.ensures.keeps
    (still_open g.S.Store old found c.args.request.now.badge c.in_ok-audience.ensures.ends_open (λ none. (c.audience.ensures.untouched none).1))
    (rw day at c.answer.ensures.one_change)
