use Rattle.std.proofs.Common.{subst, sym, w32}
use Rattle.std.proofs.lemmas.Int.{to_z-of_z}
use Rattle.rd_protocol.specs.Rehearsals.{IsRehearsal}
use Rattle.rd_protocol.specs.Replies.{carried_out}
use Rattle.rd_protocol.specs.declared.request.What.TheVariants.{PutRule, RehearseRule}
use Rattle.rd_store.specs.Held.{desk}
use Rattle.rd_desk.proofs.ListLemmas.{carries_read}
use Rattle.rd_desk.proofs.RehearsalLemmas.{rule_accepted}
use Rattle.rd_desk.proofs.rehearsals.rehearse_rule.Goals as goal

pub returns-in-Some-clause-carries : goal.returns-in-Some-clause-carries
returns-in-Some-clause-carries g c = λ visited.
    carries_read g.S.Store c.args.store.now c.rehearsed.new.store visited (RehearseRule c.args.day c.args.rule.now) _ c.rehearsed.ensures.keeps (λ clean. c.in_ok-lines.ensures.ends_open clean) (λ o.
    let d = desk g.S.Store c.args.store.now in
    let found = rw c.in-Some.is at (c.in_ok-lines.ensures.answer o) in
    let lines = subst (λ on. IsRehearsal d (carried_out visited (PutRule c.args.rule.now) d) on c.in-Some.lines.items) (to_z-of_z w32 c.args.day c.ranges.day) found.1 in
    (rule_accepted d c.args.day c.args.rule.now found.0, subst (IsRehearsal d (carried_out visited (PutRule c.args.rule.now) d) c.args.day) (sym c.of.ensures) lines, c.rehearsed.ensures.keeps.same o))
