use Rattle.rd_chain.proofs.Common.{rules, state, sym, HoldsChain}
use Rattle.std.proofs.Common.{ap, not, ◌∙◌}
use Rattle.rd_tables.proofs.ConnectionLaws.{Laws}
use Rattle.rd_chain.proofs.Laws.{keeps_of, leaves_only, stays_chain}
use Rattle.rd_chain.proofs.chain.Chain.open.Goals as goal

pub returns-in-Ok-clause-opened : goal.returns-in-Ok-clause-opened
returns-in-Ok-clause-opened g c =
    let laws : Laws g.S.Store = record { settles = g.met.S.Store.settled; shuts = g.met.S.Store.shut_if_dirty } in
    let old = c.args.conn in
    let new = c.judge.new.conn in
    let judges = c.in-Ok.ensures.judges in
    let stays = judges.stays in
    let holds : HoldsChain (state g.S.Store new) = λ is_open. stays_chain g.S.Store old new stays (λ was. record { settled = sym (c.is_autocommit-outside.ensures.settled (c.is_autocommit-outside.ensures.value ∙ ap not c.requires.outside) was); autocommit = c.requires.outside; holds = (judges.ok is_open).0 }) is_open in
    record {
      keeps = keeps_of g.S.Store old new stays (λ was. c.requires.outside);
      schema = search rules;
      holds = λ is_open. (judges.ok is_open).0;
      ends_open = judges.ends_open;
      durable = leaves_only g.S.Store laws new holds;
    }
