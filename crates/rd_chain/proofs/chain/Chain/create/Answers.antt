use Rattle.rd_chain.proofs.Common.{[], ◌∙◌, ap, rules, subst, sym, HoldsChain, LeavesOnly, end_of, state}
use Rattle.std.proofs.Common.{not}
use Rattle.rd_tables.proofs.ConnectionLaws.{Laws, same_commit}
use Rattle.rd_chain.proofs.Laws.{leaves_only}
use Rattle.rd_chain.proofs.Transactions.{made_or_old, rests}
use Rattle.rd_chain.proofs.chain.Chain.create.Goals as goal

pub invariant_of-result : goal.invariant_of-result
invariant_of-result g c =
    let laws : Laws g.S.Store = record { settles = g.met.S.Store.settled; shuts = g.met.S.Store.shut_if_dirty } in
    let turns = c.in-Ok.ensures.turns in (
      λ is_open. (rests g.S.Store laws c.args.conn c.write_table.new.conn [] (turns.ok is_open)).0,
      λ is_open. c.start.ensures ∙ ap end_of (sym (rests g.S.Store laws c.args.conn c.write_table.new.conn [] (turns.ok is_open)).1),
    )

pub returns-in-Ok-clause-created : goal.returns-in-Ok-clause-created
returns-in-Ok-clause-created g c =
    let laws : Laws g.S.Store = record { settles = g.met.S.Store.settled; shuts = g.met.S.Store.shut_if_dirty } in
    let new = c.write_table.new.conn in
    let turns = c.in-Ok.ensures.turns in
    let holds : HoldsChain (state g.S.Store new) = λ o. (rests g.S.Store laws c.args.conn new [] (turns.ok o)).0 in
    record {
      lasts = turns.lasts;
      blank = search rules;
      empty = λ o. (rests g.S.Store laws c.args.conn new [] (turns.ok o)).1;
      ends_open = turns.ends_open;
      crash = made_or_old g.S.Store laws c.args.conn new [] _ turns;
      durable = λ o. subst (LeavesOnly g.S.Store new) (rests g.S.Store laws c.args.conn new [] (turns.ok o)).1 (leaves_only g.S.Store laws new holds o);
    }

pub returns-in-Err-clause-refused : goal.returns-in-Err-clause-refused
returns-in-Err-clause-refused g c =
    let laws : Laws g.S.Store = record { settles = g.met.S.Store.settled; shuts = g.met.S.Store.shut_if_dirty } in
    let turns = c.in-Err.ensures.turns in
    record {
      lasts = turns.lasts;
      occupied = search rules;
      blank = search rules;
      same = search rules;
      untouched = search rules;
      durable = λ o. same_commit g.S.Store laws g.met.S.Store.stays c.args.conn c.write_table.new.conn o ((turns.err o).settled ∙ (turns.err o).holds ∙ c.is_autocommit-outside.ensures.settled (c.is_autocommit-outside.ensures.value ∙ ap not c.requires.outside) (turns.lasts.was_open o));
      crash = made_or_old g.S.Store laws c.args.conn c.write_table.new.conn [] _ turns;
    }
