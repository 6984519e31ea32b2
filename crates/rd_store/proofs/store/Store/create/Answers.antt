use Rattle.rd_store.proofs.Common.{◌≡◌, ◌∙◌, ap, length, refl, rules, sym, IsBlank, HoldsDesk, state, register_of, Desk}
use Rattle.rd_tables.proofs.ConnectionLaws.{Laws, same_commit}
use Rattle.rd_store.proofs.Registers.{register_empty}
use Rattle.rd_store.proofs.CreationLemmas.{rests_new, made_or_old, only_new}
use Rattle.rd_store.proofs.store.Store.create.Goals as goal

pub invariant_of-result : goal.invariant_of-result
invariant_of-result g c =
    let laws : Laws g.S.Store = record { settles = g.met.S.Store.settled; shuts = g.met.S.Store.shut_if_dirty } in
    let long : length c.args.staff.now ≡ 32 = c.told-staff in (
      λ is_open. rests_new g.S.Store laws c.args.conn c.write_desk.new.conn c.args.staff.now long (c.in-Ok.ensures.turns.ok is_open),
      λ is_open. c.empty.ensures ∙ register_empty ∙ ap (λ (d : Desk). register_of d.images) (sym (c.in-Ok.ensures.turns.ok is_open).holds.is),
      λ is_open. tt,
    )

pub returns-in-Ok-clause-created : goal.returns-in-Ok-clause-created
returns-in-Ok-clause-created g c =
    let laws : Laws g.S.Store = record { settles = g.met.S.Store.settled; shuts = g.met.S.Store.shut_if_dirty } in
    let long : length c.args.staff.now ≡ 32 = c.told-staff in
    let turns = c.in-Ok.ensures.turns in
    let holds : HoldsDesk (state g.S.Store c.write_desk.new.conn) = λ o. rests_new g.S.Store laws c.args.conn c.write_desk.new.conn c.args.staff.now long (turns.ok o) in
    record {
      lasts = turns.lasts;
      blank = search rules;
      is = λ o. (turns.ok o).holds.is;
      ends_open = turns.ends_open;
      crash = made_or_old g.S.Store laws c.args.conn c.write_desk.new.conn c.args.staff.now long _ turns;
      durable = only_new g.S.Store laws c.args.conn c.write_desk.new.conn c.args.staff.now long holds (λ o. (turns.ok o).holds.is);
    }

pub returns-in-Err-clause-refused : goal.returns-in-Err-clause-refused
returns-in-Err-clause-refused g c =
    let laws : Laws g.S.Store = record { settles = g.met.S.Store.settled; shuts = g.met.S.Store.shut_if_dirty } in
    let long : length c.args.staff.now ≡ 32 = c.told-staff in
    let turns = c.in-Err.ensures.turns in
    record {
      lasts = turns.lasts;
      exists = search rules;
      same = search rules;
      occupied = λ stands. let blank : IsBlank c.args.conn.schema = search rules in absurd (stands blank);
      untouched = search rules;
      durable = λ o. same_commit g.S.Store laws g.met.S.Store.stays c.args.conn c.write_desk.new.conn o ((turns.err o).settled ∙ (turns.err o).holds ∙ c.if-not-is_autocommit.ensures.settled refl (turns.lasts.was_open o));
      crash = made_or_old g.S.Store laws c.args.conn c.write_desk.new.conn c.args.staff.now long _ turns;
    }
