use Rattle.rd_store.proofs.Common.{rules, ◌∙◌, IfOk-weaker, state}
use Rattle.rd_store.proofs.QueryResults.{marks_found}
use Rattle.rd_store.proofs.marks.marks_at.Goals as goal

pub returns : goal.returns
returns g c = record {
  asks = record {
    stays = c.marks_rows.ensures.asks.stays;
    ends_open = search rules;
    fault = search rules;
    answer = λ is_open.
        let table = (state g.S.Store c.args.conn.now).now.trees 11 in
        let picks = c.in_ok-rows.ensures.asks.answer is_open in
        IfOk-weaker c.first_marks.result _ _ (λ read is spells. is _ (c.deref.ensures.value ∙ marks_found c.args.acc table _ spells picks)) c.first_marks.ensures.marks;
  };
}
