use Rattle.rd_store.proofs.Common.{rules, ◌∙◌, IfOk-weaker, state}
use Rattle.rd_store.proofs.QueryResults.{image_found, rows_back}
use Rattle.rd_store.proofs.images.image_at.Goals as goal

pub returns : goal.returns
returns g c = record {
  asks = record {
    stays = c.image_rows.ensures.asks.stays;
    ends_open = search rules;
    fault = search rules;
    answer = λ is_open.
        let table = (state g.S.Store c.args.conn.now).now.trees 2 in
        let picks = c.in_ok-rows.ensures.asks.answer is_open in
        IfOk-weaker c.first_image.result _ _ (λ read is spells. is _ (c.deref.ensures.value ∙ image_found c.args.acc table _ spells picks) ∙ rows_back table c.args.acc) c.first_image.ensures.image;
  };
}
