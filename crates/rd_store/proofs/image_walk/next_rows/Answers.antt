use Rattle.rd_store.proofs.Common.{ℕ, Option, IfOk, subst, sym, state, AreNextOf}
use Rattle.rd_store.proofs.image_walk.next_rows.Goals as goal

pub returns-in-Some : goal.returns-in-Some
returns-in-Some g c = record {
  asks = record {
    stays = c.later_rows.ensures.asks.stays;
    ends_open = c.later_rows.ensures.asks.ends_open;
    fault = c.later_rows.ensures.asks.fault;
    answer = λ is_open. subst (λ (after : Option ℕ). IfOk c.later_rows.result (λ rows. AreNextOf after (state g.S.Store c.args.conn.now).now.trees rows.items)) (sym c.in-Some.is) (c.later_rows.ensures.asks.answer is_open);
  };
}

pub returns-in-None : goal.returns-in-None
returns-in-None g c = record {
  asks = record {
    stays = c.first_rows.ensures.asks.stays;
    ends_open = c.first_rows.ensures.asks.ends_open;
    fault = c.first_rows.ensures.asks.fault;
    answer = λ is_open. subst (λ (after : Option ℕ). IfOk c.first_rows.result (λ rows. AreNextOf after (state g.S.Store c.args.conn.now).now.trees rows.items)) (sym c.in-None.is) (c.first_rows.ensures.asks.answer is_open);
  };
}
