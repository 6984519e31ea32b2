use Rattle.rd_store.proofs.Common.{rules, subst, sym, state, AreRising, AreBatchOf}
use Rattle.rd_store.proofs.ImageWalks.{batch_of}
use Rattle.rd_store.proofs.image_walk.next_images.Goals as goal

pub next_rows-requires : goal.next_rows-requires
next_rows-requires g c = record { tables = c.requires.tables }

pub returns-in-Ok : goal.returns-in-Ok
returns-in-Ok g c = record {
  asks = record {
    stays = c.next_rows.ensures.asks.stays;
    ends_open = search rules;
    fault = tt;
    answer = λ is_open.
        let trees = (state g.S.Store c.args.conn.now).now.trees in
        subst (AreBatchOf c.args.after trees) (sym c.truncate.ensures.items) (batch_of c.args.after trees c.in-Ok.rows.items (c.in-Ok.ensures.asks.answer is_open) (subst AreRising c.deref.ensures.value c.if-are_rising.ensures));
  };
}
