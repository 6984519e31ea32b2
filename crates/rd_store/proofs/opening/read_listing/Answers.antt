use Rattle.rd_store.proofs.Common.{rules, [], sym, subst, state, Shown, AreRising, shown_was_open, IsReadable, listing_text}
use Rattle.rd_store.proofs.Listings.{listing_reads, listing_picks}
use Rattle.rd_store.proofs.opening.read_listing.Goals as goal

pub read_over-requires : goal.read_over-requires
read_over-requires g c = record {
  readable = λ is_open.
      let old = state g.S.Store c.args.conn.now in
      subst (λ text. IsReadable text old) (sym c.listing_text.ensures) (listing_reads c.args.table old c.requires.tables is_open);
}

pub returns-in-Ok-clause-asks : goal.returns-in-Ok-clause-asks
returns-in-Ok-clause-asks g c = record {
  stays = c.read_over.ensures.asks.stays;
  ends_open = search rules;
  fault = tt;
  answer = λ is_open.
      let old = state g.S.Store c.args.conn.now in
      let new = state g.S.Store c.read_over.new.conn in
      let shown = subst (λ text. Shown text [] old new c.in-Ok.rows.items) c.listing_text.ensures (c.in-Ok.ensures.asks.answer is_open) in
      record {
        picks = listing_picks c.args.table old new c.requires.tables (shown_was_open (listing_text c.args.table) [] old new c.in-Ok.rows.items shown) c.in-Ok.rows.items shown;
        rising = subst AreRising c.deref.ensures.value c.if-are_rising.ensures;
      };
}

pub returns-in-Ok-clause-rising : goal.returns-in-Ok-clause-rising
returns-in-Ok-clause-rising g c = subst AreRising c.deref.ensures.value c.if-are_rising.ensures
