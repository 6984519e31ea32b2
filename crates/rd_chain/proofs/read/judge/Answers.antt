use Rattle.rd_chain.proofs.Common.{◌≡◌, ◌∙◌, ap, subst, sym, state, AreRowsOfLines, end_of, lines_in}
use Rattle.rd_chain.proofs.Reading.{chain_read, no_chain_read}
use Rattle.rd_chain.proofs.Transactions.{chain_is}
use Rattle.rd_chain.proofs.read.judge.Goals as goal

pub returns-in-Some : goal.returns-in-Some
returns-in-Some g c =
    let old = state g.S.Store c.args.conn.now in
    let asks = c.in-Ok.ensures.asks in
    let rows = c.in-Ok.rows.items in
    let are = subst (λ rows. AreRowsOfLines rows × (c.in-Some.end ≡ end_of (lines_in rows))) c.deref.ensures.value c.in-Some.ensures in
    record {
      judges = record {
        stays = asks.stays;
        ok = λ is_open.
            let was = asks.stays.lasts.was_open is_open in
            let it = chain_is (lines_in rows) old.now (chain_read old.now rows (c.requires.rests was).schema (c.requires.sound was) (asks.answer is_open) are.0) in
            (it.0, are.1 ∙ ap end_of (sym it.1));
        broken = λ is_open. tt;
        named = tt;
        ends_open = asks.ends_open;
        refuses = λ clean. tt;
      };
    }

pub returns : goal.returns
returns g c =
    let old = state g.S.Store c.args.conn.now in
    let asks = c.in-Ok.ensures.asks in
    let rows = c.in-Ok.rows.items in
    record {
      judges = record {
        stays = asks.stays;
        ok = λ is_open. tt;
        broken = λ is_open is. no_chain_read old.now rows (asks.answer is_open) (subst (λ rows. ¬ AreRowsOfLines rows) c.deref.ensures.value c.in-None.ensures);
        named = λ is. absurd cc;
        ends_open = λ clean. tt;
        refuses = λ clean is. asks.ends_open clean;
      };
    }
