use Rattle.rd_store.proofs.Common.{◌∙◌, ap, drop, rules, subst, take, entries, AllZip, IfOk-weaker, state, Sql, IsIndexed, Asks, Reads, desk, index_of}
use Rattle.rd_store.proofs.ReadLemmas.{reads_of}
use Rattle.rd_store.proofs.BatchQueries.{batch_told}
use Rattle.rd_tables.proofs.ConnectionLaws.{Laws}
use Rattle.rd_store.proofs.store.Store.batch.Goals as goal

pub returns-clause-reads : goal.returns-clause-reads
returns-clause-reads g c =
    let laws : Laws g.S.Store = record { settles = g.met.S.Store.settled; shuts = g.met.S.Store.shut_if_dirty } in
    let old = c.self.inside.conn in
    let new = c.batch_rows.new.conn in
    let images = (desk g.S.Store old).images in
    let asks : Asks g.S.Store old new c.index_each.result Sql (λ batch. AllZip IsIndexed (take c.args.most (drop c.args.from (entries images))) batch.items) = record {
      stays = c.batch_rows.ensures.asks.stays;
      ends_open = search rules;
      fault = search rules;
      answer = λ is_open.
          let was = c.batch_rows.ensures.asks.stays.lasts.was_open is_open in
          let at = c.self.invariant.0 was in
          let heads = c.part-entries.ensures ∙ ap (λ l. take c.args.most (drop c.args.from l)) (c.self.invariant.1 was) in
          let shown = c.deref.ensures.value ∙ c.in_ok-rows.ensures.asks.answer is_open in
          IfOk-weaker c.index_each.result _ _ (λ batch zip.
          batch_told images (index_of (state g.S.Store old).now.trees) at.holds.of.index c.bounds-first.result.0 c.bounds-first.result.1 _ shown c.args.from c.args.most _ batch.items heads c.bounds-first.ensures zip) c.index_each.ensures.each;
    } in
    subst (λ h. Reads g.S.Store h new c.index_each.result (λ batch. AllZip IsIndexed (take c.args.most (drop c.args.from (entries (desk g.S.Store h).images))) batch.items)) c.self.view_is (reads_of g.S.Store laws old new c.self.invariant.0 asks)
