use Rattle.rd_store.proofs.Common.{rules, ◌∙◌, ap, map, subst, sym, get, IfOk-weaker, Sql, Asks, Reads, desk, AreFilesIn, file_in}
use Rattle.rd_store.proofs.ReadLemmas.{reads_of}
use Rattle.rd_store.proofs.IndexQueries.{files_found}
use Rattle.rd_tables.proofs.ConnectionLaws.{Laws}
use Rattle.rd_store.proofs.Orders.{files_back}
use Rattle.rd_store.proofs.store.Store.found.Goals as goal

pub returns-clause-reads : goal.returns-clause-reads
returns-clause-reads g c =
    let laws : Laws g.S.Store = record { settles = g.met.S.Store.settled; shuts = g.met.S.Store.shut_if_dirty } in
    let old = c.self.inside.conn in
    let new = c.file_rows.new.conn in
    let images = (desk g.S.Store old).images in
    let asks : Asks g.S.Store old new c.read_files.result Sql (λ files. AreFilesIn (get images c.args.acc) files.items) = record {
      stays = c.file_rows.ensures.asks.stays;
      ends_open = search rules;
      fault = search rules;
      answer = λ is_open.
          let at = c.self.invariant.0 (c.file_rows.ensures.asks.stays.lasts.was_open is_open) in
          let it = files_found (get images c.args.acc) _ _ c.args.acc at.holds.of.rows.files (at.holds.of.index c.args.acc) (c.in_ok-rows.ensures.asks.answer is_open) in
          IfOk-weaker c.read_files.result _ _ (λ files is. subst (AreFilesIn (get images c.args.acc)) (sym (is ∙ ap (map file_in) (c.deref.ensures.value ∙ it.2) ∙ files_back it.0)) it.1) c.read_files.ensures.files;
    } in
    subst (λ h. Reads g.S.Store h new c.read_files.result (λ files. AreFilesIn (get (desk g.S.Store h).images c.args.acc) files.items)) c.self.view_is (reads_of g.S.Store laws old new c.self.invariant.0 asks)
