use Rattle.std.proofs.Common.{◌*◌}
use Rattle.rd_store.specs.Held.{IsClean, IsOpen, Keeps, desk}
use Rattle.rd_desk.proofs.BatchLemmas.{accs_before}
use Rattle.rd_desk.proofs.overviews.over_batches.Given as goal

abbrev pub invariant-loop-at : goal.invariant-loop-at
invariant-loop-at g l = record {
  keeps : Keeps g.S.Store l.fn.store l.store;
  open_if_clean : IsClean g.S.Store l.store → IsOpen g.S.Store l.store;
  said : IsOpen g.S.Store l.store → g.O.Overview.says l.overview (desk g.S.Store l.fn.store) (accs_before (desk g.S.Store l.fn.store) (16 * l.at)) l.lines.items;
}
