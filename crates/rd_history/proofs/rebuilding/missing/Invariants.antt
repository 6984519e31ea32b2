use Rattle.std.proofs.Common.{take}
use Rattle.rd_store.specs.Held.{IsClean, IsOpen, Keeps, desk}
use Rattle.rd_history.specs.Rebuilt.{AreMissing}
use Rattle.rd_history.proofs.rebuilding.missing.Given as goal

abbrev pub invariant-loop-change : goal.invariant-loop-change
invariant-loop-change g l = record {
  keeps : Keeps g.F.Store l.fn.source l.source;
  opens : (IsClean g.F.Store l.fn.source → IsOpen g.F.Store l.fn.source) → IsClean g.F.Store l.source → IsOpen g.F.Store l.source;
  missing : IsOpen g.F.Store l.source → AreMissing (desk g.F.Store l.fn.source) (take l.change-index l.changes) l.missing.items;
}
