use Rattle.std.proofs.Common.{take}
use Rattle.rd_store.specs.Held.{IsClean, IsOpen, Keeps, Lasts, desk}
use Rattle.rd_history.specs.Rebuilt.{AreWhole}
use Rattle.rd_history.specs.Replayed.{standing_with}
use Rattle.rd_history.specs.Settled.{StandsAs}
use Rattle.rd_history.specs.Standings.{Standing}
use Rattle.rd_history.proofs.rebuilding.carry_out_all.Given as goal

abbrev pub invariant-loop-change : goal.invariant-loop-change
invariant-loop-change g l = record {
  source : Keeps g.F.Store l.fn.source l.source;
  source_opens : (IsClean g.F.Store l.fn.source → IsOpen g.F.Store l.fn.source) → IsClean g.F.Store l.source → IsOpen g.F.Store l.source;
  lasts : Lasts g.S.Store l.fn.store l.store;
  opens : (IsClean g.S.Store l.fn.store → IsOpen g.S.Store l.fn.store) → IsClean g.S.Store l.store → IsOpen g.S.Store l.store;
  stands : IsOpen g.S.Store l.store → (now : Standing) → StandsAs (desk g.S.Store l.fn.store) now → StandsAs (desk g.S.Store l.store) (standing_with now (take l.change-index l.changes));
  whole : IsOpen g.S.Store l.store → AreWhole (desk g.S.Store l.fn.store) → AreWhole (desk g.S.Store l.store);
}
