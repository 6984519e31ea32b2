use Rattle.std.proofs.Common.{◌≡◌, map, take}
use Rattle.rd_store.specs.Held.{IsClean, IsOpen, Keeps, desk}
use Rattle.rd_desk.specs.StaffLists.{check_line}
use Rattle.rd_desk.proofs.staff_lists.checks_of.Given as goal

abbrev pub invariant-loop-entry : goal.invariant-loop-entry
invariant-loop-entry g l = record {
  keeps : Keeps g.S.Store l.fn.store l.store;
  open_if_clean : IsClean g.S.Store l.store → IsOpen g.S.Store l.store;
  lines : IsOpen g.S.Store l.store → l.lines.items ≡ map (λ entry. check_line (desk g.S.Store l.fn.store) entry.0) (take l.entry-index l.register);
}
