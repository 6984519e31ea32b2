use Rattle.std.proofs.Common.{◌≡◌, map}
use Rattle.rd_store.specs.Held.{IsClean, IsOpen, Keeps, desk}
use Rattle.rd_desk.specs.StaffLists.{deed_line_of}
use Rattle.rd_desk.proofs.staff_lists.all_deeds.Given as goal

abbrev pub invariant-loop-entry : goal.invariant-loop-entry
invariant-loop-entry g l = record {
  keeps : Keeps g.S.Store l.initial.store l.store;
  open_if_clean : IsClean g.S.Store l.store → IsOpen g.S.Store l.store;
  lines_are : IsOpen g.S.Store l.store → l.lines.items ≡ map (deed_line_of (desk g.S.Store l.initial.store) l.register.items) l.yielded;
}
