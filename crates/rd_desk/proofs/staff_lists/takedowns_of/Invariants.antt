use Rattle.std.proofs.Common.{◌≡◌, take}
use Rattle.std.specs.List.{flat_map}
use Rattle.rd_store.specs.Held.{IsClean, IsOpen, Keeps, desk}
use Rattle.rd_desk.specs.StaffLists.{takedown_lines_at}
use Rattle.rd_desk.proofs.staff_lists.takedowns_of.Given as goal

abbrev pub invariant-loop-entry : goal.invariant-loop-entry
invariant-loop-entry g l = record {
  keeps : Keeps g.S.Store l.fn.store l.store;
  open_if_clean : IsClean g.S.Store l.store → IsOpen g.S.Store l.store;
  lines : IsOpen g.S.Store l.store → l.lines.items ≡ flat_map (λ entry. takedown_lines_at (desk g.S.Store l.fn.store) entry.0) (take l.entry-index l.register);
}
