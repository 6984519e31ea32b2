use Rattle.std.proofs.Common.{◌≡◌, map, take}
use Rattle.rd_desk.specs.StaffLists.{key_line}
use Rattle.rd_desk.proofs.staff_lists.lines_of.Given as goal

abbrev pub invariant-loop-key : goal.invariant-loop-key
invariant-loop-key l = l.lines.items ≡ map key_line (take l.key-index l.keys)
