use Rattle.std.proofs.Common.{◌≡◌, ◌+◌, ◌∷◌, length}
use Rattle.std.specs.List.{AllByRecursion}
use Rattle.rd_history.specs.Bases.{AreBaseLines}
use Rattle.rd_history.specs.Histories.{IsPut}
use Rattle.rd_history.specs.declared.entry.Change.TheVariants.{Begin}
use Rattle.rd_history.proofs.base.lines.Given as goal

abbrev pub invariant-loop-change : goal.invariant-loop-change
invariant-loop-change l = record {
  next : l.next ≡ l.fn.number + 1 + length l.yielded;
  lines : AreBaseLines l.fn.moment l.fn.note l.fn.number (Begin l.count ∷ l.yielded) l.lines.items;
  puts : AllByRecursion IsPut l.yielded;
}
