use Rattle.std.proofs.Common.{◌≡◌, ◌++◌, ℕ, All, List}
use Rattle.rd_holdings.specs.State.{Desk, all_rules}
use Rattle.rd_desk.specs.Calls.{StandsAs}
use Rattle.rd_desk.proofs.BatchLemmas.{numbers_of}
use Rattle.rd_desk.proofs.overviews.with_batch.Given as goal

-- after the given lines are those of the accessions so far
abbrev pub invariant-loop-one : goal.invariant-loop-one
invariant-loop-one g l = (desk : Desk) (accs : List ℕ) → l.rules ≡ all_rules desk → All (StandsAs desk) l.yielded → g.O.Overview.says l.overview desk accs l.fn.lines.items
    → g.O.Overview.says l.overview desk (accs ++ numbers_of l.yielded) l.all.items
