use Rattle.std.proofs.Common.{◌≡◌, ◌∙◌, [], ◌∷◌, ap, append_assoc, arith, length}
use Rattle.std.specs.Vec.Iter.{into_iter_items}
use Rattle.rd_volume.specs.Tells.{TellsCbm}
use Rattle.rd_volume.proofs.ListLemmas.{told_more}
use Rattle.rd_volume.proofs.cbm.tell_files.Goals as goal

pub loop-file-preserved : goal.loop-file-preserved
loop-file-preserved c =
    let at = c.loop-file in
    let steps : into_iter_items at.file-iterator ≡ c.in-Some.file ∷ into_iter_items c.next.new.self = c.in-Some.ensures.steps.0 in
    record {
      left = append_assoc at.yielded (c.in-Some.file ∷ []) _ ∙ rw (← steps) at.invariant.left;
      count = let was = at.invariant.count in
          let gone = c.in-Some.ensures.steps.1 in
          let short = ap length steps in
          omega arith;
      described = rw c.in_ok-push.ensures.items (told_more TellsCbm _ _ _ _ at.invariant.described c.in_ok-tell.ensures);
    }
