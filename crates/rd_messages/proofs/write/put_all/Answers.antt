use Rattle.std.proofs.Common.{◌∙◌, arith, length-drop, length-take-le, ℕ}
use Rattle.std.proofs.lemmas.Grind.{common_steps}
use Rattle.rd_messages.proofs.SentBytes.{sent_more}
use Rattle.rd_messages.proofs.write.put_all.Goals as goal

pub loop-sent-preserved : goal.loop-sent-preserved
loop-sent-preserved g c =
    let at = c.loop-sent.invariant in
    let put = c.in_ok-count.ensures in
    record {
      within = omega (arith, put.bound, length-take-le {A = ℕ}, length-drop {A = ℕ});
      sends = sent_more _ _ _ c.args.bytes.now c.loop-sent.sent c.in_ok-count.count at.within at.sends put.bytes;
      ready = grind (arith, common_steps);
      kept = put.kept ∙ at.kept;
      came = put.came ∙ at.came;
      reads_unchanged = put.reads_unchanged ∙ at.reads_unchanged;
    }
