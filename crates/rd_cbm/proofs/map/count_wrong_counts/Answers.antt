use Rattle.std.proofs.Common.{arith, refl}
use Rattle.rd_cbm.proofs.CountLemmas.{count_skip, count_more}
use Rattle.rd_cbm.proofs.MapLemmas.{tracks_counted}
use Rattle.rd_cbm.proofs.TestLemmas.{refuted}
use Rattle.rd_cbm.proofs.map.count_wrong_counts.Goals as goal

pub loop-track-preserved-then-not-has_wrong_count : goal.loop-track-preserved-then-not-has_wrong_count
loop-track-preserved-then-not-has_wrong_count c = count_skip _ _ _ c.loop-track.invariant (λ wrong. refuted c.if-not-has_wrong_count.ensures wrong)

pub loop-track-preserved : goal.loop-track-preserved
loop-track-preserved c = count_more _ _ _ c.loop-track.invariant (c.if-not-has_wrong_count.ensures.0 refl)

pub returns : goal.returns
returns c = tracks_counted _ c.loop-track.track _ (omega arith) c.loop-track.invariant
