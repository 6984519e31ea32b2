use Rattle.std.proofs.Common.{arith, refl}
use Rattle.rd_cbm.proofs.CountLemmas.{count_skip, count_more}
use Rattle.rd_cbm.proofs.MapLemmas.{sectors_counted}
use Rattle.rd_cbm.proofs.TestLemmas.{refuted}
use Rattle.rd_cbm.proofs.map.count_free.Goals as goal

pub loop-sector-preserved-then-not-is_marked_free : goal.loop-sector-preserved-then-not-is_marked_free
loop-sector-preserved-then-not-is_marked_free c = count_skip _ _ _ c.loop-sector.invariant (λ free. refuted c.if-not-is_marked_free.ensures free)

pub loop-sector-preserved : goal.loop-sector-preserved
loop-sector-preserved c = count_more _ _ _ c.loop-sector.invariant (c.if-not-is_marked_free.ensures.0 refl)

pub returns : goal.returns
returns c = sectors_counted _ _ c.loop-sector.sector _ (omega arith) c.loop-sector.invariant
