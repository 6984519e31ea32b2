use Rattle.rd_geometry.specs.CbmDisks.{cbm_bytes}
use Rattle.rd_cbm.specs.BlockMap.{HasWrongCount}
use Rattle.rd_cbm.proofs.CountLemmas.{IsCountBelow}
use Rattle.rd_cbm.proofs.map.count_wrong_counts.Given as goal

abbrev pub invariant-loop-track : goal.invariant-loop-track
invariant-loop-track l = IsCountBelow (HasWrongCount (cbm_bytes l.disk)) l.track l.count
