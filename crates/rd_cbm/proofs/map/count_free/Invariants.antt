use Rattle.rd_geometry.specs.CbmDisks.{cbm_bytes}
use Rattle.rd_cbm.specs.BlockMap.{IsMarkedFree}
use Rattle.rd_cbm.proofs.CountLemmas.{IsCountBelow}
use Rattle.rd_cbm.proofs.map.count_free.Given as goal

abbrev pub invariant-loop-sector : goal.invariant-loop-sector
invariant-loop-sector l = IsCountBelow (IsMarkedFree (cbm_bytes l.disk) l.track) l.sector l.count
