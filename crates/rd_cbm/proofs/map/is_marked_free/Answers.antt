use Rattle.std.proofs.Common.{rules, ◌≤◌, ◌<◌, arith, sym}
use Rattle.rd_cbm.proofs.MapLemmas.{track_bound}
use Rattle.rd_cbm.proofs.map.is_marked_free.Goals as goal

pub bounds-map_of-track : goal.bounds-map_of-track
bounds-map_of-track c =
    let low : c.args.track ≤ 35 = track_bound _ _ _ (sym c.in-Some.ensures.index) in
    let byte : c.args.sector < 256 = search rules in
    omega (arith, c.map_of.ensures.sized)
