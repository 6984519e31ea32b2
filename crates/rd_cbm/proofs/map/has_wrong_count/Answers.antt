use Rattle.std.proofs.Common.{◌*◌, slice_index, nat_eq, ap}
use Rattle.std.proofs.lemmas.Bool.Decides.{Decides-eqb}
use Rattle.rd_cbm.proofs.MapLemmas.{wrong_as}
use Rattle.rd_cbm.proofs.TestLemmas.{not_by}
use Rattle.rd_cbm.proofs.map.has_wrong_count.Goals as goal

pub returns : goal.returns
returns c = wrong_as _ _ _ _ _ c.requires.first c.requires.last (ap (λ bytes. slice_index bytes (4 * c.args.track)) c.map_of.ensures.value) c.count_free.ensures
    (not_by (nat_eq (slice_index c.map_of.result.now (4 * c.args.track)) c.count_free.result) (Decides-eqb (slice_index c.map_of.result.now (4 * c.args.track)) c.count_free.result))
