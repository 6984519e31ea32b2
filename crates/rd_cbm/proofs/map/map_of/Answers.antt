use Rattle.std.proofs.Common.{◌∙◌, sym}
use Rattle.rd_cbm.proofs.MapLemmas.{map_block}
use Rattle.rd_cbm.proofs.map.map_of.Goals as goal

pub returns-clause-value : goal.returns-clause-value
returns-clause-value c = c.unit.ensures.value ∙ sym (map_block _)
