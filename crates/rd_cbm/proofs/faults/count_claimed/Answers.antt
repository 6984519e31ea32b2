use Rattle.std.proofs.Common.{◌∙◌, eqb-true, length, sym}
use Rattle.rd_cbm.proofs.TwoChains.{count_one}
use Rattle.rd_cbm.proofs.faults.count_claimed.Goals as goal

pub returns-then-is_empty : goal.returns-then-is_empty
returns-then-is_empty c = count_one c.args.contents.now c.args.sides.now c.requires.contents_once (eqb-true (length c.args.sides.now) 0 (sym c.is_empty.ensures ∙ c.if-is_empty.true))
