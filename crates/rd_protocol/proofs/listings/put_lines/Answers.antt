use Rattle.rd_protocol.specs.Texts.{line_data}
use Rattle.rd_protocol.proofs.TokenLemmas.{one, values_end, values_next}
use Rattle.rd_protocol.proofs.listings.put_lines.Goals as goal

pub loop-line-init : goal.loop-line-init
loop-line-init c = one _ _ _ _ c.in_ok-begin_array.ensures

pub loop-line-preserved : goal.loop-line-preserved
loop-line-preserved c = values_next _ _ _ (line_data c.args.kind) c.args.lines.now c.loop-line.line-index _ c.loop-line-test.true c.line-item.is c.loop-line.invariant c.in_ok-put_line.ensures

pub returns : goal.returns
returns c = values_end _ _ _ _ (line_data c.args.kind) c.args.lines.now c.loop-line.line-index c.loop-line-test.false c.loop-line.invariant c.end_array.ensures
