use Rattle.rd_program.proofs.CompletingLemmas.{is_whole}
use Rattle.rd_program.proofs.completing.completed.Goals as goal

pub returns : goal.returns
returns c = λ files input are.
    is_whole files input c.args.parsed _ c.args.operands.now.zone c.keyed.result c.zoned-with_both.result c.dated.result are c.keyed.ensures c.zoned-with_both.ensures c.dated.ensures
