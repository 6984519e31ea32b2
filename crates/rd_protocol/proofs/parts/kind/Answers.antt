use Rattle.rd_protocol.proofs.PartLemmas.{kind_found}
use Rattle.rd_protocol.proofs.parts.kind.Goals as goal

pub returns : goal.returns
returns c = kind_found c.args.text.now c.from_word.result c.from_word.ensures.found c.from_word.ensures.none
