use Rattle.rd_store.proofs.Common.{◌∙◌, sym}
use Rattle.rd_store.proofs.copying.read_image.Goals as goal

pub returns-clause-reads : goal.returns-clause-reads
returns-clause-reads g c = record {
  keeps = c.in-Ok.ensures.reads.keeps;
  answer = λ is_open. sym (c.in-Ok.ensures.reads.answer is_open) ∙ c.in-Some.is;
  ends_open = c.in-Ok.ensures.reads.ends_open;
}
