use Rattle.std.proofs.Common.{◌∙◌, sym}
use Rattle.rd_history.proofs.laws.restores_lose_nothing.Goals as goal

pub returns : goal.returns
returns c = λ one other now first second. (first.deeds ∙ sym second.deeds, first.rules ∙ sym second.rules, first.keys ∙ sym second.keys, (λ acc. first.images acc ∙ sym (second.images acc)))
