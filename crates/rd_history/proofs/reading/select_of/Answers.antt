use Rattle.std.proofs.Common.{◌∙◌, ap}
use Rattle.std.proofs.lemmas.Result.{IfOk-weaker}
use Rattle.rd_history.specs.Reading.{first_member}
use Rattle.rd_history.proofs.ReadingLemmas.{select_single}
use Rattle.rd_history.proofs.reading.select_of.Goals as goal

pub returns : goal.returns
returns c =
    IfOk-weaker c.select_by.result _ _
    (λ read reads select is same. reads select is (c.member_of.ensures ∙ ap first_member same ∙ select_single select))
    c.select_by.ensures
