use Rattle.std.proofs.Common.{◌≡◌, ◌∙◌, ap, pos, sym}
use Rattle.std.proofs.lemmas.Result.{IfOk-weaker}
use Rattle.rd_messages.specs.PathDays.{day_found, day_of_date}
use Rattle.rd_messages.specs.PathValues.{day_in, parts_in, value_at}
use Rattle.rd_messages.proofs.values.day_in_path.Goals as goal

pub returns-in-Some : goal.returns-in-Some
returns-in-Some c =
    let date = c.in-Some.date.now in
    let dated : day_in (parts_in c.args.params.now) ≡ day_of_date date = ap (λ part. value_at part day_of_date (pos 0)) (c.in-Some.ensures c.requires) in
    IfOk-weaker c.day_of.result _ _ (λ found is. day_found date found is ∙ sym dated) c.day_of.ensures
