use Rattle.std.proofs.Common.{◌≡◌, ◌∙◌, ap, arith, FitsSigned, w32, w64}
use Rattle.std.proofs.lemmas.Int.{to_z-of_z, ints}
use Rattle.jiff.specs.Words.{epoch_day}
use Rattle.rd_policy.proofs.date.date_text.Goals as goal

pub returns-in-Ok-to_string : goal.returns-in-Ok-to_string
returns-in-Ok-to_string c =
    let day : FitsSigned w32 c.args.day = c.ranges.day in
    let wide : c.from.result ≡ c.args.day = simp to_z-of_z at c.from.ensures in
    let fits : FitsSigned w64 c.from.result = omega (arith, ints) in
    let number : epoch_day c.in-Ok.date ≡ c.from.result = simp to_z-of_z at c.in-Ok.ensures.value in
    record {
      date = c.from_plain.result;
      number = ap epoch_day c.from_plain.ensures ∙ number ∙ wide;
      in_range = c.requires;
      written = c.in-Ok-to_string.ensures.ok;
    }
