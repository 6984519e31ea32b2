use Rattle.std.proofs.Common.{rules, ◌≡◌, ◌∙◌, true≢false, sym, ap, subst, arith, FitsSigned, w32, to_z, of_z}
use Rattle.std.proofs.lemmas.Bool.{iff_false}
use Rattle.std.proofs.lemmas.Int.{to_z-of_z, ints}
use Rattle.std.proofs.lemmas.Slice.Eq.{bytes_eq-Decides}
use Rattle.jiff.specs.Words.{epoch_day}
use Rattle.rd_policy.specs.Days.{IsDay}
use Rattle.rd_policy.proofs.DateLemmas.{parse_date-IsDateOf, read_date}
use Rattle.rd_policy.proofs.date.date_read.Goals as goal

pub returns-in_default-clause-bad : goal.returns-in_default-clause-bad
returns-in_default-clause-bad c = λ bad day is. cc (c.in_default.ensures.value ∙ parse_date-IsDateOf day c.args.text.now is)

pub returns-then-not-is_day-clause-bad : goal.returns-then-not-is_day-clause-bad
returns-then-not-is_day-clause-bad c = λ bad day is.
    let fits : FitsSigned w32 c.to_unix_epoch_day-day.result = search rules in
    let read = read_date c.in-Ok.date c.args.text.now c.in-Ok.ensures.value day is in
    let same : day ≡ to_z w32 (of_z w32 c.to_unix_epoch_day-day.result) =
    sym (to_z-of_z w32 c.to_unix_epoch_day-day.result fits ∙ c.to_unix_epoch_day-day.ensures.value ∙ ap epoch_day c.to_plain.ensures ∙ read.number) in
    let in_range = subst IsDay same is.in_range in
    search (rules, c.is_day.ensures.1 in_range, iff_false)

pub returns-then-eq-clause-day : goal.returns-then-eq-clause-day
returns-then-eq-clause-day c =
    let fits : FitsSigned w32 c.to_unix_epoch_day-day.result = omega (arith, ints) in
    let read = (bytes_eq-Decides c.as_str.result.now c.args.text.now).0 (sym c.if-eq.ensures) in
    record {
      date = c.in-Ok.date;
      number = sym (to_z-of_z w32 c.to_unix_epoch_day-day.result fits ∙ c.to_unix_epoch_day-day.ensures.value ∙ ap epoch_day c.to_plain.ensures);
      in_range = search rules;
      written = sym read ∙ c.as_str.ensures.value ∙ c.in-Ok-to_string.ensures.ok;
    }

pub returns-clause-bad : goal.returns-clause-bad
returns-clause-bad c = λ bad day is.
    let read = read_date c.in-Ok.date c.args.text.now c.in-Ok.ensures.value day is in
    let same : c.as_str.result.now ≡ c.args.text.now = c.as_str.ensures.value ∙ c.in-Ok-to_string.ensures.ok ∙ sym read.written in
    true≢false (sym (c.if-eq.ensures ∙ (bytes_eq-Decides c.as_str.result.now c.args.text.now).1 same))

pub returns-in_default-to_string-clause-memory : goal.returns-in_default-to_string-clause-memory
returns-in_default-to_string-clause-memory c = λ none.
    let fits : FitsSigned w32 c.to_unix_epoch_day-day.result = search rules in
    let number : to_z w32 (of_z w32 c.to_unix_epoch_day-day.result) ≡ epoch_day c.in-Ok.date =
    to_z-of_z w32 c.to_unix_epoch_day-day.result fits ∙ c.to_unix_epoch_day-day.ensures.value ∙ ap epoch_day c.to_plain.ensures in
    let in_range : IsDay (to_z w32 (of_z w32 c.to_unix_epoch_day-day.result)) = search rules in
    (c.in-Ok.date, sym c.in-Ok.ensures.value, subst IsDay number in_range)
