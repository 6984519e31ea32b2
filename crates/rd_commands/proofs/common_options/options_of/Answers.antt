use Rattle.std.proofs.Common.{inl, inr}
use Rattle.rd_commands.proofs.GetterLemmas.{passed_on}
use Rattle.rd_commands.proofs.Looks.{keys_fault, moment_fault, moment_apart, zones_fault}
use Rattle.rd_commands.proofs.common_options.options_of.Goals as goal

pub returns-in_err-check_keys-clause-apart : goal.returns-in_err-check_keys-clause-apart
returns-in_err-check_keys-clause-apart c =
    passed_on c.from_residual.result c.in_err-check_keys.field-0.0 _ c.from_residual.ensures.1 (λ is fits. c.in_err-check_keys.ensures.apart fits.keys)

pub returns-in_err-check_keys-clause-failed : goal.returns-in_err-check_keys-clause-failed
returns-in_err-check_keys-clause-failed c =
    passed_on c.from_residual.result c.in_err-check_keys.field-0.0 _ c.from_residual.ensures.1 (keys_fault _ c.in_err-check_keys.ensures.failed)

pub returns-in_err-check_zones-clause-apart : goal.returns-in_err-check_zones-clause-apart
returns-in_err-check_zones-clause-apart c =
    passed_on c.from_residual-in_err-check_zones.result c.in_err-check_zones.field-0.0 _ c.from_residual-in_err-check_zones.ensures.1 (λ is fits. c.in_err-check_zones.ensures.apart fits.zones)

pub returns-in_err-check_zones-clause-failed : goal.returns-in_err-check_zones-clause-failed
returns-in_err-check_zones-clause-failed c =
    passed_on c.from_residual-in_err-check_zones.result c.in_err-check_zones.field-0.0 _ c.from_residual-in_err-check_zones.ensures.1 (zones_fault _ c.in_err-check_zones.ensures.failed)

pub returns-in_err-day-clause-apart : goal.returns-in_err-day-clause-apart
returns-in_err-day-clause-apart c =
    passed_on c.from_residual-in_err-day.result c.in_err-day.field-0.0 _ c.from_residual-in_err-day.ensures.1
    (λ is fits. c.in_err-day.ensures.none (moment_apart _ c.in_err-day.ensures.failed is) fits.moment)

pub returns-in_err-day-clause-failed : goal.returns-in_err-day-clause-failed
returns-in_err-day-clause-failed c =
    passed_on c.from_residual-in_err-day.result c.in_err-day.field-0.0 _ c.from_residual-in_err-day.ensures.1 (moment_fault _ c.in_err-day.ensures.failed)

pub returns-clause-given : goal.returns-clause-given
returns-clause-given c = record {
  explain = c.is_set.ensures;
  key_file = λ takes. c.text_if.ensures.given (c.takes_key.ensures.1 takes);
  no_key_file = λ takes. c.text_if.ensures.absent (λ yes. takes (c.takes_key.ensures.0 yes));
  zone_file = λ clocks. c.text_if-2.ensures.given (c.has_clocks.ensures.1 clocks);
  no_zone_file = λ clocks. c.text_if-2.ensures.absent (λ yes. clocks (c.has_clocks.ensures.0 yes));
  day = c.in_ok-day.ensures.given;
  no_day = c.in_ok-day.ensures.absent;
}

pub returns-clause-together : goal.returns-clause-together
returns-clause-together c = record { keys = c.in_ok-check_keys.ensures.fit; zones = c.in_ok-check_zones.ensures.fit; moment = c.in_ok-day.ensures.fits }
