use Rattle.rd_protocol.proofs.FloatLemmas.{in_checks, in_deeds, in_keys, in_takedowns, survey_has_no_float}
use Rattle.rd_protocol.proofs.reply_text.reply_to.Goals as goal

pub json_reply-requires-in-Surveyed : goal.json_reply-requires-in-Surveyed
json_reply-requires-in-Surveyed c = rw c.in_ok-surveyed_value-in-Surveyed.ensures (survey_has_no_float c.in-Surveyed.survey)

pub list_reply-requires : goal.list_reply-requires
list_reply-requires c = rw c.as_slice-in-Deeds.ensures (in_deeds c.in-Deeds.lines)

pub list_reply-requires-in-Takedowns : goal.list_reply-requires-in-Takedowns
list_reply-requires-in-Takedowns c = rw c.as_slice-in-Takedowns.ensures (in_takedowns c.in-Takedowns.lines)

pub list_reply-requires-in-Keys : goal.list_reply-requires-in-Keys
list_reply-requires-in-Keys c = rw c.as_slice-in-Keys.ensures (in_keys c.in-Keys.lines)

pub list_reply-requires-in-Checks : goal.list_reply-requires-in-Checks
list_reply-requires-in-Checks c = rw c.as_slice-in-Checks.ensures (in_checks c.in-Checks.lines)
