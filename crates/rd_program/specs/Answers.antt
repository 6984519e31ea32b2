-- What the program makes of a desk's answer.
use Rattle.std.specs.Prelude.{Bool, Err, Ok, Result, true}
use Rattle.rd_holdings.specs.declared.rows.Outcome.{Outcome}
use Rattle.rd_protocol.specs.declared.refusal.Refusal.{Refusal as Reason}
use Rattle.rd_protocol.specs.declared.refusal.Refusal.TheVariants as desk_reason
use Rattle.rd_protocol.specs.declared.response.Response.{Response}
use Rattle.rd_protocol.specs.declared.response.Response.TheVariants.{Checked, Refused}
use Rattle.rd_commands.specs.declared.refusal.Refusal.{Refusal}
use Rattle.rd_commands.specs.declared.refusal.Refusal.TheVariants.{NoAccession, StaffOnly, Store, UnknownKey}

-- how a command that asks one question names the desk's reason to refuse it, by whether the question is of one accession
abbrev pub refusal_for : Bool → Reason → Refusal
refusal_for named desk_reason.UnknownKey = UnknownKey
refusal_for named desk_reason.StaffOnly = StaffOnly
refusal_for true desk_reason.NoAccession = NoAccession
refusal_for named other = Store

-- an answer to show, if it is no refusal
abbrev pub if_to_show : Bool → Response → Result Response Refusal
if_to_show named (Refused reason) = Err (refusal_for named reason)
if_to_show named answer = Ok answer

-- the answer to show, if there is one
abbrev pub answer_to_show : {X : Type 0} → Bool → Result Response X → Result Response Refusal
answer_to_show named (Ok answer) = if_to_show named answer
answer_to_show named (Err fault) = Err Store

-- what a check has found, if an answer says that
abbrev pub outcome_in : Response → Result Outcome Refusal
outcome_in (Refused reason) = Err (refusal_for true reason)
outcome_in (Checked outcome) = Ok outcome
outcome_in answer = Err Store

-- what a check has found, if the desk has answered and its answer says that
abbrev pub outcome_of : {X : Type 0} → Result Response X → Result Outcome Refusal
outcome_of (Ok answer) = outcome_in answer
outcome_of (Err fault) = Err Store
