-- Answers that are no refusal, and answers that say nothing that was found.
use Rattle.std.proofs.Common.{◌≡◌, Bool, Err, Ok, inl, inr, refl}
use Rattle.rd_holdings.specs.declared.rows.Outcome.{Outcome}
use Rattle.rd_protocol.specs.declared.refusal.Refusal.{Refusal as Reason}
use Rattle.rd_protocol.specs.declared.response.Response.{Response}
use Rattle.rd_protocol.specs.declared.response.Response.TheVariants.{Checked, Refused}
use Rattle.rd_commands.specs.declared.refusal.Refusal.{Refusal}
use Rattle.rd_commands.specs.declared.refusal.Refusal.TheVariants.{Store}
use Rattle.rd_program.specs.Answers.{if_to_show, outcome_in}
use Rattle.rd_program.specs.Asking.{IsReplyRefusal}
use Rattle.rd_program.specs.Showing.{IsShowRefusal}

pub kept_to_show : (named : Bool) (answer : Response) → ((reason : Reason) → answer ≡ Refused reason → ⊥) → Ok answer ≡ if_to_show named answer
kept_to_show named (Refused reason) other = absurd (other reason refl)
kept_to_show named answer other = refl

pub none_found : (answer : Response) → ((reason : Reason) → answer ≡ Refused reason → ⊥) → ((outcome : Outcome) → answer ≡ Checked outcome → ⊥)
    → Err Store ≡ outcome_in answer
none_found (Refused reason) other none = absurd (other reason refl)
none_found (Checked outcome) other none = absurd (none outcome refl)
none_found answer other none = refl

-- what is no refusal of an opening is one of a reply
pub of_reply : (named : Bool) (refusal : Refusal) → IsShowRefusal named refusal → IsReplyRefusal refusal
of_reply named refusal (inl is) = inl is
of_reply named refusal (inr (inl is)) = inr (inl is)
of_reply named refusal (inr (inr (inl is))) = inr (inr (inl is.0))
of_reply named refusal (inr (inr (inr is))) = inr (inr (inr (inr (inr is))))
