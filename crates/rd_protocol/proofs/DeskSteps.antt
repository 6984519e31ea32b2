-- The desk after an answer.
use Rattle.std.proofs.Common.{inl, inr}
use Rattle.rd_protocol.specs.Laws.{AnswersStep}
use Rattle.rd_protocol.specs.Replies.{IsAnswered, IsStep}
use Rattle.rd_protocol.specs.declared.response.Response.{Response}
use Rattle.rd_protocol.specs.declared.response.Response.TheVariants.{Refused}

-- the desk after an answered request is the one that the step says
pub answers_step : AnswersStep
answers_step old day request reply new is = step is.answer is.answered
  where
    step : (answer : Response) → IsAnswered old day request answer new → IsStep old day request new
    step (Refused refusal) refused = inr ((refusal, refused.0), refused.1)
    step other done = inl (record { file = done.file; asked = done.asked; accepted = done.accepted }, done.after)
