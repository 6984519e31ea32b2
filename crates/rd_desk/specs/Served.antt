-- One call of `respond` or of `answer`: the store before it and after it, and what it gives.
use Rattle.std.specs.Prelude.{◌≡◌, ◌≢◌, ◌⊎◌, ◌↔◌, ℕ, ℤ, List, None, IfOk, IsOk, Ok, Result}
use Rattle.sqlite.specs.Store.{Ghosts}
use Rattle.sqlite.specs.Held.{Held}
use Rattle.rd_store.specs.Held.{IsClean, IsOpen, Lasts, LeavesOnly, desk}
use Rattle.rd_holdings.specs.State.{IsStaff}
use Rattle.rd_desk.specs.Calls.{IsResponse, IsResponseAfter, LeavesStep, MakesOneChange}
use Rattle.rd_protocol.specs.Hidden.{HidesTheRest, TellsWhatIsShown}
use Rattle.rd_protocol.specs.Judged.{audience_of}
use Rattle.rd_protocol.specs.Replies.{Answers, IsAnswered, IsReply}
use Rattle.rd_protocol.specs.Requests.{IsForStaff}
use Rattle.rd_protocol.specs.Texts.{UNAVAILABLE, reply_of}
use Rattle.rd_protocol.specs.declared.refusal.Refusal.TheVariants.{StaffOnly}
use Rattle.rd_protocol.specs.declared.request.Request.{Request}
use Rattle.rd_protocol.specs.declared.response.Reply.{Reply}
use Rattle.rd_protocol.specs.declared.response.Response.{Response}
use Rattle.rd_protocol.specs.declared.response.Response.TheVariants.{Refused}

-- A staff request without a badge is refused, because only the staff may ask it, and the store is not touched.
pub record IsTurnedAway {S : Type 0} (old new : Held S) (request : Request) (IsRefusal : Response → Type 0) : Type 0 where
  pub nobody : request.badge ≡ None
  pub for_staff : IsForStaff request.what
  pub refused : IsRefusal (Refused StaffOnly)
  pub same : new ≡ old

-- While the connection is open after the call, the request has its answer or there is none and nothing has changed, a
-- crash leaves the desk as it now is and nothing else, there is a staff key, and a staff request that left its
-- caller's key as it was gets the same answer once more. If all that was written came back from the disk, the
-- connection is open after an answer, unless the caller was turned away without use of the store; and if it was open
-- before the call, a crash leaves the old desk or the one after the step. Whatever becomes of the connection, the store
-- is as calls that read left it, or as one call after them left it that carried out the request or changed nothing; that
-- call succeeded exactly if the answer is that the request is done, or what a check found.
pub record Responds {S X : Type 0} (g : Ghosts S) (old new : Held S) (day : ℤ) (request : Request) (result : Result Response X) : Type 0 where
  pub lasts : Lasts g old new
  pub answers : IsOpen g new → IsResponse (desk g old) day request result (desk g new)
  pub ends_open : IsClean g new → IsOk result → IsOpen g new ⊎ IsTurnedAway old new request (λ refused. result ≡ Ok refused)
  pub crash : IsOpen g old → IsClean g new → LeavesStep g old new day request
  pub durable : IsOpen g new → LeavesOnly g new (desk g new)
  pub staffed : IsOpen g new → (digest : List ℕ) × IsStaff (desk g new) digest
  pub again : IsOpen g new → IsForStaff request.what → audience_of (desk g new) request.badge ≡ audience_of (desk g old) request.badge
      → IfOk result (λ answer. IsAnswered (desk g new) day request answer (desk g new))
  pub one_change : MakesOneChange g old new day request.what (λ returned. IsResponseAfter returned result)

-- While the connection is open after the call, the request has its reply or the desk is
-- unavailable, a crash leaves the desk as it now is and nothing else, there is a staff key, and a
-- staff request that left its caller's key as it was gets the same reply once more. If all that
-- was written came back from the disk, the connection is open after any reply but that of
-- unavailability, unless the caller was turned away without use of the store; and if it was open
-- before the call, a crash leaves the old desk or the one after the step. Unless the staff asks what
-- only they may, the reply depends on no byte of an image that is hidden from the caller and on
-- nothing that is not shown to them, or is 503. Whatever becomes of the connection, the store is as calls that
-- read left it, or as one call after them left it that carried out the request or changed nothing;
-- the status is 200 exactly if that call succeeded.
pub record Serves {S : Type 0} (g : Ghosts S) (old new : Held S) (day : ℤ) (request : Request) (reply : Reply) : Type 0 where
  pub lasts : Lasts g old new
  pub answers : IsOpen g new → Answers (desk g old) day request reply (desk g new)
  pub ends_open : IsClean g new → reply ≢ UNAVAILABLE → IsOpen g new ⊎ IsTurnedAway old new request (λ refused. reply ≡ reply_of refused)
  pub crash : IsOpen g old → IsClean g new → LeavesStep g old new day request
  pub durable : IsOpen g new → LeavesOnly g new (desk g new)
  pub staffed : IsOpen g new → (digest : List ℕ) × IsStaff (desk g new) digest
  pub again : IsOpen g new → reply ≢ UNAVAILABLE → IsForStaff request.what
      → audience_of (desk g new) request.badge ≡ audience_of (desk g old) request.badge
      → IsReply (desk g new) day request reply (desk g new)
  pub hides : IsOpen g new → HidesTheRest (desk g old) day request reply
  pub tells : IsOpen g new → TellsWhatIsShown (desk g old) day request reply
  pub one_change : MakesOneChange g old new day request.what (λ result. IsOk result ↔ (reply.status ≡ 200))
