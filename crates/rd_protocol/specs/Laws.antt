-- Laws of replies.
use Rattle.std.specs.Prelude.{◌≡◌, ◌<◌, ℕ, ℤ, All, Some}
use Rattle.std.specs.FinMap.{get}
use Rattle.rd_holdings.specs.Lawful.{IsLawful}
use Rattle.rd_holdings.specs.State.{Desk}
use Rattle.rd_holdings.specs.declared.rows.ImageRow.{ImageRow}
use Rattle.rd_protocol.specs.Judged.{audience_of}
use Rattle.rd_protocol.specs.Replies.{IsReply, IsStep}
use Rattle.rd_protocol.specs.Requests.{IsForStaff}
use Rattle.rd_protocol.specs.declared.request.Request.{Request}
use Rattle.rd_protocol.specs.declared.response.Reply.{Reply}

-- a request on a day has one reply and one desk after it
abbrev pub OneReply : Type 0
OneReply = (desk : Desk) (day : ℤ) (request : Request) (one other : Reply) (after later : Desk)
    → IsReply desk day request one after → IsReply desk day request other later
    → (one ≡ other) × (after ≡ later)

-- the images of a desk hold bytes, numbers below 256 (that the images of each desk in a store do is no
-- clause)
abbrev pub HoldsBytes : Desk → Type 0
HoldsBytes desk = (acc : ℕ) (image : ImageRow) → get desk.images acc ≡ Some image → All (λ byte. byte < 256) image.bytes

-- whatever a lawful desk holds, each request has a reply on each day
abbrev pub EachReply : Type 0
EachReply = (desk : Desk) (day : ℤ) (request : Request) → IsLawful desk → HoldsBytes desk → (reply : Reply) × (after : Desk) × IsReply desk day request reply after

-- the desk after an answered request is the one that the step says
abbrev pub AnswersStep : Type 0
AnswersStep = (old : Desk) (day : ℤ) (request : Request) (reply : Reply) (new : Desk)
    → IsReply old day request reply new → IsStep old day request new

-- a staff request that leaves its caller's key as it is, sent again on the same day to the desk
-- that it left, has the same reply and leaves that desk
abbrev pub SameAgain : Type 0
SameAgain = (old : Desk) (day : ℤ) (request : Request) (reply : Reply) (new : Desk)
    → IsForStaff request.what → audience_of new request.badge ≡ audience_of old request.badge
    → IsReply old day request reply new → IsReply new day request reply new
