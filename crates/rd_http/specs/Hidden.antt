-- What the bytes that go to a visitor do not depend on.
use Rattle.std.specs.Prelude.{ℕ, ℤ, List}
use Rattle.rd_policy.specs.declared.audience.Audience.{Audience}
use Rattle.rd_holdings.specs.State.{Desk}
use Rattle.rd_protocol.specs.Hidden.{IsCallerOf, IsOfStaff}
use Rattle.rd_protocol.specs.Shown.{ShowsTheSame}
use Rattle.rd_protocol.specs.declared.request.Request.{Request}
use Rattle.rd_messages.specs.Asked.{IsAsked, request}
use Rattle.rd_http.specs.Visits.{IsReplied}

-- what the bytes ask, if they ask for anything, is not asked by the staff of what only they may ask,
-- and its caller is of the audience, or unknown
abbrev pub IsVisitOf : List ℕ → Desk → Audience → Type 0
IsVisitOf stream desk audience = (asked : Request) → IsAsked stream (request asked) → (¬ IsOfStaff desk asked) × IsCallerOf desk asked audience

-- in each desk that shows the same to the visitor, the bytes that came have the same text as their
-- reply. A desk that looks alike to them shows the same (LooksAlikeShowsTheSame of rd_protocol).
abbrev pub HidesFromVisitor : List ℕ → Desk → ℤ → List ℕ → Type 0
HidesFromVisitor stream desk day text = (audience : Audience) (other : Desk) → IsVisitOf stream desk audience
    → ShowsTheSame desk audience day other → IsReplied stream other other day text

-- a visitor gets the same reply in each desk that shows them the same
abbrev pub HiddenBytesReachNoVisitor : Type 0
HiddenBytesReachNoVisitor = (stream : List ℕ) (old new : Desk) (day : ℤ) (text : List ℕ)
    → IsReplied stream old new day text → HidesFromVisitor stream old day text

-- this text is the reply to the bytes that came, and it hides the rest from the visitor
abbrev pub RepliesAndHides : List ℕ → Desk → Desk → ℤ → List ℕ → Type 0
RepliesAndHides stream old new day text = IsReplied stream old new day text × HidesFromVisitor stream old day text
