-- The head of a request, at the front of the bytes that come.
use Rattle.std.specs.Prelude.{◌≤◌, ℕ, List, Option, None, Some, length}
use Rattle.httparse.specs.Grammar.{ReadsRequest, RequestHead, print_request}
use Rattle.httparse.specs.Spans.{IsRequestAt}
use Rattle.httparse.specs.declared.spans.HeaderSpan.{HeaderSpan}
use Rattle.httparse.specs.declared.spans.RequestSpans.{RequestSpans}
use Rattle.rd_messages.specs.declared.limits.TheConstants.{LONGEST_HEAD, MOST_FIELDS}

-- The bytes begin with this head, which is no longer than 8,192 bytes and has at most 64 fields; the rest comes after
-- it. The grammar is that of `httparse`, of HTTP 1.0 or 1.1; empty lines before the head belong to it, and count.
pub record BeginsWith (stream : List ℕ) (head : RequestHead) (rest : List ℕ) : Type 0 where
  pub reads : ReadsRequest stream head rest
  pub short : length (print_request head) ≤ LONGEST_HEAD
  pub few : length head.fields ≤ MOST_FIELDS

-- the bytes begin with no such head
abbrev pub HasNoHead : List ℕ → Type 0
HasNoHead stream = (head : RequestHead) (rest : List ℕ) → ¬ (BeginsWith stream head rest)

-- ---- inside

-- The bytes begin with a head, which stands whole in the buffer: the spans are where its parts are.
pub record HasHead (stream buf : List ℕ) (spans : List HeaderSpan) (found : RequestSpans) : Type 0 where
  pub head : RequestHead
  pub rest : List ℕ
  pub begins : BeginsWith stream head rest
  pub is_at : IsRequestAt buf spans found head

-- the result of reading a head: where it is, or that there is none
abbrev pub GivesHead : List ℕ → List ℕ → List HeaderSpan → Option RequestSpans → Type 0
GivesHead stream buf spans None = HasNoHead stream
GivesHead stream buf spans (Some found) = HasHead stream buf spans found
