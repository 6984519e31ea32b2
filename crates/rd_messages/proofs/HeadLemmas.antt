-- What the bytes that have come say of the head at their front.
use Rattle.std.proofs.Common.{◌≡◌, ℕ, ◌+◌, ◌-◌, ◌<◌, ◌≤◌, List, [], ◌++◌, Option, None, Some, IfSome, length, take, drop, sym, ◌∙◌, ap, arith}
use Rattle.std.proofs.lemmas.List.{length-append, length-map, length-take}
use Rattle.std.proofs.Math.Seq.{take-append-add, take-append_seam}
use Rattle.std.specs.Io.KnownBytes.{Consumes}
use Rattle.httparse.proofs.GrammarLemmas.{ReadsRequest-append, request_unique}
use Rattle.httparse.specs.Grammar.{HasNoRequest, RequestHead, print_request}
use Rattle.httparse.specs.Spans.{IsRequestOf, IsRequestWithin}
use Rattle.httparse.specs.declared.spans.HeaderSpan.{HeaderSpan}
use Rattle.httparse.specs.declared.spans.RequestSpans.{RequestSpans}
use Rattle.rd_messages.specs.Heads.{BeginsWith, GivesHead, HasNoHead}

-- a head has bytes
pub head_is_some : (head : RequestHead) → 0 < length (print_request head)
unfolding print_request
head_is_some head = simp length-append (omega arith)

-- bytes begin with one head, and one rest is behind it
pub begins_once : (stream : List ℕ) (head other : RequestHead) (rest left : List ℕ) → BeginsWith stream head rest → BeginsWith stream other left
    → (head ≡ other) × (rest ≡ left)
begins_once stream head other rest left one two = request_unique stream head other rest left one.reads two.reads

-- no bytes are no head
pub nothing_has_no_request : HasNoRequest []
nothing_has_no_request head rest reads =
    omega (arith, head_is_some head, ap length reads.1, length-append (print_request head) rest)

-- where the first 8,192 bytes have no head in front, neither have all bytes one within the limits
pub none_in_front : (stream : List ℕ) → HasNoRequest (take 8192 stream) → HasNoHead stream
none_in_front stream none head rest begins =
    let cut = 8192 - length (print_request head) in
    let whole : 8192 ≡ length (print_request head) + cut = omega (arith, begins.short) in
    none head (take cut rest) (
      begins.reads.0,
      ap (take 8192) begins.reads.1 ∙ ap (λ n. take n (print_request head ++ rest)) whole
          ∙ take-append-add (print_request head) rest cut,
    )

-- the buffer is full, and no head is in front of it
pub at_full : (known new : Option (List ℕ)) (buf : List ℕ) (spans : List HeaderSpan) → Consumes known new buf → length buf ≡ 8192 → HasNoRequest buf
    → IfSome known (λ stream. GivesHead stream buf spans None)
at_full None new buf spans taken full none = tt
at_full (Some stream) None buf spans taken full none = absurd taken
at_full (Some stream) (Some left) buf spans taken full none =
    let front : take 8192 stream ≡ buf =
    ap (take 8192) taken ∙ ap (λ n. take n (buf ++ left)) (sym full) ∙ take-append_seam buf left in
    none_in_front stream (rw front none)

-- a head has come
pub at_head : (known new : Option (List ℕ)) (buf : List ℕ) (spans : List HeaderSpan) (found : RequestSpans) → Consumes known new buf
    → IsRequestWithin buf spans found → IsRequestOf buf spans found → length spans ≡ 64 → length buf ≤ 8192
    → IfSome known (λ stream. GivesHead stream buf spans (Some found))
at_head None new buf spans found taken within is room fits = tt
at_head (Some stream) None buf spans found taken within is room fits = absurd taken
at_head (Some stream) (Some left) buf spans found taken within (head, is) room fits =
    let counted : length head.fields ≡ length (take found.headers spans) =
    sym (length-map head.fields _) ∙ sym (ap length is.fields) ∙ length-map (take found.headers spans) _ in
    let known = ReadsRequest-append buf head (drop found.len buf) left is.reads in
    record {
      head = head;
      rest = drop found.len buf ++ left;
      begins = record {
        reads = (known.0, taken ∙ known.1);
        short = omega (arith, is.len, within.section.len_fits, fits);
        few = omega (arith, counted, length-take found.headers spans, room);
      };
      is_at = is;
    }
