-- What was read of a request is the request that came.
use Rattle.std.proofs.Common.{◌≡◌, ℕ, ◌≤◌, List, ◌++◌, All, Option, None, Some, length, take, drop, option_to_list, refl, sym, ◌∙◌, ap, append_assoc, arith}
use Rattle.std.proofs.lemmas.List.{append_cancel_left, length-append, length-take, length-take-le, take-append-le}
use Rattle.std.proofs.lemmas.List.Elements.{All-weaker}
use Rattle.httparse.specs.Grammar.{RequestHead, print_request}
use Rattle.httparse.specs.Spans.{IsHeaderWithin, IsRequestWithin}
use Rattle.httparse.specs.declared.spans.HeaderSpan.{HeaderSpan}
use Rattle.httparse.specs.declared.spans.RequestSpans.{RequestSpans}
use Rattle.rd_messages.specs.Fields.{fields_of}
use Rattle.rd_messages.specs.Framing.{IsFramed, IsMisframed, IsNeverWhole, IsWhole}
use Rattle.rd_messages.specs.Heads.{HasHead}
use Rattle.rd_messages.specs.Taken.{EndsEarly, IsBodyTaken}

-- ---- the head

-- what comes behind the head is what the buffer has behind it, and what has not come yet
pub behind_head : (stream buf left : List ℕ) (spans : List HeaderSpan) (found : RequestSpans) (has : HasHead stream buf spans found) → stream ≡ buf ++ left
    → has.rest ≡ drop found.len buf ++ left
behind_head stream buf left spans found has came =
    append_cancel_left (print_request has.head) has.rest (drop found.len buf ++ left)
    (sym has.begins.reads.1 ∙ came ∙ ap (λ t. t ++ left) has.is_at.reads.1 ∙ append_assoc (print_request has.head) (drop found.len buf) left)

-- the spans of the fields are within the buffer
pub spans_within : (buf : List ℕ) (spans : List HeaderSpan) (found : RequestSpans) → IsRequestWithin buf spans found
    → All (IsHeaderWithin (length buf)) (take found.headers spans)
spans_within buf spans found within =
    All-weaker (IsHeaderWithin found.len) (IsHeaderWithin (length buf))
    (λ span is. ((is.0.0, omega (arith, is.0.1, within.section.len_fits)), (is.1.0, omega (arith, is.1.1, within.section.len_fits))))
    (take found.headers spans) within.section.headers_fit

-- ---- a request is one thing

pub option_to_list-once : (a b : Option (List ℕ)) → option_to_list a ≡ option_to_list b → a ≡ b
option_to_list-once None None same = refl
option_to_list-once None (Some y) same = cc
option_to_list-once (Some x) None same = cc
option_to_list-once (Some x) (Some y) same = cc

pub framed_once : (fields : List (List ℕ × List ℕ)) (size other : ℕ) (key shown : Option (List ℕ)) → IsFramed fields size key → IsFramed fields other shown
    → (size ≡ other) × (key ≡ shown)
framed_once fields size other key shown one two =
    (let same = sym one.sized ∙ two.sized in cc, option_to_list-once key shown (sym one.keyed ∙ two.keyed))

pub whole_once : (head : RequestHead) (rest : List ℕ) (key shown : Option (List ℕ)) (body other : List ℕ) → IsWhole head rest key body → IsWhole head rest shown other
    → (key ≡ shown) × (body ≡ other)
whole_once head rest key shown body other one two =
    let same = framed_once (fields_of head) (length body) (length other) key shown one.framed two.framed in
    (same.1, sym one.begins ∙ ap (λ n. take n rest) same.0 ∙ two.begins)

-- ---- the body

module _ (head : RequestHead) (key : Option (List ℕ)) (size : ℕ) (framed : IsFramed (fields_of head) size key) (rest front coming : List ℕ) (behind : rest ≡ front ++ coming) where
  pub whole_taken : (new : Option (List ℕ)) (body : List ℕ) → IsBodyTaken (Some coming) new front size body → IsWhole head rest key body
  whole_taken None body taken = absurd taken.taken
  whole_taken (Some left) body taken =
      let all : rest ≡ (front ++ taken.bytes) ++ left =
      behind ∙ ap (λ t. front ++ t) taken.taken ∙ sym (append_assoc front taken.bytes left) in
      let room : size ≤ length (front ++ taken.bytes) = omega (arith, taken.wanting, length-append front taken.bytes) in
      let sized : length body ≡ size = ap length taken.is ∙ length-take-le size (front ++ taken.bytes) room in
      record {
        framed = rw sized framed;
        begins =
            ap (λ n. take n rest) sized ∙ ap (take size) all
            ∙ take-append-le size (front ++ taken.bytes) left room ∙ sym taken.is;
      }

  pub cut_is_never_whole : (new : Option (List ℕ)) → EndsEarly (Some coming) new front size → IsNeverWhole head rest
  cut_is_never_whole None early shown body whole = absurd early.taken
  cut_is_never_whole (Some left) early shown body whole =
      let sized : size ≡ length body = (framed_once (fields_of head) size (length body) key shown framed whole.framed).0 in
      omega (
        arith,
        sized,
        ap length whole.begins,
        length-take (length body) rest,
        ap length behind,
        length-append front coming,
        ap length early.taken,
        length-append early.bytes left,
        ap length early.ends,
        early.short,
      )

pub misframed_is_never_whole : (head : RequestHead) (rest : List ℕ) → IsMisframed (fields_of head) → IsNeverWhole head rest
misframed_is_never_whole head rest misframed key body whole = misframed (length body) key whole.framed
