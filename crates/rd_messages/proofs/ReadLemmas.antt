-- From the parts that were read of a visit to what it asks.
use Rattle.std.proofs.Common.{◌≡◌, ℕ, ◌+◌, ◌<◌, ◌≤◌, ◌&&◌, List, [], ◌∷◌, ◌++◌, Bool, true, false, cond, nat_le, nat_lt, Option, None, Some, IsSomeAnd, codes, length, take, drop, map, option_map, arith, refl, sym, ap, append_assoc, length-append, subst, ◌∙◌}
use Rattle.std.proofs.lemmas.Grind.{common_steps}
use Rattle.std.specs.Str.{all_ascii_digits}
use Rattle.std.specs.Str.Parse.{digits_value}
use Rattle.std.specs.Io.KnownBytes.{Consumes}
use Rattle.httparse.specs.Grammar.{RequestHead}
use Rattle.httparse.specs.Spans.{header_bytes, span_bytes}
use Rattle.httparse.specs.declared.spans.HeaderSpan.{HeaderSpan}
use Rattle.httparse.specs.declared.spans.RequestSpans.{RequestSpans}
use Rattle.sha2.specs.Sha256.{sha256}
use Rattle.rd_protocol.specs.declared.request.Request.{Request}
use Rattle.rd_messages.specs.Asked.{Fails, HasFramedHead, Holds, IsFaultOf, IsRequestOf, IsWhat}
use Rattle.rd_messages.specs.Faults.{number_of}
use Rattle.rd_messages.specs.Fields.{fields_of, values_named}
use Rattle.rd_messages.specs.Framing.{IsFramed, IsMisframed, IsWhole, length_in_values}
use Rattle.rd_messages.specs.Heads.{BeginsWith, HasHead, HasNoHead}
use Rattle.rd_messages.specs.Methods.{method_named}
use Rattle.rd_messages.specs.Readings.{IsReading, Reads}
use Rattle.rd_messages.specs.Routes.{route_of}
use Rattle.rd_messages.specs.Taken.{EndsEarly, IsBodyTaken, TakesUpTo}
use Rattle.rd_messages.specs.declared.fault.RequestFault.{RequestFault}
use Rattle.rd_messages.specs.declared.fault.RequestFault.TheVariants.{BadHead, Framing, NoRoute, Method as OtherMethod}
use Rattle.rd_messages.specs.declared.method.Method.{Method}
use Rattle.rd_messages.specs.declared.method.Methods.{Methods}
use Rattle.rd_messages.specs.declared.read_request.Reading.{Reading}
use Rattle.rd_messages.specs.declared.read_request.Reading.TheVariants.{Request as Read, Fault, NoMemory}
use Rattle.rd_messages.specs.declared.route.Route.{Route}
use Rattle.rd_messages.proofs.RequestUniqueness.{fails_of}
use Rattle.rd_messages.proofs.WholeLemmas.{behind_head, cut_is_never_whole, misframed_is_never_whole, whole_taken}

-- ---- why there is no request

-- no reason comes before a bad head
pub no_head : (stream : List ℕ) → HasNoHead stream → IsFaultOf stream BadHead
no_head stream none = record { holds = none; lowest = λ other below holds. first other below }
  where
    first : (other : RequestFault) → number_of other < 1 → ⊥
    first BadHead below = omega (arith, below)
    first Framing below = omega (arith, below)
    first NoRoute below = omega (arith, below)
    first (OtherMethod methods) below = omega (arith, below)

module _ (stream : List ℕ) (head : RequestHead) (rest : List ℕ) (begins : BeginsWith stream head rest) where
  -- where there is a head, the framing is the first reason
  pub misframed : Fails head rest Framing → IsFaultOf stream Framing
  misframed fails = record { holds = (head, rest, begins, fails); lowest = before }
    where
      before : (other : RequestFault) → number_of other < 2 → ¬ Holds stream other
      before BadHead below none = none head rest begins
      before Framing below holds = omega (arith, below)
      before NoRoute below holds = omega (arith, below)
      before (OtherMethod methods) below holds = omega (arith, below)

  module _ (key : Option (List ℕ)) (body : List ℕ) (whole : IsWhole head rest key body) where
    unframed : ¬ Holds stream Framing
    unframed holds = fails_of stream head rest Framing begins holds key body whole

    pub routeless : Fails head rest NoRoute → IsFaultOf stream NoRoute
    routeless fails = record { holds = (head, rest, begins, fails); lowest = before }
      where
        before : (other : RequestFault) → number_of other < 3 → ¬ Holds stream other
        before BadHead below none = none head rest begins
        before Framing below holds = unframed holds
        before NoRoute below holds = omega (arith, below)
        before (OtherMethod methods) below holds = omega (arith, below)

    pub methodless : (methods : Methods) → Fails head rest (OtherMethod methods) → IsFaultOf stream (OtherMethod methods)
    methodless methods fails = record { holds = (head, rest, begins, fails); lowest = before }
      where
        routed : (found : Option Route) → IsSomeAnd found (λ r. (r.served.methods ≡ methods) × (method_named methods head.method ≡ None)) → ¬ (found ≡ None)
        routed None some none = some
        routed (Some route) some none = cc none

        before : (other : RequestFault) → number_of other < 4 → ¬ Holds stream other
        before BadHead below none = none head rest begins
        before Framing below holds = unframed holds
        before NoRoute below holds = routed (route_of head.target) fails (fails_of stream head rest NoRoute begins holds)
        before (OtherMethod others) below holds = omega (arith, below)

    -- a request, by its route, its method and what they ask
    pub is_request : (asked : Request) (route : Route) (method : Method) → route_of head.target ≡ Some route
        → method_named route.served.methods head.method ≡ Some method → asked.badge ≡ option_map sha256 key
        → IsWhat route.served.subject route.values method body asked.what → IsRequestOf stream asked
    is_request asked route method to by badge what = record {
      head = head;
      rest = rest;
      key = key;
      body = body;
      route = route;
      method = method;
      begins = begins;
      whole = whole;
      to = to;
      by = by;
      badge = badge;
      what = what;
    }

    -- what was read of a whole request is what the bytes ask
    pub asks : (reading : Reading) → Reads head.method head.target key body reading → IsReading stream reading
    asks (Read asked) (route, method, to, by, badge, what) = is_request asked route method to by badge what
    asks (Fault NoRoute) none = routeless none
    asks (Fault (OtherMethod methods)) other = methodless methods other
    asks (Fault BadHead) none = absurd none
    asks (Fault Framing) none = absurd none
    asks NoMemory any = (head, rest, length body, key, begins, whole.framed)

-- ---- the body

module _ (stream buf : List ℕ) (spans : List HeaderSpan) (found : RequestSpans) (is : HasHead stream buf spans found) where
  -- what is told by the fields that the spans cover is told by those of the head
  told : (P : List (List ℕ × List ℕ) → Type 0) → P (map (header_bytes buf) (take found.headers spans)) → P (fields_of is.head)
  told P p = subst P is.is_at.fields p

  pub misframed_head : IsMisframed (map (header_bytes buf) (take found.headers spans)) → IsFaultOf stream Framing
  misframed_head none = misframed stream is.head is.rest is.begins (misframed_is_never_whole is.head is.rest (told IsMisframed none))

  module _ (size : ℕ) (key : Option (List ℕ)) (framed : IsFramed (map (header_bytes buf) (take found.headers spans)) size key) where
    of_head : IsFramed (fields_of is.head) size key
    of_head = told (λ fields. IsFramed fields size key) framed

    pub framed_head : HasFramedHead stream
    framed_head = (is.head, is.rest, size, key, is.begins, of_head)

    -- the bytes ended before the body was whole
    pub short_body : (mid new : Option (List ℕ)) → Consumes (Some stream) mid buf → EndsEarly mid new (drop found.len buf) size → IsFaultOf stream Framing
    short_body None new gave early = absurd gave
    short_body (Some left) new gave early =
        misframed stream is.head is.rest is.begins
        (cut_is_never_whole is.head key size of_head is.rest (drop found.len buf) left (behind_head stream buf left spans found is gave) new early)

    -- the body is whole
    pub whole_body : (mid new : Option (List ℕ)) (body : List ℕ) → Consumes (Some stream) mid buf → IsBodyTaken mid new (drop found.len buf) size body
        → IsWhole is.head is.rest key body
    whole_body None new body gave body_taken = absurd gave
    whole_body (Some left) new body gave body_taken =
        whole_taken is.head key size of_head is.rest (drop found.len buf) left (behind_head stream buf left spans found is gave) new body body_taken

    -- what was read of the whole request is what the bytes ask
    pub asks_whole : (mid new : Option (List ℕ)) (body : List ℕ) (reading : Reading) → Consumes (Some stream) mid buf → IsBodyTaken mid new (drop found.len buf) size body
        → Reads (span_bytes buf found.method) (span_bytes buf found.path) key body reading → IsReading stream reading
    asks_whole mid new body reading gave body_taken reads =
        asks stream is.head is.rest is.begins key body (whole_body mid new body gave body_taken) reading
        (subst (λ method. Reads method is.head.target key body reading) is.is_at.method
        (subst (λ target. Reads (span_bytes buf found.method) target key body reading) is.is_at.path reads))

-- ---- how much is taken

-- a length that is told is at most that of the longest body
told_fits : (values : List (List ℕ)) (size : ℕ) → length_in_values values ≡ Some size → size ≤ 262144
told_fits [] size is = omega (arith, zero_is size is)
  where
    zero_is : (size : ℕ) → Some 0 ≡ Some size → size ≡ 0
    zero_is size is = cc is
told_fits (value ∷ []) size is = by_test (nat_lt 0 (length value) && all_ascii_digits value && nat_le (digits_value 10 value) 262144) refl is
  where
    by_test : (b : Bool) → (nat_lt 0 (length value) && all_ascii_digits value && nat_le (digits_value 10 value) 262144) ≡ b
        → cond b (Some (digits_value 10 value)) None ≡ Some size → size ≤ 262144
    by_test true passes is = grind (arith, common_steps, is, passes)
    by_test false fails is = cc is
told_fits (value ∷ other ∷ values) size is = cc is

pub size_fits : (fields : List (List ℕ × List ℕ)) (size : ℕ) (key : Option (List ℕ)) → IsFramed fields size key → size ≤ 262144
size_fits fields size key framed = told_fits (values_named (codes "Content-Length") fields) size framed.sized

-- one after the other
pub takes_both : (m n most : ℕ) (a b c : Option (List ℕ)) → TakesUpTo m a b → TakesUpTo n b c → m + n ≤ most → TakesUpTo most a c
takes_both m n most a b c one two fits = record {
  bytes = one.bytes ++ two.bytes;
  few = omega (arith, one.few, two.few, fits, length-append one.bytes two.bytes);
  taken = consumes a b c one.bytes two.bytes one.taken two.taken;
}
  where
    consumes : (a b c : Option (List ℕ)) (xs ys : List ℕ) → Consumes a b xs → Consumes b c ys → Consumes a c (xs ++ ys)
    consumes None b c xs ys p q = tt
    consumes (Some us) None c xs ys p q = absurd p
    consumes (Some us) (Some bs) None xs ys p q = absurd q
    consumes (Some us) (Some bs) (Some cs) xs ys p q = p ∙ ap (λ t. xs ++ t) q ∙ sym (append_assoc xs ys cs)

pub takes_fewer : (m n : ℕ) (a b : Option (List ℕ)) → TakesUpTo m a b → m ≤ n → TakesUpTo n a b
takes_fewer m n a b takes fits = record { bytes = takes.bytes; few = omega (arith, takes.few, fits); taken = takes.taken }
