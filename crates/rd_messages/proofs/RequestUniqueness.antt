-- Bytes ask for one thing.
use Rattle.std.proofs.Common.{◌≡◌, inl, inr, ℕ, ◌<◌, List, Option, Some, None, IsSomeAnd, MatchOption, ◌⊎◌, arith, ap, option_map, refl, subst, sym, ◌∙◌}
use Rattle.httparse.specs.Grammar.{RequestHead}
use Rattle.httparse.proofs.GrammarLemmas.{request_unique}
use Rattle.sha2.specs.Sha256.{sha256}
use Rattle.rd_protocol.specs.Requests.{IsRequest}
use Rattle.rd_protocol.specs.declared.request.Request.{Request}
use Rattle.rd_protocol.specs.declared.request.What.{What}
use Rattle.rd_protocol.specs.declared.request.What.TheVariants as what
use Rattle.rd_messages.specs.Asked.{Asks, Fails, Holds, IsFaultOf, IsRequestOf, IsWhat, OneAsked, request, fault}
use Rattle.rd_messages.specs.Faults.{number_of}
use Rattle.rd_messages.specs.Framing.{IsWhole}
use Rattle.rd_messages.specs.Heads.{BeginsWith}
use Rattle.rd_messages.specs.Readings.{IsParsed}
use Rattle.rd_messages.specs.RequestBodies.{IsNoKeyBody}
use Rattle.rd_messages.specs.Methods.{method_named}
use Rattle.rd_messages.specs.PathValues.{scope_in}
use Rattle.rd_messages.specs.Routes.{route_of}
use Rattle.rd_messages.specs.declared.fault.RequestFault.{RequestFault}
use Rattle.rd_messages.specs.declared.fault.RequestFault.TheVariants.{BadHead, Framing, NoRoute, Method as OtherMethod}
use Rattle.rd_messages.specs.declared.method.Method.{Method}
use Rattle.rd_messages.specs.declared.method.Method.TheVariants.{Put, Delete}
use Rattle.rd_messages.specs.declared.method.Methods.{Methods}
use Rattle.rd_messages.specs.declared.route.Route.{Route}
use Rattle.rd_messages.specs.declared.table.Subject.{Subject}
use Rattle.rd_messages.specs.declared.table.Subject.TheVariants.{ByPath, Image, Deed, Rule, Badge, Rehearsal}
use Rattle.rd_messages.specs.declared.values.Values.{Values}
use Rattle.rd_messages.proofs.BodyUniqueness.{one_deed, one_key, one_rule}
use Rattle.rd_messages.proofs.WholeLemmas.{whole_once}

-- ---- what a path asks

pub one_asks : (subject : Subject) (values : Values) (method : Method) (body : List ℕ) (one other : What)
    → Asks subject values method body one → Asks subject values method body other → one ≡ other
one_asks (ByPath enquiry) values method body one other is same = is ∙ sym same
one_asks Image values method body one other is same = is ∙ sym same
one_asks Deed values method body one other (donor, signed, is, told) (donor2, signed2, is2, told2) =
    let same = one_deed body donor donor2 signed signed2 told told2 in
    is ∙ (λ i. what.PutDeed values.deed (same.donors i) (same.days i)) ∙ sym is2
one_asks (Rule band) values Delete body one other is same = is ∙ sym same
one_asks (Rule band) values Put body one other (rule, is, told) (rule2, is2, told2) =
    is ∙ ap what.PutRule (one_rule band (scope_in band values) values.rank body rule rule2 told told2) ∙ sym is2
one_asks Badge values Delete body one other is same = is ∙ sym same
one_asks Badge values Put body one other (audience, is, told) (audience2, is2, told2) =
    is ∙ ap (what.PutKey values.digest) (one_key body audience audience2 told told2) ∙ sym is2
one_asks (Rehearsal band) values Delete body one other is same = is ∙ sym same
one_asks (Rehearsal band) values Put body one other (rule, is, told) (rule2, is2, told2) =
    is ∙ ap (what.RehearseRule values.day) (one_rule band (scope_in band values) values.rank body rule rule2 told told2) ∙ sym is2
one_asks subject values method body one other none same = absurd none

pub one_what : (subject : Subject) (values : Values) (method : Method) (body : List ℕ) (one other : What)
    → IsWhat subject values method body one → IsWhat subject values method body other → one ≡ other
one_what subject values method body one other (inl (asks, fits)) (inl (also, fit)) = one_asks subject values method body one other asks also
one_what subject values method body one other (inl (asks, fits)) (inr (unread, none)) = absurd (none one asks fits)
one_what subject values method body one other (inr (unread, none)) (inl (asks, fits)) = absurd (none other asks fits)
one_what subject values method body one other (inr (unread, none)) (inr (same, nothing)) = unread ∙ sym same

-- ---- a head and what follows it

-- two heads at the front of a stream are one, and so is what follows
pub same_head : (stream : List ℕ) (h k : RequestHead) (r q : List ℕ) → BeginsWith stream h r → BeginsWith stream k q → (h ≡ k) × (r ≡ q)
same_head stream h k r q x y = request_unique stream h k r q x.reads y.reads

-- a head at the front of a stream fails by what it and the rest are
pub fails_of : (stream : List ℕ) (head : RequestHead) (rest : List ℕ) (reason : RequestFault) → BeginsWith stream head rest → Holds stream reason → Fails head rest reason
fails_of stream head rest BadHead begins none = none head rest begins
fails_of stream head rest Framing begins (h, r, b, fails) =
    let same = same_head stream h head r rest b begins in subst (λ t. Fails head t Framing) same.1 (subst (λ k. Fails k r Framing) same.0 fails)
fails_of stream head rest NoRoute begins (h, r, b, fails) =
    let same = same_head stream h head r rest b begins in subst (λ t. Fails head t NoRoute) same.1 (subst (λ k. Fails k r NoRoute) same.0 fails)
fails_of stream head rest (OtherMethod methods) begins (h, r, b, fails) =
    let same = same_head stream h head r rest b begins in subst (λ t. Fails head t (OtherMethod methods)) same.1 (subst (λ k. Fails k r (OtherMethod methods)) same.0 fails)

-- what is at a route with a method is refused for neither
to_a_route : (found : Option Route) (route : Route) (method : Method) (name : List ℕ) (methods : Methods) → found ≡ Some route → method_named route.served.methods name ≡ Some method
    → ¬ IsSomeAnd found (λ r. (r.served.methods ≡ methods) × (method_named methods name ≡ None))
to_a_route None route method name methods to by none = cc to
to_a_route (Some r) route method name methods to by (same, none) = cc (to, by, same, none)

-- no reason holds of a request
pub holds_not : (stream : List ℕ) (asked : Request) (reason : RequestFault) → IsRequestOf stream asked → ¬ Holds stream reason
holds_not stream asked BadHead is holds = holds is.head is.rest is.begins
holds_not stream asked Framing is holds = fails_of stream is.head is.rest Framing is.begins holds is.key is.body is.whole
holds_not stream asked NoRoute is holds = let none = fails_of stream is.head is.rest NoRoute is.begins holds in let some = is.to in cc
holds_not stream asked (OtherMethod methods) is holds =
    to_a_route (route_of is.head.target) is.route is.method is.head.method methods is.to is.by (fails_of stream is.head is.rest (OtherMethod methods) is.begins holds)

-- ---- one request, or one reason

module _ (stream : List ℕ) (one other : Request) (x : IsRequestOf stream one) (y : IsRequestOf stream other) where
  heads : (x.head ≡ y.head) × (x.rest ≡ y.rest)
  heads = same_head stream x.head y.head x.rest y.rest x.begins y.begins

  wholes : (x.key ≡ y.key) × (x.body ≡ y.body)
  wholes =
      let whole = subst (λ r. IsWhole y.head r x.key x.body) heads.1 (subst (λ (h : RequestHead). IsWhole h x.rest x.key x.body) heads.0 x.whole) in
      whole_once y.head y.rest x.key y.key x.body y.body whole y.whole

  routes : x.route ≡ y.route
  routes = let same : route_of x.head.target ≡ route_of y.head.target = ap (λ (h : RequestHead). route_of h.target) heads.0 in cc (same, x.to, y.to)

  same_method : x.method ≡ y.method
  same_method =
      let same : method_named x.route.served.methods x.head.method ≡ method_named y.route.served.methods y.head.method =
      (λ i. method_named (routes i).served.methods (heads.0 i).method) in
      cc (same, x.by, y.by)

  pub one_request : one ≡ other
  one_request =
      let badge : one.badge ≡ other.badge = x.badge ∙ ap (option_map sha256) wholes.0 ∙ sym y.badge in
      let Asked : Route → Method → List ℕ → Type 0 = λ route method body. IsWhat route.served.subject route.values method body one.what in
      let asks = subst (λ b. Asked y.route y.method b) wholes.1 (subst (λ v. Asked y.route v x.body) same_method
      (subst (λ r. Asked r x.method x.body) routes x.what)) in
      let what = one_what y.route.served.subject y.route.values y.method y.body one.what other.what asks y.what in
      λ i. record { badge = badge i; what = what i }

one_method : (found : Option Route) (name : List ℕ) (one other : Methods)
    → IsSomeAnd found (λ r. (r.served.methods ≡ one) × (method_named one name ≡ None)) → IsSomeAnd found (λ r. (r.served.methods ≡ other) × (method_named other name ≡ None)) → one ≡ other
one_method None name one other x y = absurd x
one_method (Some route) name one other x y = sym x.0 ∙ y.0

-- of two numbers neither is below the other
same_number : (a b : ℕ) → ¬ (a < b) → ¬ (b < a) → a ≡ b
same_number a b x y = omega (arith, x, y)

-- two reasons of one number are one
one_of_number : (stream : List ℕ) (one other : RequestFault) → Holds stream one → Holds stream other → number_of one ≡ number_of other → one ≡ other
one_of_number stream BadHead BadHead x y n = refl
one_of_number stream Framing Framing x y n = refl
one_of_number stream NoRoute NoRoute x y n = refl
one_of_number stream (OtherMethod a) (OtherMethod b) (h, r, begins, fails) y n =
    ap OtherMethod (one_method (route_of h.target) h.method a b fails (fails_of stream h r (OtherMethod b) begins y))
one_of_number stream one other x y n = cc n

pub one_fault : (stream : List ℕ) (one other : RequestFault) → IsFaultOf stream one → IsFaultOf stream other → one ≡ other
one_fault stream one other x y =
    one_of_number stream one other x.holds y.holds
    (same_number (number_of one) (number_of other) (λ below. y.lowest one below x.holds) (λ below. x.lowest other below y.holds))

pub one_asked : OneAsked
one_asked stream (request one) (request other) x y = ap request (one_request stream one other x y)
one_asked stream (request one) (fault reason) x y = absurd (holds_not stream one reason x y.holds)
one_asked stream (fault reason) (request other) x y = absurd (holds_not stream other reason y x.holds)
one_asked stream (fault one) (fault other) x y = ap fault (one_fault stream one other x y)

-- what was parsed, where it is within its limits; else a command that cannot be read
pub what_asked : (subject : Subject) (values : Values) (method : Method) (body : List ℕ) (parsed : Option What) (asked : What)
    → IsParsed subject values method body parsed
    → MatchOption parsed (asked ≡ what.Unread) (λ one. (IsRequest one × (asked ≡ one)) ⊎ ((¬ IsRequest one) × (asked ≡ what.Unread)))
    → IsWhat subject values method body asked
what_asked subject values method body None asked none is = inr (is, none)
what_asked subject values method body (Some one) asked asks (inl (fits, is)) =
    inl (subst (Asks subject values method body) (sym is) asks, subst IsRequest (sym is) fits)
what_asked subject values method body (Some one) asked asks (inr (unfit, is)) =
    inr (is, λ other also fits. unfit (subst IsRequest (one_asks subject values method body other one also asks) fits))

-- a body that names no audience that has keys asks no command on a key
pub no_key_asked : (values : Values) (method : Method) (body : List ℕ) → method ≡ Put → IsNoKeyBody body → IsParsed Badge values method body None
no_key_asked values method body is none =
    let Parsed : Method → Type 0 = λ m. IsParsed Badge values m body None in
    subst Parsed (sym is) (λ asked (audience, same, told) fits. none audience told)
