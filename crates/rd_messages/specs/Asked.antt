-- What the bytes of a visit ask for: a request of the desk, or why they are no request.
use Rattle.std.specs.Prelude.{◌≡◌, ◌⊎◌, ◌<◌, ℕ, ℤ, List, Option, Some, None, option_map, IsSomeAnd}
use Rattle.httparse.specs.Grammar.{RequestHead}
use Rattle.sha2.specs.Sha256.{sha256}
use Rattle.rd_policy.specs.declared.audience.Audience.{Audience}
use Rattle.rd_policy.specs.declared.rule.Rule.{Rule as NewRule}
use Rattle.rd_protocol.specs.Requests.{IsRequest}
use Rattle.rd_protocol.specs.declared.request.Request.{Request}
use Rattle.rd_protocol.specs.declared.request.What.{What}
use Rattle.rd_protocol.specs.declared.request.What.TheVariants as what
use Rattle.rd_messages.specs.Faults.{number_of}
use Rattle.rd_messages.specs.Fields.{fields_of}
use Rattle.rd_messages.specs.Framing.{IsFramed, IsNeverWhole, IsWhole}
use Rattle.rd_messages.specs.Heads.{BeginsWith, HasNoHead}
use Rattle.rd_messages.specs.RequestBodies.{IsDeedBody, IsKeyBody, IsRuleBody}
use Rattle.rd_messages.specs.Methods.{method_named}
use Rattle.rd_messages.specs.PathValues.{scope_in}
use Rattle.rd_messages.specs.Routes.{route_of}
use Rattle.rd_messages.specs.declared.fault.RequestFault.{RequestFault}
use Rattle.rd_messages.specs.declared.fault.RequestFault.TheVariants.{BadHead, Framing, NoRoute, Method as OtherMethod}
use Rattle.rd_messages.specs.declared.enquiry.Enquiry.{Enquiry}
use Rattle.rd_messages.specs.declared.enquiry.Enquiry.TheVariants as enquiry
use Rattle.rd_messages.specs.declared.method.Method.{Method}
use Rattle.rd_messages.specs.declared.method.Method.TheVariants.{Put, Delete}
use Rattle.rd_messages.specs.declared.route.Route.{Route}
use Rattle.rd_messages.specs.declared.table.Subject.{Subject}
use Rattle.rd_messages.specs.declared.table.Subject.TheVariants.{ByPath, Image, Deed, Rule, Badge, Rehearsal}
use Rattle.rd_messages.specs.declared.values.Values.{Values}

-- ---- a request

-- what a path alone asks, by the values that it names, whatever the method and the body are
abbrev pub asked_by_path : Enquiry → Values → What
asked_by_path enquiry.Images values = what.Images
asked_by_path enquiry.Listing values = what.Listing values.acc
asked_by_path enquiry.Bytes values = what.Bytes values.acc values.slot
asked_by_path enquiry.Survey values = what.Survey values.acc
asked_by_path enquiry.Check values = what.Check values.acc
asked_by_path enquiry.Catalogue values = what.Catalogue
asked_by_path enquiry.Deeds values = what.Deeds
asked_by_path enquiry.Takedowns values = what.Takedowns
asked_by_path enquiry.Keys values = what.Keys
asked_by_path enquiry.Checks values = what.Checks
asked_by_path enquiry.Today values = what.Today
asked_by_path enquiry.Verdicts values = what.Verdicts values.day
asked_by_path enquiry.VerdictsOf values = what.VerdictsOf values.day values.acc

-- what a path asks with a method and a body: DELETE removes a rule or a key, and PUT puts one, or a deed, as the body
-- describes it in JSON; the body of an image is its bytes. A rehearsal asks what would change if the rule were
-- removed, or put. A DELETE is asked by the path alone, whatever the body is
abbrev pub Asks : Subject → Values → Method → List ℕ → What → Type 0
Asks (ByPath enquiry) values method body asked = asked ≡ asked_by_path enquiry values
Asks Image values method body asked = asked ≡ what.PutImage values.acc values.kind values.deed values.digest body
Asks Deed values method body asked =
    (donor : List ℕ) × (signed : ℤ) × (asked ≡ what.PutDeed values.deed donor signed) × IsDeedBody body donor signed
Asks (Rule band) values Delete body asked = asked ≡ what.DropRule band (scope_in band values) values.rank
Asks (Rule band) values Put body asked =
    (rule : NewRule) × (asked ≡ what.PutRule rule) × IsRuleBody band (scope_in band values) values.rank body rule
Asks Badge values Delete body asked = asked ≡ what.DropKey values.digest
Asks Badge values Put body asked = (audience : Audience) × (asked ≡ what.PutKey values.digest audience) × IsKeyBody body audience
Asks (Rehearsal band) values Delete body asked = asked ≡ what.RehearseDrop values.day band (scope_in band values) values.rank
Asks (Rehearsal band) values Put body asked =
    (rule : NewRule) × (asked ≡ what.RehearseRule values.day rule) × IsRuleBody band (scope_in band values) values.rank body rule
Asks subject values method body asked = ⊥

-- what is asked, its values within their limits; if the body says nothing such, a command that
-- cannot be read. The parts of a path are always within theirs
abbrev pub IsWhat : Subject → Values → Method → List ℕ → What → Type 0
IsWhat subject values method body asked =
    (Asks subject values method body asked × IsRequest asked)
    ⊎ ((asked ≡ what.Unread) × ((other : What) → Asks subject values method body other → ¬ IsRequest other))

-- The bytes that came ask this: a head is at their front, its body came whole, the desk has the
-- target, with this method, and the badge is the SHA-256 of the desk key.
pub record IsRequestOf (stream : List ℕ) (request : Request) : Type 0 where
  pub head : RequestHead
  pub rest : List ℕ
  pub key : Option (List ℕ)
  pub body : List ℕ
  pub route : Route
  pub method : Method
  pub begins : BeginsWith stream head rest
  pub whole : IsWhole head rest key body
  pub to : route_of head.target ≡ Some route
  pub by : method_named route.served.methods head.method ≡ Some method
  pub badge : request.badge ≡ option_map sha256 key
  pub what : IsWhat route.served.subject route.values method body request.what

-- ---- why bytes are no request

module _ (head : RequestHead) (rest : List ℕ) where
  -- why what begins with this head is no request; several reasons may hold at once
  abbrev pub Fails : RequestFault → Type 0
  Fails BadHead = ⊥
  Fails Framing = IsNeverWhole head rest
  Fails NoRoute = route_of head.target ≡ None
  Fails (OtherMethod methods) = IsSomeAnd (route_of head.target) (λ route.
      (route.served.methods ≡ methods) × (method_named methods head.method ≡ None))

-- why the bytes that came are no request
abbrev pub Holds : List ℕ → RequestFault → Type 0
Holds stream BadHead = HasNoHead stream
Holds stream reason = (head : RequestHead) × (rest : List ℕ) × BeginsWith stream head rest × Fails head rest reason

-- Of the reasons that hold, this is the one with the lowest number.
pub record IsFaultOf (stream : List ℕ) (fault : RequestFault) : Type 0 where
  pub holds : Holds stream fault
  pub lowest : (other : RequestFault) → number_of other < number_of fault → ¬ Holds stream other

-- ---- what is asked

-- What bytes may ask for: a request of the desk, or the reason why they are none.
pub data Asked : Type 0 where
  request : Request → Asked
  fault : RequestFault → Asked

-- what the bytes that came ask for
abbrev pub IsAsked : List ℕ → Asked → Type 0
IsAsked stream (request asked) = IsRequestOf stream asked
IsAsked stream (fault reason) = IsFaultOf stream reason

-- a head is at the front of the bytes, and gives the length of its body and the key
abbrev pub HasFramedHead : List ℕ → Type 0
HasFramedHead stream =
    (head : RequestHead) × (rest : List ℕ) × (size : ℕ) × (key : Option (List ℕ))
    × BeginsWith stream head rest × IsFramed (fields_of head) size key

-- bytes ask for one thing
abbrev pub OneAsked : Type 0
OneAsked = (stream : List ℕ) (one other : Asked) → IsAsked stream one → IsAsked stream other → one ≡ other

-- no bytes ask for nothing
abbrev pub EachAsked : Type 0
EachAsked = (stream : List ℕ) → ¬ ((asked : Asked) → ¬ IsAsked stream asked)
