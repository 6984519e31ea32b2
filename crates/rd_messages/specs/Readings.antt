-- What was read of the bytes of a visit, and whether its values are within their limits.
use Rattle.std.specs.Prelude.{◌≡◌, ℕ, List, Option, Some, None, option_map, IsSomeAnd, MatchOption, ⊤}
use Rattle.sha2.specs.Sha256.{sha256}
use Rattle.rd_protocol.specs.Requests.{IsRequest}
use Rattle.rd_protocol.specs.declared.request.What.{What}
use Rattle.rd_messages.specs.Asked.{Asks, HasFramedHead, IsAsked, IsWhat, request, fault}
use Rattle.rd_messages.specs.Methods.{method_named}
use Rattle.rd_messages.specs.Routes.{route_of}
use Rattle.rd_messages.specs.declared.fault.RequestFault.TheVariants as reason
use Rattle.rd_messages.specs.declared.method.Method.{Method}
use Rattle.rd_messages.specs.declared.read_request.Reading.{Reading}
use Rattle.rd_messages.specs.declared.read_request.Reading.TheVariants.{Request, Fault, NoMemory}
use Rattle.rd_messages.specs.declared.route.Route.{Route}
use Rattle.rd_messages.specs.declared.table.Subject.{Subject}
use Rattle.rd_messages.specs.declared.values.Values.{Values}

-- what a path asks with a method and a body, or that it asks nothing within its limits
abbrev pub IsParsed : Subject → Values → Method → List ℕ → Option What → Type 0
IsParsed subject values method body parsed =
    MatchOption parsed ((asked : What) → Asks subject values method body asked → ¬ IsRequest asked) (Asks subject values method body)

-- what was read of a request that came whole
abbrev pub Reads : List ℕ → List ℕ → Option (List ℕ) → List ℕ → Reading → Type 0
Reads name target key body (Request asked) =
    (route : Route) × (method : Method) × (route_of target ≡ Some route) × (method_named route.served.methods name ≡ Some method)
    × (asked.badge ≡ option_map sha256 key) × IsWhat route.served.subject route.values method body asked.what
Reads name target key body (Fault reason.NoRoute) = route_of target ≡ None
Reads name target key body (Fault (reason.Method methods)) = IsSomeAnd (route_of target) (λ route.
    (route.served.methods ≡ methods) × (method_named methods name ≡ None))
Reads name target key body (Fault other) = ⊥
Reads name target key body NoMemory = ⊤

-- what was read of the bytes that came
abbrev pub IsReading : List ℕ → Reading → Type 0
IsReading stream (Request asked) = IsAsked stream (request asked)
IsReading stream (Fault why) = IsAsked stream (fault why)
IsReading stream NoMemory = HasFramedHead stream

-- a request has its values within their limits
abbrev pub Fits : Reading → Type 0
Fits (Request asked) = IsRequest asked.what
Fits other = ⊤
