-- There are no bytes that ask for nothing.
use Rattle.std.proofs.Common.{◌≡◌, inl, inr, List, ℕ, Option, Some, None, IsSomeAnd, option_map, refl, subst, sym}
use Rattle.httparse.specs.Grammar.{RequestHead}
use Rattle.sha2.specs.Sha256.{sha256}
use Rattle.rd_protocol.specs.declared.request.Request.{Request}
use Rattle.rd_protocol.specs.declared.request.What.{What}
use Rattle.rd_protocol.specs.declared.request.What.TheVariants as what
use Rattle.rd_messages.specs.Asked.{Asked, EachAsked, IsAsked, IsRequestOf, IsWhat, request, fault}
use Rattle.rd_messages.specs.Framing.{IsWhole}
use Rattle.rd_messages.specs.Heads.{BeginsWith}
use Rattle.rd_messages.specs.Methods.{method_named}
use Rattle.rd_messages.specs.Routes.{route_of}
use Rattle.rd_messages.specs.declared.fault.RequestFault.TheVariants.{BadHead, Framing, NoRoute, Method as OtherMethod}
use Rattle.rd_messages.specs.declared.method.Method.{Method}
use Rattle.rd_messages.specs.declared.route.Route.{Route}
use Rattle.rd_messages.proofs.ReadLemmas.{is_request, methodless, misframed, no_head, routeless}

module _ (stream : List ℕ) (none : (asked : Asked) → ¬ IsAsked stream asked) where
  -- where a head begins the bytes
  module _ (head : RequestHead) (rest : List ℕ) (begins : BeginsWith stream head rest) where
    -- and the request is whole
    module _ (key : Option (List ℕ)) (body : List ℕ) (whole : IsWhole head rest key body) where
      by_method : (route : Route) → route_of head.target ≡ Some route → (found : Option Method) → method_named route.served.methods head.method ≡ found → ⊥
      by_method route to None by =
          none (fault (OtherMethod route.served.methods)) (methodless stream head rest begins key body whole route.served.methods
          (subst (λ found. IsSomeAnd found (λ (r : Route). (r.served.methods ≡ route.served.methods) × (method_named route.served.methods head.method ≡ None)))
          (sym to) (refl, by)))
      by_method route to (Some method) by =
          let asks : What → Request = λ asked. record { badge = option_map sha256 key; what = asked } in
          let is : (asked : What) → IsWhat route.served.subject route.values method body asked → IsRequestOf stream (asks asked) =
          λ asked told. is_request stream head rest begins key body whole (asks asked) route method to by refl told in
          none (request (asks what.Unread)) (is what.Unread (inr (refl, λ other told fits. none (request (asks other)) (is other (inl (told, fits))))))

      by_route : (found : Option Route) → route_of head.target ≡ found → ⊥
      by_route None to = none (fault NoRoute) (routeless stream head rest begins key body whole to)
      by_route (Some route) to = by_method route to (method_named route.served.methods head.method) refl

    no_head_begins : ⊥
    no_head_begins =
        none (fault Framing) (misframed stream head rest begins (λ key body whole. by_route key body whole (route_of head.target) refl))

  asks_nothing : ⊥
  asks_nothing = none (fault BadHead) (no_head stream no_head_begins)

pub each_asked : EachAsked
each_asked stream none = asks_nothing stream none
