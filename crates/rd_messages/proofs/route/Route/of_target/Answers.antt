use Rattle.std.proofs.Common.{IfSome, subst, sym}
use Rattle.std.proofs.lemmas.Result.{IfOk-weaker}
use Rattle.rd_messages.specs.PathValues.{AreWithin}
use Rattle.rd_messages.proofs.RouteLemmas.{route_within}
use Rattle.rd_messages.proofs.route.Route.of_target.Goals as goal

pub returns-clause-within : goal.returns-clause-within
returns-clause-within c =
    let named = rw c.in-Some.ensures.path at c.of_path.ensures in
    IfOk-weaker c.of_path.result _ _ (λ found is. subst (λ found. IfSome found (λ route. AreWithin route.values)) (sym is) (route_within c.args.target.now)) named
