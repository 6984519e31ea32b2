use Rattle.std.proofs.Common.{subst}
use Rattle.std.proofs.lemmas.Result.{IfOk-weaker}
use Rattle.serde_json.specs.View.{view}
use Rattle.rd_messages.specs.RequestBodies.{IsNoDeedBody, TellsDeed, TellsNoDeed}
use Rattle.rd_messages.proofs.ObjectKeys.{if_none}
use Rattle.rd_messages.proofs.BodyUniqueness.{one_value}
use Rattle.rd_messages.proofs.bodies.deed.deed_body.Goals as goal

pub returns-in-Some-clause-none : goal.returns-in-Some-clause-none
returns-in-Some-clause-none c =
    let json = rw c.in-Some.is at c.in_ok-value.ensures in
    let body = c.args.body.now in
    let value = view c.in-Some.value in
    let other : TellsNoDeed value → IsNoDeedBody body =
    λ none donor signed is. none donor signed (subst (λ v. TellsDeed v donor signed) (one_value body is.value value is.json json) is.tells) in
    IfOk-weaker c.deed_of.result _ _ (λ read none. if_none read other none) c.deed_of.ensures.none
