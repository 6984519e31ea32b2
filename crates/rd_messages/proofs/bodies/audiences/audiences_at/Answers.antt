use Rattle.std.proofs.Common.{◌≡◌, ◌∙◌, Some, ap, map}
use Rattle.serde_json.specs.Find.{as_array}
use Rattle.serde_json.specs.View.{items_of, view}
use Rattle.rd_messages.proofs.ObjectKeys.{if_none, no_audiences}
use Rattle.rd_messages.proofs.bodies.audiences.audiences_at.Goals as goal

pub returns-clause-none : goal.returns-clause-none
returns-clause-none c =
    let items : Some (items_of (map view c.as_slice.result.now)) ≡ as_array (view c.in_ok-get.field-0.now) =
    ap (λ values. Some (items_of (map view values))) c.as_slice.ensures.value ∙ c.in_ok-values.ensures in
    if_none c.audiences_in.result
    (no_audiences c.args.key.now (view c.args.value.now) (view c.in_ok-get.field-0.now) (map view c.as_slice.result.now) c.in_ok-get.ensures items)
    c.audiences_in.ensures.none
