use Rattle.std.proofs.Common.{◌∙◌, sym}
use Rattle.rd_messages.proofs.ObjectKeys.{any_contains, any_from_contains}
use Rattle.rd_messages.proofs.bodies.objects.is_among.Goals as goal

pub returns : goal.returns
returns c = (
  λ is. any_contains c.args.keys.now c.args.key.now (sym c.contains.ensures.value ∙ is),
  λ has. c.contains.ensures.value ∙ any_from_contains c.args.keys.now c.args.key.now has,
)
