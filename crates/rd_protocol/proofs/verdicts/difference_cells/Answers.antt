use Rattle.std.proofs.Common.{◌≡◌, refl, rules}
use Rattle.std.specs.Fmt.{decimal}
use Rattle.rd_policy.specs.Audiences.{audience_word}
use Rattle.rd_policy.specs.Verdicts.{label_text}
use Rattle.rd_protocol.specs.Catalogues.{effect_word}
use Rattle.rd_protocol.proofs.verdicts.difference_cells.Goals as goal

pub returns : goal.returns
returns c =
    let difference = c.args.difference.now in
    let accession : c.in_ok-accession.accession ≡ decimal difference.accession = search rules in
    let slot : c.in_ok-slot.slot ≡ decimal difference.slot = search rules in
    let name : c.in_ok-name.name ≡ difference.name = search rules in
    let audience : c.in_ok-audience.audience ≡ audience_word difference.audience = search rules in
    let effect : c.in_ok-before.before.effect ≡ effect_word difference.before.effect = search rules in
    let rule : c.in_ok-before.before.rule ≡ label_text difference.before.label = search rules in
    let then_effect : c.in_ok-after.after.effect ≡ effect_word difference.after.effect = search rules in
    let then_rule : c.in_ok-after.after.rule ≡ label_text difference.after.label = search rules in
    rw (accession, slot, name, audience, effect, rule, then_effect, then_rule) refl
