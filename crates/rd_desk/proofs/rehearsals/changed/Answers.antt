use Rattle.std.proofs.Common.{◌∙◌, ◌++◌, ap, option_map}
use Rattle.rd_desk.specs.Rehearsing.{place_at}
use Rattle.std.specs.Option.{option_to_list}
use Rattle.rd_desk.proofs.RehearsalLemmas.{those_changed}
use Rattle.rd_desk.proofs.rehearsals.changed.Goals as goal

pub returns-in-Some-clause-those : goal.returns-in-Some-clause-those
returns-in-Some-clause-those c =
    let r = c.args.rehearsal.now in
    let put = option_map (λ rule. rule.now) r.rule in
    let later = c.in_ok-later.ensures ∙ ap (λ kept. kept ++ option_to_list put) c.in_ok-kept.ensures in
    those_changed (place_at r.band r.scope r.rank) put c.args.rules.now c.in_ok-later.later.items c.in-Some.ordered later c.in-Some.ensures.same
