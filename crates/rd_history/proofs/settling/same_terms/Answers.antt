use Rattle.std.proofs.Common.{◌≡◌, ap, rules}
use Rattle.rd_holdings.specs.State.{Terms}
use Rattle.rd_history.proofs.settling.same_terms.Goals as goal

pub returns : goal.returns
returns c =
    let one = c.args.one.now in
    let other = c.args.other.now in
    let audiences : one.audiences ≡ other.audiences = search rules in
    let effect : one.effect ≡ other.effect = search rules in
    let from : one.from ≡ other.from = search rules in
    let until : one.until ≡ other.until = search rules in (
      (λ is. let select = c.same_select.ensures.0 is in λ i. record { audiences = audiences i; from = from i; until = until i; select = select i; effect = effect i }),
      (λ same. c.same_select.ensures.1 (ap (λ (t : Terms). t.select) same)),
    )
