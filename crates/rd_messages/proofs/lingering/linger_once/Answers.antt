use Rattle.std.proofs.Common.{◌+◌}
use Rattle.rd_messages.proofs.LingerLemmas.{goes_on_ends, waits_once}
use Rattle.rd_messages.proofs.lingering.linger_once.Goals as goal

pub returns-in-Ok-clause-goes_on : goal.returns-in-Ok-clause-goes_on
returns-in-Ok-clause-goes_on g c =
    let time = c.in_ok-time.ensures in
    waits_once (200 + c.args.began) _ _ _ _ _ time.left (λ none. absurd (cc (time.ends none))) time.rest c.in-Ok.ensures.waits

pub returns-in-Ok-clause-waits : goal.returns-in-Ok-clause-waits
returns-in-Ok-clause-waits g c =
    let time = c.in_ok-time.ensures in
    goes_on_ends (200 + c.args.began) _ _ _ _
    (waits_once (200 + c.args.began) _ _ _ _ _ time.left (λ none. absurd (cc (time.ends none))) time.rest c.in-Ok.ensures.waits)

pub returns-in_default-clause-waits : goal.returns-in_default-clause-waits
returns-in_default-clause-waits g c =
    let time = c.in_ok-time.ensures in
    goes_on_ends (200 + c.args.began) _ _ _ _
    (waits_once (200 + c.args.began) _ _ _ _ _ time.left (λ none. absurd (cc (time.ends none))) time.rest c.in-Ok.ensures.waits)

pub returns-in_default-2-clause-waits : goal.returns-in_default-2-clause-waits
returns-in_default-2-clause-waits g c =
    let time = c.in_ok-time.ensures in
    goes_on_ends (200 + c.args.began) _ _ _ _
    (waits_once (200 + c.args.began) _ _ _ _ _ time.left (λ none. absurd (cc (time.ends none))) time.rest c.in_default.ensures.waits)
