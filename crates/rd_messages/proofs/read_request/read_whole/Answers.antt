use Rattle.std.proofs.Common.{◌∙◌, sym, rules}
use Rattle.rd_messages.proofs.RequestUniqueness.{what_asked}
use Rattle.rd_messages.proofs.read_request.read_whole.Goals as goal

pub returns-clause-reads : goal.returns-clause-reads
returns-clause-reads c = (
  c.in-Some.route,
  c.in-Some-named.method,
  sym c.in_ok-route.ensures.route ∙ c.in-Some.is,
  sym c.named.ensures ∙ c.in-Some-named.is,
  c.request.ensures.badge ∙ c.badge.ensures ∙ search rules,
  what_asked c.in-Some.route.served.subject c.in-Some.route.values c.in-Some-named.method c.args.body.items c.in_ok-parsed.parsed c.request.result.what c.in_ok-parsed.ensures c.request.ensures.what,
)
