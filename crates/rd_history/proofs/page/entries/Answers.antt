use Rattle.std.proofs.Common.{◌≡◌, ◌∙◌, [], ◌∷◌, ap, arith, map, string_bytes, take_all}
use Rattle.rd_history.specs.Pages.{listed, shown}
use Rattle.rd_history.proofs.PageLemmas.{join_by-map}
use Rattle.rd_history.proofs.page.entries.Goals as goal

-- src/page.rt:31:1
pub returns-in-Ok-join-clause-texts : goal.returns-in-Ok-join-clause-texts
returns-in-Ok-join-clause-texts c =
    c.in-Ok-join.ensures.ok ∙ join_by-map (λ text. string_bytes text) (44 ∷ []) c.as_slice.result.now
    ∙ ap (λ texts. listed (map (λ text. string_bytes text) texts)) c.as_slice.ensures.value
    ∙ ap listed (c.loop-line.invariant ∙ ap (map shown) (take_all c.loop-line.line-index c.args.lines.now (omega arith)))
