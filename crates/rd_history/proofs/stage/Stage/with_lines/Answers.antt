use Rattle.std.proofs.Common.{◌≡◌, ◌∙◌, ◌+◌, ◌∷◌, [], ap, drop, get_or, map, refl, rules, subst, sym}
use Rattle.std.proofs.lemmas.List.{at_drop_more}
use Rattle.std.proofs.lemmas.Result.{err_from_is_err_and}
use Rattle.rd_history.specs.Stages.{Follows, text_of}
use Rattle.rd_history.proofs.StageLemmas.{Decides, decides_after}
use Rattle.rd_history.proofs.stage.Stage.with_lines.Goals as goal

pub returns-in_err-stage-clause-broken : goal.returns-in_err-stage-clause-broken
returns-in_err-stage-clause-broken c =
    let lines = c.args.lines.now in
    let i = c.loop-line.line-index in
    let here : get_or lines i c.line-item.result ≡ c.line-item.result = search rules in
    let next : map text_of (drop i lines) ≡ text_of c.line-item.result ∷ map text_of (drop (i + 1) lines) = at_drop_more (map text_of) lines i c.line-item.result (search rules) ∙ ap (λ line. text_of line ∷ map text_of (drop (i + 1) lines)) here in
    let p = err_from_is_err_and c.from_residual.result c.from_residual.ensures.1 in
    rw (p.1, p.2) (λ broken end path.
    let left = rw next at (c.loop-line.invariant.leads end path) in
    c.in_err-stage.ensures.broken broken left.0 (subst (λ text. Follows text c.loop-line.stage left.0) (sym c.deref.ensures.value) left.1))

pub loop-line-preserved : goal.loop-line-preserved
loop-line-preserved c =
    let lines = c.args.lines.now in
    let i = c.loop-line.line-index in
    let here : get_or lines i c.line-item.result ≡ c.line-item.result = search rules in
    let next : map text_of (drop i lines) ≡ text_of c.line-item.result ∷ map text_of (drop (i + 1) lines) = at_drop_more (map text_of) lines i c.line-item.result (search rules) ∙ ap (λ line. text_of line ∷ map text_of (drop (i + 1) lines)) here in
    decides_after c.args.self c.loop-line.stage c.in_ok-stage.stage (map text_of lines) (text_of c.line-item.result ∷ []) (map text_of (drop (i + 1) lines))
    (subst (Decides c.args.self c.loop-line.stage (map text_of lines)) next c.loop-line.invariant)
    (c.in_ok-stage.stage, rw c.deref.ensures.value at c.in_ok-stage.ensures.ok, refl)
