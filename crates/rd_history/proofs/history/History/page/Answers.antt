use Rattle.std.proofs.Common.{◌≡◌, ◌∙◌, ◌-◌, ap, arith, length, map, min, take}
use Rattle.std.proofs.lemmas.Result.{IfOk-weaker}
use Rattle.rd_chain.specs.Held.{lines}
use Rattle.rd_chain.specs.Rows.{row_of}
use Rattle.rd_history.specs.Pages.{page_of, page_text, shown}
use Rattle.rd_history.proofs.PageLemmas.{is_page}
use Rattle.rd_history.proofs.history.History.page.Goals as goal

-- src/page.rt:67:5
pub returns-clause-page : goal.returns-clause-page
returns-clause-page g c = λ is_open.
    let these = lines g.S.Store c.args.self.now in
    let found = c.deref.result.now in
    let most : c.min-last.result ≡ min c.args.last (length these) = omega (arith, c.last.ensures (c.lines_after.ensures.keeps.lasts.was_open is_open)) in
    let few : c.min-count.result ≡ min (c.min-last.result - c.args.after) (length found) = omega (arith, c.deref.ensures.len) in
    let read = ap (map row_of) c.deref.ensures.value ∙ c.in_ok-lines.ensures.answer is_open in
    IfOk-weaker c.page_of.result _ _ (λ text e. e ∙ is_page c.args.after c.args.last c.min-last.result c.min-count.result these found read most few) c.page_of.ensures.page
