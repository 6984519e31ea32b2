use Rattle.std.proofs.Common.{◌≡◌, ◌∙◌, ◌+◌, ◌++◌, FitsSigned, IsErr, Ok, ap, false, length, map, rules, subst, sym, take_all, w64}
use Rattle.std.proofs.lemmas.Int.{to_z-of_z}
use Rattle.rd_tables.specs.Connections.{IsOpen}
use Rattle.rd_chain.specs.Held.{Appends, lines}
use Rattle.rd_history.specs.Bases.{AreBaseLines}
use Rattle.rd_history.specs.Histories.{base_lines}
use Rattle.rd_history.specs.Stages.{EndsSo}
use Rattle.rd_history.specs.declared.entry.Change.TheVariants.{Begin}
use Rattle.rd_history.specs.declared.settling.Unsettled.{Unsettled}
use Rattle.rd_history.proofs.Appended.{appended_err, appended_ok}
use Rattle.rd_history.proofs.BaseLines.{ends_base}
use Rattle.rd_history.proofs.history.History.append_base.Goals as goal

pub returns-in_err-append_all-clause-appends : goal.returns-in_err-append_all-clause-appends
returns-in_err-append_all-clause-appends g c =
    let failed : IsErr c.from_residual-in_err-append_all.result = search rules in
    let fits : FitsSigned w64 c.args.moment = search rules in
    let old = c.self.inside.chain in
    let listed = c.args.listed.items in
    let are = rw (to_z-of_z w64 c.args.moment fits) at c.in_ok-lines.ensures.lines in
    let put : map (λ line. line.now) c.deref.result.now ≡ c.in_ok-lines.lines.items =
    ap (map (λ line. line.now)) c.deref.ensures.value ∙ c.loop-line.invariant ∙ take_all c.loop-line.line-index c.deref-line-items.result.now (search rules) ∙ c.deref-line-items.ensures.value in
    let number : IsOpen g.S.Store old → c.in-Some.number ≡ length (lines g.S.Store old) + 1 = λ o. c.in-Some.ensures.1 ∙ ap (λ n. n + 1) (c.last.ensures o) in
    subst (λ h. Appends {T = Unit {0}} {X = Unsettled} g.S.Store h c.append_all.new.self (base_lines c.args.moment c.args.note.now (length (lines g.S.Store h) + 1) listed) c.from_residual-in_err-append_all.result) c.self.view_is
    (appended_err g.S.Store old c.append_all.new.self _ _ (λ o. put ∙ are.are ∙ ap (λ n. base_lines c.args.moment c.args.note.now n listed) (number o)) _ c.from_residual-in_err-append_all.result failed c.in_err-append_all.ensures.appends)

pub invariant_of-self-2 : goal.invariant_of-self-2
invariant_of-self-2 g c = λ o.
    let fits : FitsSigned w64 c.args.moment = search rules in
    let old = c.self.inside.chain in
    let these = lines g.S.Store old in
    let listed = c.args.listed.items in
    let are = rw (to_z-of_z w64 c.args.moment fits) at c.in_ok-lines.ensures.lines in
    let put : map (λ line. line.now) c.deref.result.now ≡ c.in_ok-lines.lines.items =
    ap (map (λ line. line.now)) c.deref.ensures.value ∙ c.loop-line.invariant ∙ take_all c.loop-line.line-index c.deref-line-items.result.now (search rules) ∙ c.deref-line-items.ensures.value in
    let appends = c.in_ok-append_all.ensures.appends in
    let was = appends.lasts.was_open o in
    subst (EndsSo false) (sym (appends.ok o ∙ ap (λ l. these ++ l) put))
    (ends_base c.args.moment c.args.note.now these c.self.inside.ends_in_change (c.self.invariant was) c.in-Some.number (c.in-Some.ensures.1 ∙ ap (λ n. n + 1) (c.last.ensures was)) listed c.in_ok-lines.lines.items are c.in_ok-lines.ensures.puts)

pub returns-clause-appends : goal.returns-clause-appends
returns-clause-appends g c =
    let fits : FitsSigned w64 c.args.moment = search rules in
    let old = c.self.inside.chain in
    let listed = c.args.listed.items in
    let are = rw (to_z-of_z w64 c.args.moment fits) at c.in_ok-lines.ensures.lines in
    let put : map (λ line. line.now) c.deref.result.now ≡ c.in_ok-lines.lines.items =
    ap (map (λ line. line.now)) c.deref.ensures.value ∙ c.loop-line.invariant ∙ take_all c.loop-line.line-index c.deref-line-items.result.now (search rules) ∙ c.deref-line-items.ensures.value in
    let number : IsOpen g.S.Store old → c.in-Some.number ≡ length (lines g.S.Store old) + 1 = λ o. c.in-Some.ensures.1 ∙ ap (λ n. n + 1) (c.last.ensures o) in
    subst (λ h. Appends {T = Unit {0}} {X = Unsettled} g.S.Store h c.append_all.new.self (base_lines c.args.moment c.args.note.now (length (lines g.S.Store h) + 1) listed) (Ok _)) c.self.view_is
    (appended_ok g.S.Store old c.append_all.new.self _ _ (λ o. put ∙ are.are ∙ ap (λ n. base_lines c.args.moment c.args.note.now n listed) (number o)) _ c.in_ok-append_all.ensures.appends)
