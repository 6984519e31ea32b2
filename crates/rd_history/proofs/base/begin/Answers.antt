use Rattle.std.proofs.Common.{◌≡◌, ◌∙◌, ◌+◌, ◌∷◌, ◌++◌, FitsSigned, OnOk, ap, length, rules, subst, w64}
use Rattle.std.proofs.lemmas.Int.{to_z-of_z}
use Rattle.rd_chain.specs.Held.{Appends, lines}
use Rattle.rd_store.specs.Held.{desk}
use Rattle.rd_history.specs.Histories.{AreNumbered, base_entries, base_lines}
use Rattle.rd_history.specs.Standings.{base_of}
use Rattle.rd_history.specs.declared.entry.Change.TheVariants.{Begin}
use Rattle.rd_history.specs.declared.settling.Unsettled.{Unsettled}
use Rattle.rd_history.proofs.BaseLines.{base_told}
use Rattle.rd_history.proofs.NearLemmas.{on_ok_both}
use Rattle.rd_history.proofs.base.begin.Goals as goal

pub returns-clause-told : goal.returns-clause-told
returns-clause-told g c = λ store_open history_open.
    let fits : FitsSigned w64 c.args.moment = search rules in
    let moment = to_z-of_z w64 c.args.moment fits in
    let d = desk g.S.Store c.args.store.now in
    let note = c.args.note.now in
    let old = c.args.history.now in
    let number = length (lines g.H.Store old) + 1 in
    let new = c.append_base-put.new.self in
    let put = c.in_ok-listed.listed.items in
    let appends : Appends {T = Unit {0}} {X = Unsettled} g.H.Store old new (base_lines c.args.moment note number put) c.append_base-put.result =
    subst (λ m. Appends {T = Unit {0}} {X = Unsettled} g.H.Store old new (base_lines m note number put) c.append_base-put.result) moment c.append_base-put.ensures.appends in
    let numbered : OnOk c.append_base-put.result (AreNumbered number (base_entries c.args.moment note number (Begin (length put) ∷ put))) =
    subst (λ m. OnOk c.append_base-put.result (AreNumbered number (base_entries m note number (Begin (length put) ∷ put)))) moment (c.append_base-put.ensures.numbered history_open) in
    let was = appends.lasts.was_open history_open in
    let listed : c.in_ok-listed.listed.items ≡ base_of d = c.in_ok-listed.ensures.answer store_open in
    on_ok_both c.append_base-put.result (λ is numbers.
    base_told c.args.moment note d (lines g.H.Store old) (lines g.H.Store new) (c.between_calls.ensures.history was) (c.between_calls-2.ensures.history history_open)
    (is ∙ ap (λ l. lines g.H.Store old ++ base_lines c.args.moment note number l) listed)
    (subst (λ l. AreNumbered number (base_entries c.args.moment note number (Begin (length l) ∷ l))) listed numbers))
    (appends.ok history_open) numbered
