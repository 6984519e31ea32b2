use Rattle.std.proofs.Common.{◌≡◌, ◌∙◌, ◌+◌, ◌∷◌, [], ◌++◌, Err, FitsSigned, IsUtf8, ap, arith, length, rules, subst, sym, w64}
use Rattle.std.proofs.lemmas.Int.{to_z-of_z}
use Rattle.rd_tables.specs.Connections.{IsClean, IsOpen}
use Rattle.rd_chain.specs.Held.{Appends, lines}
use Rattle.rd_chain.specs.declared.faults.ChainFault.TheVariants.{Full, Sql}
use Rattle.rd_history.specs.Entries.{IsEntry}
use Rattle.rd_history.specs.Histories.{MayCome, line_at}
use Rattle.rd_history.specs.Left.{LeavesHistory}
use Rattle.rd_history.specs.Lines.{line_of}
use Rattle.rd_history.specs.Stages.{EndsSo}
use Rattle.rd_history.specs.declared.entry.Entry.{Entry}
use Rattle.rd_history.proofs.Appended.{appends_nothing, ends_more}
use Rattle.rd_history.proofs.LeftLemmas.{puts_history, rests_history}
use Rattle.rd_history.proofs.StageLemmas.{may_be_taken_back}
use Rattle.rd_history.proofs.history.History.append.Goals as goal

pub returns-then-last-ge-LAST_NUMBER-clause-appends : goal.returns-then-last-ge-LAST_NUMBER-clause-appends
returns-then-last-ge-LAST_NUMBER-clause-appends g c =
    subst (λ h. Appends {T = Unit {0}} g.S.Store h h (line_at (length (lines g.S.Store h) + 1) c.args.entry ∷ []) (Err Full)) c.self.view_is (appends_nothing g.S.Store c.self.inside.chain _ Full c.between_calls.ensures)

pub returns-in_default-clause-appends : goal.returns-in_default-clause-appends
returns-in_default-clause-appends g c =
    subst (λ h. Appends {T = Unit {0}} g.S.Store h h (line_at (length (lines g.S.Store h) + 1) c.args.entry ∷ []) (Err Sql)) c.self.view_is (appends_nothing g.S.Store c.self.inside.chain _ Sql c.between_calls.ensures)

-- the history with the entry
pub invariant_of-self : goal.invariant_of-self
invariant_of-self g c = λ is_open.
    let old = c.self.inside.chain in
    let appends = c.in-Ok-append.ensures.appends in
    let was = appends.lasts.was_open is_open in
    let entry : Entry = record c.args.entry { number = c.last-last.result + 1 } in
    let fits : FitsSigned w64 c.args.entry.moment = search rules in
    let line : c.in-Ok.line ≡ line_of entry = c.in-Ok.ensures.line ∙ ap (λ m. line_of (record entry { moment = m })) (to_z-of_z w64 c.args.entry.moment fits) in
    let number : entry.number ≡ length (lines g.S.Store old) + 1 = ap (λ n. n + 1) (c.last-last.ensures was) in
    let within : IsEntry entry = record { change = c.requires.fits.change; moment = c.requires.fits.moment; note = c.requires.fits.note; number = (omega arith, omega arith); staff = c.requires.fits.staff; signed = c.requires.fits.signed } in
    let comes = subst (λ h. IsOpen g.S.Store h → MayCome c.args.entry.change (lines g.S.Store h)) (sym c.self.view_is) c.requires.comes was in
    subst (EndsSo c.is_asked-ends_in_change.result) (sym (appends.ok is_open ∙ ap (λ l. lines g.S.Store old ++ l ∷ []) (c.as_str.ensures ∙ line)))
    (ends_more (lines g.S.Store old) c.self.inside.ends_in_change c.is_asked-ends_in_change.result entry (c.self.invariant was) comes within c.requires.digests number (subst IsUtf8 line c.in-Ok.ensures.utf8)
    c.is_asked-ends_in_change.ensures.0 c.is_asked-ends_in_change.ensures.1)

pub returns-in-Ok-append-clause-back : goal.returns-in-Ok-append-clause-back
returns-in-Ok-append-clause-back g c = λ is_open may.
    let these = lines g.S.Store c.append.new.self in
    may_be_taken_back these (subst (λ flag. EndsSo flag these) (c.is_asked-ends_in_change.ensures.1 may) (invariant_of-self g c is_open))

pub returns-then-last-ge-LAST_NUMBER-clause-crash : goal.returns-then-last-ge-LAST_NUMBER-clause-crash
returns-then-last-ge-LAST_NUMBER-clause-crash g c =
    subst (λ h. IsOpen g.S.Store h → IsClean g.S.Store h → LeavesHistory g.S.Store h) c.self.view_is
    (λ was clean. rests_history g.S.Store c.self.inside.chain c.self.inside.ends_in_change c.between_calls.ensures c.self.invariant was)

pub returns-in_default-clause-crash : goal.returns-in_default-clause-crash
returns-in_default-clause-crash g c =
    subst (λ h. IsOpen g.S.Store h → IsClean g.S.Store h → LeavesHistory g.S.Store h) c.self.view_is
    (λ was clean. rests_history g.S.Store c.self.inside.chain c.self.inside.ends_in_change c.between_calls.ensures c.self.invariant was)

pub returns-in-Ok-append-clause-crash : goal.returns-in-Ok-append-clause-crash
returns-in-Ok-append-clause-crash g c =
    let old = c.self.inside.chain in
    let new = c.append.new.self in
    let entry : Entry = record c.args.entry { number = c.last-last.result + 1 } in
    let fits : FitsSigned w64 c.args.entry.moment = search rules in
    let line : c.in-Ok.line ≡ line_of entry = c.in-Ok.ensures.line ∙ ap (λ m. line_of (record entry { moment = m })) (to_z-of_z w64 c.args.entry.moment fits) in
    let within : IsEntry entry = record { change = c.requires.fits.change; moment = c.requires.fits.moment; note = c.requires.fits.note; number = (omega arith, omega arith); staff = c.requires.fits.staff; signed = c.requires.fits.signed } in
    let comes = subst (λ h. IsOpen g.S.Store h → MayCome c.args.entry.change (lines g.S.Store h)) (sym c.self.view_is) c.requires.comes in
    subst (λ h. IsOpen g.S.Store h → IsClean g.S.Store new → LeavesHistory g.S.Store new) c.self.view_is
    (puts_history g.S.Store old new c.self.inside.ends_in_change c.is_asked-ends_in_change.result entry _ _ c.in-Ok-append.ensures.appends (c.as_str.ensures ∙ line) c.self.invariant comes within c.requires.digests
    (λ was. ap (λ n. n + 1) (c.last-last.ensures was)) (subst IsUtf8 (sym c.as_str.ensures) c.in-Ok.ensures.utf8) c.is_asked-ends_in_change.ensures.0 c.is_asked-ends_in_change.ensures.1)

pub returns-clause-crash : goal.returns-clause-crash
returns-clause-crash g c =
    let old = c.self.inside.chain in
    let new = c.append.new.self in
    let entry : Entry = record c.args.entry { number = c.last-last.result + 1 } in
    let fits : FitsSigned w64 c.args.entry.moment = search rules in
    let line : c.in-Ok.line ≡ line_of entry = c.in-Ok.ensures.line ∙ ap (λ m. line_of (record entry { moment = m })) (to_z-of_z w64 c.args.entry.moment fits) in
    let within : IsEntry entry = record { change = c.requires.fits.change; moment = c.requires.fits.moment; note = c.requires.fits.note; number = (omega arith, omega arith); staff = c.requires.fits.staff; signed = c.requires.fits.signed } in
    let comes = subst (λ h. IsOpen g.S.Store h → MayCome c.args.entry.change (lines g.S.Store h)) (sym c.self.view_is) c.requires.comes in
    subst (λ h. IsOpen g.S.Store h → IsClean g.S.Store new → LeavesHistory g.S.Store new) c.self.view_is
    (puts_history g.S.Store old new c.self.inside.ends_in_change c.is_asked-ends_in_change.result entry _ c.append.result c.append.ensures.appends (c.as_str.ensures ∙ line) c.self.invariant comes within c.requires.digests
    (λ was. ap (λ n. n + 1) (c.last-last.ensures was)) (subst IsUtf8 (sym c.as_str.ensures) c.in-Ok.ensures.utf8) c.is_asked-ends_in_change.ensures.0 c.is_asked-ends_in_change.ensures.1)
