use Rattle.std.proofs.Common.{◌≡◌, ◌∙◌, ◌-◌, [], arith, drop, length, map, subst, sym, take}
use Rattle.rd_chain.proofs.Reading.{lines_read}
use Rattle.rd_chain.specs.Held.{lines}
use Rattle.rd_chain.specs.Rows.{MOST_READ}
use Rattle.rd_history.specs.Settled.{EndIn}
use Rattle.rd_history.specs.Stages.{text_of}
use Rattle.rd_history.proofs.NearLemmas.{first_read, last_read, none_first, none_read}
use Rattle.rd_history.proofs.history.History.last_entry.Goals as goal

pub returns-in-Ok-entry_in-clause-last : goal.returns-in-Ok-entry_in-clause-last
returns-in-Ok-entry_in-clause-last g c = λ is_open.
    let these = lines g.S.Store c.self.inside.chain in
    let after : c.saturating_sub.result ≡ length these - 1 = omega (arith, c.saturating_sub.ensures, c.last-last.ensures (c.in-Ok.ensures.keeps.lasts.was_open is_open)) in
    let read = subst (λ n. map text_of c.in-Ok.page.items ≡ take MOST_READ (drop n these)) after (lines_read these c.saturating_sub.result c.in-Ok.page.items (c.in-Ok.ensures.answer is_open)) in
    let first = first_read c.in-Ok.page.items c.in-Some.line.now (rw c.deref.ensures.value at c.in-Some.ensures.value) in
    subst (λ h. EndIn (lines g.S.Store h) c.in-Ok-entry_in.entry) c.self.view_is (record {
      before = take (length these - 1) these;
      line = text_of c.in-Some.line.now;
      are = last_read these (text_of c.in-Some.line.now) _ (sym first ∙ read);
      of = c.in-Ok-entry_in.ensures;
    })

pub returns-clause-last : goal.returns-clause-last
returns-clause-last g c = λ is_open.
    let these = lines g.S.Store c.self.inside.chain in
    let after : c.saturating_sub.result ≡ length these - 1 = omega (arith, c.saturating_sub.ensures, c.last-last.ensures (c.in-Ok.ensures.keeps.lasts.was_open is_open)) in
    let read = subst (λ n. map text_of c.in-Ok.page.items ≡ take MOST_READ (drop n these)) after (lines_read these c.saturating_sub.result c.in-Ok.page.items (c.in-Ok.ensures.answer is_open)) in
    subst (λ h. lines g.S.Store h ≡ []) c.self.view_is (none_read these (none_first c.in-Ok.page.items (rw c.deref.ensures.value at c.in-None.ensures.value) ∙ read))
