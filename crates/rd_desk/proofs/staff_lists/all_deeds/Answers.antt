use Rattle.std.proofs.Common.{◌≡◌, ◌∙◌, ◌++◌, [], ◌∷◌, ap, map, map-id, sym}
use Rattle.std.specs.FinMap.{entries}
use Rattle.std.proofs.lemmas.Iterator.Adapters.{YieldsList-from_vec}
use Rattle.std.proofs.lemmas.Iterator.Consumers.{YieldsList-end}
use Rattle.std.proofs.lemmas.List.{map-append}
use Rattle.rd_store.specs.Held.{desk}
use Rattle.rd_holdings.specs.State.{Desk, registered}
use Rattle.rd_desk.specs.StaffLists.{deed_line_of}
use Rattle.rd_desk.proofs.ListLemmas.{lines_alike}
use Rattle.rd_desk.proofs.ResponseLemmas.{keeps_then}
use Rattle.rd_desk.proofs.staff_lists.all_deeds.Goals as goal

pub loop-entry-preserved : goal.loop-entry-preserved
loop-entry-preserved g c = record {
  keeps = keeps_then g.S.Store c.deeds.new.self c.loop-entry.store c.deed_line.new.store c.loop-entry.invariant.keeps (λ was clean. c.loop-entry.invariant.open_if_clean clean) c.deed_line.ensures.keeps;
  open_if_clean = λ clean. c.in_ok-line.ensures.ends_open clean;
  lines_are = λ o.
      let was = c.deed_line.ensures.keeps.lasts.was_open o in
      let d = desk g.S.Store c.deeds.new.self in
      let register = c.in_ok-register.register.items in
      let entry = c.in-Some.entry in
      let same : desk g.S.Store c.loop-entry.store ≡ d = c.loop-entry.invariant.keeps.same was in
      let line : c.in_ok-line.line ≡ deed_line_of d register entry =
      c.in_ok-line.ensures.answer o ∙ ap (λ (e : Desk). deed_line_of e c.deref.result.now entry) same ∙ ap (λ r. deed_line_of d r entry) c.deref.ensures.value in
      c.in-Ok.ensures.items ∙ (λ i. c.loop-entry.invariant.lines_are was i ++ line i ∷ []) ∙ sym (map-append (deed_line_of d register) c.loop-entry.yielded (entry ∷ []));
}

pub returns : goal.returns
returns g c = record {
  keeps = keeps_then g.S.Store c.args.store.now c.deeds.new.self c.loop-entry.store
      (keeps_then g.S.Store c.args.store.now c.register.new.self c.deeds.new.self c.register.ensures.reads.keeps (λ was clean. c.in_ok-register.ensures.reads.ends_open clean) c.deeds.ensures.reads.keeps)
      (λ was clean. c.in_ok-deeds.ensures.reads.ends_open clean) c.loop-entry.invariant.keeps;
  ends_open = λ clean. c.loop-entry.invariant.open_if_clean clean;
  answer = λ o.
      let third = c.loop-entry.invariant.keeps.lasts.was_open o in
      let second = c.deeds.ensures.reads.keeps.lasts.was_open third in
      let d = desk g.S.Store c.args.store.now in
      let first_same : desk g.S.Store c.register.new.self ≡ d = c.register.ensures.reads.keeps.same second in
      let same : desk g.S.Store c.deeds.new.self ≡ d = c.deeds.ensures.reads.keeps.same third ∙ first_same in
      let register : c.in_ok-register.register.items ≡ map registered (entries d.images) = c.in_ok-register.ensures.reads.answer second in
      let deeds : c.in_ok-deeds.deeds.items ≡ entries d.deeds = c.in_ok-deeds.ensures.reads.answer third ∙ ap (λ (e : Desk). entries e.deeds) first_same in
      let gives = c.into_iter-entry-iterator.ensures.into_iter_gives in
      let end = YieldsList-end (YieldsList-from_vec {s = c.into_iter-entry-iterator.result} c.in_ok-deeds.deeds.items gives.0 (gives.1 ∙ c.in_ok-deeds.deeds.ok.0)) c.loop-entry.yielded c.loop-entry.entry-iterator c.loop-entry.yielded_by c.next.result c.next.new.self c.in-None.is c.next.ensures.steps in
      let all : c.loop-entry.yielded ≡ c.in_ok-deeds.deeds.items = sym (map-id c.loop-entry.yielded) ∙ end.0 in
      c.of.ensures ∙ c.loop-entry.invariant.lines_are o ∙ (λ i. map (deed_line_of (same i) c.in_ok-register.register.items) ((all ∙ deeds) i)) ∙ lines_alike d c.in_ok-register.register.items register (entries d.deeds);
}
