use Rattle.std.proofs.Common.{ℕ, List, map, option_map, rules, subst, take_all}
use Rattle.rd_holdings.specs.declared.rows.Accession.{Accession}
use Rattle.rd_store.specs.Held.{desk}
use Rattle.rd_desk.specs.Rehearsing.{AreDifferencesOf, desk_changed, place_at}
use Rattle.rd_desk.proofs.RehearsalLemmas.{register_more, registered_still}
use Rattle.rd_desk.proofs.ResponseLemmas.{keeps_then}
use Rattle.rd_desk.proofs.rehearsals.of_register.Goals as goal

pub loop-entry-init : goal.loop-entry-init
loop-entry-init g c = record { keeps = search rules; open_if_clean = search rules; lines = λ o. c.new-lines.ensures.items }

pub with_accession-requires-clause-known : goal.with_accession-requires-clause-known
with_accession-requires-clause-known g c = λ o.
    let was = c.loop-entry.invariant.keeps.lasts.was_open o in
    registered_still (desk g.S.Store c.args.store.now) (desk g.S.Store c.loop-entry.store) c.args.register.now c.loop-entry.entry-index _ (c.loop-entry.invariant.keeps.same o) (c.requires.known was) c.loop-entry-test.true

pub loop-entry-preserved : goal.loop-entry-preserved
loop-entry-preserved g c = record {
  keeps = keeps_then g.S.Store c.args.store.now c.loop-entry.store c.with_accession.new.store c.loop-entry.invariant.keeps (λ was clean. c.loop-entry.invariant.open_if_clean clean) c.with_accession.ensures.keeps;
  open_if_clean = λ clean. c.in_ok-lines.ensures.ends_open clean;
  lines = λ o.
      let was = c.with_accession.ensures.keeps.lasts.was_open o in
      let r = c.args.rehearsal.now in
      register_more (desk g.S.Store c.args.store.now) (desk g.S.Store c.loop-entry.store) (place_at r.band r.scope r.rank) (option_map (λ rule. rule.now) r.rule) r.day c.args.register.now c.loop-entry.entry-index _
      c.loop-entry.lines.items c.in_ok-lines.lines.items (c.in_ok-lines.ensures.answer o) (c.loop-entry.invariant.keeps.same was) c.loop-entry-test.true (c.loop-entry.invariant.lines was);
}

pub returns : goal.returns
returns g c = record {
  keeps = c.loop-entry.invariant.keeps;
  ends_open = λ clean. c.loop-entry.invariant.open_if_clean clean;
  answer = λ o.
      let d = desk g.S.Store c.args.store.now in
      let r = c.args.rehearsal.now in
      let put = option_map (λ rule. rule.now) r.rule in
      subst (λ (entries : List (ℕ × Accession)). AreDifferencesOf d (desk_changed (place_at r.band r.scope r.rank) put d) r.day (map (λ (e : ℕ × Accession). e.0) entries) c.loop-entry.lines.items)
      (take_all c.loop-entry.entry-index c.args.register.now (search rules)) (c.loop-entry.invariant.lines o);
}
