use Rattle.std.proofs.Common.{◌≡◌, ◌∙◌, ◌⊎◌, ◌↔◌, Contains, FitsSigned, List, Option, Some, false, option_map, rules, subst, sym, w32}
use Rattle.std.proofs.lemmas.Int.{to_z-of_z}
use Rattle.std.proofs.lemmas.Result.{IfOk-weaker}
use Rattle.std.specs.FinMap.{get}
use Rattle.rd_policy.specs.declared.rule.Rule.{Rule}
use Rattle.rd_holdings.specs.RulesFor.{IsAbout}
use Rattle.rd_holdings.specs.State.{Desk, rules_for}
use Rattle.rd_holdings.specs.declared.rows.ImageRow.{ImageRow}
use Rattle.rd_store.specs.Held.{desk}
use Rattle.rd_store.specs.Index.{AreFilesIn}
use Rattle.rd_desk.specs.Rehearsing.{is_there, place_at}
use Rattle.rd_desk.proofs.RehearsalLemmas.{differences_as, differences_over, image_of, placed_if, touched_from, touched_to}
use Rattle.rd_desk.proofs.ResponseLemmas.{keeps_then}
use Rattle.rd_desk.proofs.rehearsals.differences_at.Goals as goal

pub returns : goal.returns
returns g c = record {
  keeps = keeps_then g.S.Store c.args.store.now c.load_rules.new.store c.files.new.store c.load_rules.ensures.reads.keeps (λ was clean. c.in_ok-loaded.ensures.reads.ends_open clean) c.files.ensures.reads.keeps;
  ends_open = search rules;
  answer = λ o.
      let second = c.files.ensures.reads.keeps.lasts.was_open o in
      let first = c.load_rules.ensures.reads.keeps.lasts.was_open second in
      let d = desk g.S.Store c.args.store.now in
      let r = c.args.rehearsal.now in
      let acc = c.args.acc in
      let put = option_map (λ rule. rule.now) r.rule in
      let place = place_at r.band r.scope r.rank in
      let first_same = c.load_rules.ensures.reads.keeps.same second in
      let loaded = c.in_ok-loaded.ensures.reads.answer second in
      let known = image_of (get d.images acc) c.args.accession (c.requires.known first) in
      let image = known.0 in
      let found = subst (λ (e : Desk). AreFilesIn (get e.images acc) c.in_ok-files.files) first_same (c.in_ok-files.ensures.reads.answer o) in
      let founds = subst (λ (stored : Option ImageRow). AreFilesIn stored c.in_ok-files.files) known.1 found in
      let about = subst (λ deed. IsAbout acc deed r.band r.scope) (sym known.2) c.requires.about in
      let placed = placed_if r.rule (λ rule. rule.now) place c.requires.place in
      let those = subst (λ (old : List Rule). (rule : Rule) → Contains c.in_ok-later.later rule ↔ ((Contains old rule × (is_there place rule ≡ false)) ⊎ (put ≡ Some rule))) (c.as_slice.ensures ∙ loaded.4) c.in_ok-later.ensures.those in
      let fits : FitsSigned w32 r.day = search rules in
      IfOk-weaker c.between.result _ _ (λ lines differ.
      differences_as d place put acc image known.1 r.day c.in_ok-later.later c.in_ok-files.files lines.items founds
      (λ rule there. touched_to d place put acc image known.1 about placed rule ((those rule).0 there))
      (λ rule there. (those rule).1 (touched_from d place put acc image known.1 about placed rule there))
      (differences_over _ (rules_for d acc) _ c.in_ok-later.later _ r.day acc _ c.in_ok-files.files lines.items (c.as_slice-2.ensures ∙ loaded.4) c.as_slice-3.ensures (to_z-of_z w32 r.day fits) c.as_slice-4.ensures differ))
      c.between.ensures;
}
