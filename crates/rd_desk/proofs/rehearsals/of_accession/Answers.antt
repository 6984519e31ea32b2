use Rattle.std.proofs.Common.{◌≡◌, ◌∙◌, Option, ap, is_some, option_map, subst, sym}
use Rattle.std.specs.FinMap.{get}
use Rattle.rd_holdings.specs.RulesFor.{IsAbout}
use Rattle.rd_holdings.specs.State.{Desk, Stands}
use Rattle.rd_holdings.specs.declared.rows.ImageRow.{ImageRow}
use Rattle.rd_store.specs.Held.{desk}
use Rattle.rd_store.specs.Index.{AreFilesIn}
use Rattle.rd_desk.specs.Rehearsing.{AreDifferencesAt, desk_changed, place_at}
use Rattle.rd_desk.proofs.RehearsalLemmas.{image_of, rehearsal_alone, untouched_at}
use Rattle.rd_desk.proofs.ResponseLemmas.{keeps_then}
use Rattle.rd_desk.proofs.rehearsals.of_accession.Goals as goal

pub returns : goal.returns
returns g c = record {
  keeps = keeps_then g.S.Store c.args.store.now c.accession.new.self c.differences_at.new.store c.accession.ensures.reads.keeps (λ was clean. c.in_ok-accession.ensures.reads.ends_open clean) c.differences_at.ensures.keeps;
  ends_open = λ clean. c.in_ok-lines.ensures.ends_open clean;
  answer = λ o.
      let second = c.differences_at.ensures.keeps.lasts.was_open o in
      let d = desk g.S.Store c.args.store.now in
      let r = c.args.rehearsal.now in
      let acc = r.scope in
      let put = option_map (λ rule. rule.now) r.rule in
      let place = place_at r.band r.scope r.rank in
      let first_same = c.accession.ensures.reads.keeps.same second in
      let end_same = c.differences_at.ensures.keeps.same o ∙ first_same in
      let known = image_of (get d.images acc) c.in-Some.accession (sym (c.in_ok-accession.ensures.reads.answer second) ∙ c.in-Some.is) in
      let at = subst (λ (e : Desk). AreDifferencesAt e (desk_changed place put e) r.day acc c.in_ok-lines.lines.items) first_same (c.in_ok-lines.ensures.answer o) in (
        subst (λ band. Stands d band acc) (sym c.requires.band) (ap is_some known.1),
        rehearsal_alone d place put r.day acc known.0 c.in_ok-lines.lines.items known.1 at (λ other row standing apart.
            let files = c.between_calls.ensures.files o other in
            let found = subst (λ (e : Desk). AreFilesIn (get e.images other) files.0) end_same files.1 in
            untouched_at d place put other row standing r.day
            (λ about. let same : acc ≡ other = subst (λ band. IsAbout other row.deed band acc) c.requires.band about in apart (sym same))
            files.0 (subst (λ (stored : Option ImageRow). AreFilesIn stored files.0) standing found)),
      );
}
