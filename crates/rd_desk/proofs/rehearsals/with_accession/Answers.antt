use Rattle.std.proofs.Common.{◌≡◌, ◌∙◌, [], Option, option_map, subst, sym}
use Rattle.std.proofs.lemmas.List.{append-nil}
use Rattle.std.specs.FinMap.{get}
use Rattle.rd_holdings.specs.RulesFor.{IsAbout}
use Rattle.rd_holdings.specs.declared.rows.ImageRow.{ImageRow}
use Rattle.rd_store.specs.Held.{desk}
use Rattle.rd_store.specs.Index.{AreFilesIn}
use Rattle.rd_desk.specs.Rehearsing.{place_at}
use Rattle.rd_desk.proofs.RehearsalLemmas.{image_of, untouched_at}
use Rattle.rd_desk.proofs.ResponseLemmas.{keeps_still}
use Rattle.rd_desk.proofs.rehearsals.with_accession.Goals as goal

pub returns-then-accession-rehearsal : goal.returns-then-accession-rehearsal
returns-then-accession-rehearsal g c = record {
  keeps = keeps_still g.S.Store c.args.store.now c.between_calls.ensures;
  ends_open = λ clean. c.requires.open_if_clean clean;
  answer = λ o.
      let d = desk g.S.Store c.args.store.now in
      let r = c.args.rehearsal.now in
      let acc = c.args.acc in
      let put = option_map (λ rule. rule.now) r.rule in
      let known = image_of (get d.images acc) c.args.accession (c.requires.known o) in
      let files = c.between_calls.ensures.files o acc in
      let apart : ¬ IsAbout acc known.0.deed r.band r.scope = λ about.
      let same : r.scope ≡ known.0.deed = subst (λ band. IsAbout acc known.0.deed band r.scope) c.requires.band about in
      c.if-accession-rehearsal.true (sym known.2 ∙ sym same) in
      ([], untouched_at d (place_at r.band r.scope r.rank) put acc known.0 known.1 r.day apart files.0 (subst (λ (stored : Option ImageRow). AreFilesIn stored files.0) known.1 files.1), sym (append-nil c.args.lines.items));
}
