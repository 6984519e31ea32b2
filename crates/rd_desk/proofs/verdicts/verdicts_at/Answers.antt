use Rattle.std.proofs.Common.{◌∙◌, All, refl, rules, subst, sym, w32}
use Rattle.std.specs.FinMap.{get}
use Rattle.std.proofs.lemmas.Int.{to_z-of_z}
use Rattle.rd_volume.specs.Volumes.{AreFounds}
use Rattle.rd_store.specs.Index.{AreFilesIn}
use Rattle.rd_protocol.specs.Verdicts.{IsDecided}
use Rattle.rd_desk.specs.Calls.{AreAccessionRules}
use Rattle.rd_desk.proofs.verdicts.verdicts_at.Goals as goal

pub returns : goal.returns
returns g c = record {
  keeps = search rules;
  answer = λ o.
      let known = c.in_ok-accession.ensures.reads in
      let loaded = c.in_ok-loaded.ensures.reads in
      let found = c.in_ok-found.ensures.reads in
      let opened = found.keeps.lasts.was_open o in
      let same = known.keeps.same (loaded.keeps.lasts.was_open opened) in
      let stands = subst (λ desk. AreAccessionRules desk c.args.acc c.in_ok-loaded.loaded) same (loaded.answer opened) in
      let image = stands.0 in
      let files = subst (λ row. AreFilesIn row c.in_ok-found.found) stands.1
      (subst (λ desk. AreFilesIn (get desk.images c.args.acc) c.in_ok-found.found) (loaded.keeps.same opened ∙ same) (found.answer o)) in
      let decided = rw (to_z-of_z w32 c.args.day c.ranges.day) at c.in_ok-files.ensures.decided in
      record {
        image = image;
        standing = stands.1;
        accession = refl;
        deed = stands.3;
        kind = stands.2;
        files = record {
          all = subst (AreFounds image.kind image.bytes) (sym c.in_ok-files.ensures.files) files;
          decided = subst (λ rules. All (IsDecided rules c.args.day) c.in_ok-files.files) (c.as_slice.ensures ∙ stands.4) decided;
        };
      };
  ends_open = search rules;
}
