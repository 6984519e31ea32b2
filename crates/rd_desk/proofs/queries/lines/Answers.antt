use Rattle.std.proofs.Common.{rules, subst}
use Rattle.rd_store.specs.Index.{AreFilesIn}
use Rattle.rd_protocol.specs.Queries.{AreLinesOf}
use Rattle.rd_protocol.proofs.FileReplies.{if_ok}
use Rattle.rd_protocol.proofs.ListedFiles.{lines_are}
use Rattle.rd_desk.proofs.queries.lines.Goals as goal

pub returns : goal.returns
returns g c = record {
  keeps = search rules;
  answer = λ o.
      let rules_are = c.args.loaded.now.rules in
      let audience = c.args.caller.now.audience in
      let day = c.args.caller.now.day in
      let files = c.in_ok-files.files in
      if_ok c.listed.result (AreLinesOf c.as_slice.result.now audience day files) _
      (λ lines of image standing. lines_are image rules_are audience day files lines c.requires.order (subst (λ i. AreFilesIn i files) standing (c.in_ok-files.ensures.reads.answer o)) (subst (λ r. AreLinesOf r audience day files lines) c.as_slice.ensures of))
      c.listed.ensures;
  ends_open = search rules;
}
