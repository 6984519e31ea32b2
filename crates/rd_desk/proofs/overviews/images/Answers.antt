use Rattle.std.proofs.Common.{None, refl, rules}
use Rattle.rd_store.specs.Held.{desk}
use Rattle.rd_protocol.proofs.FileReplies.{images_name_nothing, question_accepted, question_asked}
use Rattle.rd_protocol.proofs.ListedFiles.{image_lines_are}
use Rattle.rd_desk.proofs.overviews.images.Goals as goal

pub returns : goal.returns
returns g c = record {
  keeps = search rules;
  answer = λ o badge known.
      let d = desk g.S.Store c.args.store.now in
      let audience = c.args.caller.now.audience in
      let day = c.args.caller.now.day in
      record {
        file = None;
        audience = audience;
        asked = question_asked d day badge _ images_name_nothing;
        caller = known;
        accepted = question_accepted d badge audience _ images_name_nothing known;
        tells = image_lines_are d audience day c.in_ok-over_all.field-0 (c.in_ok-over_all.ensures.answer o);
        after = refl;
      };
  ends_open = search rules;
}
