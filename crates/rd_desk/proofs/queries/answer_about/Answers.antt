use Rattle.std.proofs.Common.{rules, subst}
use Rattle.rd_protocol.specs.Queries.{IsWithheld}
use Rattle.rd_protocol.proofs.FileReplies.{served_read, withheld_read}
use Rattle.rd_desk.proofs.queries.answer_about.Goals as goal

pub returns-in-Some : goal.returns-in-Some
returns-in-Some g c = record {
  keeps = search rules;
  answer = λ o image standing kind told.
      withheld_read (record { image = image; rules = c.args.loaded.now.rules }) c.args.loaded.now.kind c.args.caller.now.audience c.args.caller.now.day c.args.file c.in-Some.refusal kind told
      (subst (IsWithheld c.args.loaded.now.kind c.args.loaded.now.rules c.args.caller.now.audience c.args.caller.now.day c.args.file) c.in-Some.is c.withheld.ensures);
  ends_open = search rules;
}

pub returns : goal.returns
returns g c = record {
  keeps = search rules;
  answer = λ o image standing kind told.
      served_read (record { image = image; rules = c.args.loaded.now.rules }) c.args.loaded.now.kind c.args.caller.now.audience c.args.caller.now.day c.args.file c.in_ok-contents.field-0 told
      (search rules) (c.in_ok-contents.ensures.answer o image standing);
  ends_open = search rules;
}
