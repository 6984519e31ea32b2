use Rattle.std.proofs.Common.{◌++◌, rules}
use Rattle.rd_protocol.proofs.ListedFiles.{none_more, one_more}
use Rattle.rd_desk.proofs.queries.listed.Goals as goal

pub loop-file-preserved-in-Ok-1 : goal.loop-file-preserved-in-Ok-1
loop-file-preserved-in-Ok-1 c =
    rw c.in-Ok.ensures.items
    (one_more (c.args.takedowns.now ++ c.args.rules.now) c.args.caller.now.audience c.args.caller.now.day c.loop-file.yielded c.loop-file.lines.items c.in-Some.file c.judge_in_turn-verdict.result
    c.loop-file.invariant c.judge_in_turn-verdict.ensures (search rules))

pub loop-file-preserved : goal.loop-file-preserved
loop-file-preserved c =
    none_more (c.args.takedowns.now ++ c.args.rules.now) c.args.caller.now.audience c.args.caller.now.day c.loop-file.yielded c.loop-file.lines.items c.in-Some.file c.judge_in_turn-verdict.result
    c.loop-file.invariant c.judge_in_turn-verdict.ensures (search rules)
