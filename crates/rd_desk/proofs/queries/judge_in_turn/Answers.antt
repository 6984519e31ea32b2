use Rattle.rd_protocol.proofs.VerdictOrder.{first_decides, first_in_order, second_decides, second_in_order}
use Rattle.rd_desk.proofs.queries.judge_in_turn.Goals as goal

pub judge-verdict-requires : goal.judge-verdict-requires
judge-verdict-requires c = first_in_order c.args.takedowns.now c.args.rules.now c.requires

pub judge-requires : goal.judge-requires
judge-requires c = second_in_order c.args.takedowns.now c.args.rules.now c.requires

pub returns-in-Default : goal.returns-in-Default
returns-in-Default c =
    second_decides c.args.takedowns.now c.args.rules.now c.requires c.args.caller.now.audience c.args.caller.now.day c.args.file.now c.judge-verdict.result c.judge.result c.judge-verdict.ensures c.in-Default.is c.judge.ensures

pub returns-in_default : goal.returns-in_default
returns-in_default c =
    first_decides c.args.takedowns.now c.args.rules.now c.requires c.args.caller.now.audience c.args.caller.now.day c.args.file.now c.judge-verdict.result c.judge-verdict.ensures c.in_default.not-Default
