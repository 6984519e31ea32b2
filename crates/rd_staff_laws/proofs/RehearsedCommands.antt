-- A rehearsal foretells its command.
use Rattle.std.proofs.Common.{refl}
use Rattle.rd_protocol.specs.Replies.{carried_out}
use Rattle.rd_protocol.specs.declared.request.What.TheVariants.{DropRule, PutRule}
use Rattle.rd_protocol.proofs.RehearsalLemmas.{is_exact}
use Rattle.rd_staff_laws.specs.RehearsedCommands.{RehearsedDropsFollow, RehearsedRulesFollow}

pub rules_follow : RehearsedRulesFollow
rules_follow desk visited on rule differences tells difference =
    is_exact desk (carried_out visited (PutRule rule) desk) on differences refl tells difference

pub drops_follow : RehearsedDropsFollow
drops_follow desk visited on band scope rank differences tells difference =
    is_exact desk (carried_out visited (DropRule band scope rank) desk) on differences refl tells difference
