use Rattle.std.proofs.Common.{arith, rules}
use Rattle.std.proofs.lemmas.Bool.Decides.{nat_tests}
use Rattle.std.proofs.lemmas.List.{take_all}
use Rattle.std.proofs.lemmas.List.Sums.{suffix_len-take_yes}
use Rattle.rd_operands.proofs.zone_file.len_through_feed.Goals as goal

pub loop-len-init : goal.loop-len-init
loop-len-init c = search (rules, take_all)

pub loop-len-preserved : goal.loop-len-preserved
loop-len-preserved c = grind (arith, nat_tests, suffix_len-take_yes)
