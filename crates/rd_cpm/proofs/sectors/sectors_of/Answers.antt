use Rattle.std.proofs.Common.{◌≡◌, arith, subst}
use Rattle.rd_cpm.proofs.SectorLemmas.{AreRecordsBelow, records_none, records_more, records_all, records_fit, none_at_last}
use Rattle.rd_cpm.proofs.sectors.sectors_of.Goals as goal

pub loop-number-init : goal.loop-number-init
loop-number-init c = rw c.new-sectors.ensures.items (records_none c.args.entries.now)

pub returns-in_default : goal.returns-in_default
returns-in_default c = records_all _ _ _ c.requires c.loop-number.invariant c.in_default.ensures.none

pub add_records-requires : goal.add_records-requires
add_records-requires c = records_fit _ _ c.requires c.in-Some.ensures.found.0

pub loop-number-preserved : goal.loop-number-preserved
loop-number-preserved c = records_more _ _ _ _ _ c.requires c.loop-number.invariant c.in-Some.ensures.found.0 c.in-Some.ensures.found.1
    c.in_ok-add_records.ensures.before c.in_ok-add_records.ensures.count c.in_ok-add_records.ensures.each

pub returns : goal.returns
returns c =
    let last : c.loop-number.number ≡ 2048 = omega arith in
    records_all _ _ _ c.requires (subst (λ n. AreRecordsBelow c.args.entries.now n c.loop-number.sectors.items) last c.loop-number.invariant) (none_at_last c.args.entries.now)
