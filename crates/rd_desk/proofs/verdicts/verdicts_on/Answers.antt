use Rattle.std.proofs.Common.{w32}
use Rattle.std.proofs.lemmas.Int.{to_z-of_z}
use Rattle.rd_policy.specs.declared.audience.Audience.TheVariants.{Public, Room, Staff}
use Rattle.rd_desk.proofs.verdicts.verdicts_on.Goals as goal

pub returns : goal.returns
returns c =
    let day = to_z-of_z w32 c.args.day c.ranges.day in
    let public = rw day at c.judge_in_turn-public.ensures in
    let room = rw day at c.judge_in_turn-room.ensures in
    let staff = rw day at c.judge_in_turn-staff.ensures in
    elim [ Public ↦ public | Room ↦ room | Staff ↦ staff ]
