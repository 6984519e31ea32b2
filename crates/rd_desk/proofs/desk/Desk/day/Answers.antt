use Rattle.std.proofs.Common.{◌≡◌, ◌↔◌, IfOk, IsOk, subst, w64}
use Rattle.std.proofs.lemmas.Int.{to_z-of_z}
use Rattle.rd_policy.specs.Days.{HasDay}
use Rattle.rd_policy.specs.Zones.{day_number}
use Rattle.rd_desk.proofs.desk.Desk.day.Goals as goal

pub returns-clause-taken : goal.returns-clause-taken
returns-clause-taken g c =
    subst (λ seconds. IsOk c.day_of.result ↔ HasDay seconds) (to_z-of_z w64 c.args.seconds c.ranges.seconds) c.day_of.ensures.taken

pub returns-clause-day : goal.returns-clause-day
returns-clause-day g c =
    subst (λ seconds. IfOk c.day_of.result (λ day. day ≡ day_number seconds c.args.self.now.zone)) (to_z-of_z w64 c.args.seconds c.ranges.seconds) c.day_of.ensures.day
