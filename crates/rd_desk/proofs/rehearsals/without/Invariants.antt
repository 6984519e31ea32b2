use Rattle.std.proofs.Common.{◌≡◌, [], ◌∷◌, cond, take}
use Rattle.std.specs.List.{flat_map}
use Rattle.rd_desk.specs.Rehearsing.{is_there, place_at}
use Rattle.rd_desk.proofs.rehearsals.without.Given as goal

abbrev pub invariant-loop-rule : goal.invariant-loop-rule
invariant-loop-rule l = l.kept.items ≡ flat_map (λ rule. cond (is_there (place_at l.rehearsal.band l.rehearsal.scope l.rehearsal.rank) rule) [] (rule ∷ [])) (take l.rule-index l.rules)
