use Rattle.rd_store.proofs.Common.{◌≡◌, take, units_code}
use Rattle.rd_store.proofs.codes.of_units.Given as goal

abbrev pub invariant-loop-unit : goal.invariant-loop-unit
invariant-loop-unit l = l.code.items ≡ units_code (take l.unit-index l.units)
