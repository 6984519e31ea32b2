use Rattle.std.proofs.Common.{◌≡◌, ◌++◌, map, take}
use Rattle.rd_history.specs.Standings.{key_put}
use Rattle.rd_history.proofs.base.with_keys.Given as goal

abbrev pub invariant-loop-key : goal.invariant-loop-key
invariant-loop-key l = l.all.items ≡ l.fn.listed.items ++ map key_put (take l.key-index l.keys)
