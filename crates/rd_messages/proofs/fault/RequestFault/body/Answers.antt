use Rattle.std.proofs.Common.{rules}
use Rattle.serde_json.proofs.OnLiterals.{serde_json_on_literals}
use Rattle.rd_messages.proofs.fault.RequestFault.body.Goals as goal

pub returns-in-BadHead : goal.returns-in-BadHead
unfolding serde_json_on_literals
returns-in-BadHead c = rw c.in-BadHead.is (search rules)

pub returns-in-Framing : goal.returns-in-Framing
unfolding serde_json_on_literals
returns-in-Framing c = rw c.in-Framing.is (search rules)

pub returns-in-NoRoute : goal.returns-in-NoRoute
unfolding serde_json_on_literals
returns-in-NoRoute c = rw c.in-NoRoute.is (search rules)

pub returns-in-Method : goal.returns-in-Method
unfolding serde_json_on_literals
returns-in-Method c = rw c.in-Method.is (search rules)
