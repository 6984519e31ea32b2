use Rattle.std.proofs.Common.{◌↔◌, IsTrue, false, subst}
use Rattle.rd_cbm.specs.Marked.{SomeShared}
use Rattle.rd_cbm.proofs.TestLemmas.{second_tells}
use Rattle.rd_cbm.proofs.faults.either_has_shared.Goals as goal

pub returns : goal.returns
returns c = second_tells _
    (subst (λ blocks. IsTrue false ↔ SomeShared c.args.uses.now.shared blocks) c.as_slice.ensures c.if-has_shared.ensures)
    (subst (λ blocks. IsTrue c.has_shared-2.result ↔ SomeShared c.args.uses.now.shared blocks) c.as_slice-2.ensures c.has_shared-2.ensures)
