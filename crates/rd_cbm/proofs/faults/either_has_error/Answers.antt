use Rattle.std.proofs.Common.{◌↔◌, IsTrue, false, subst}
use Rattle.rd_geometry.specs.CbmDisks.{cbm_bytes}
use Rattle.rd_cbm.specs.Marked.{SomeError}
use Rattle.rd_cbm.proofs.TestLemmas.{second_tells}
use Rattle.rd_cbm.proofs.faults.either_has_error.Goals as goal

pub returns : goal.returns
returns c = second_tells _
    (subst (λ blocks. IsTrue false ↔ SomeError (cbm_bytes c.args.disk.now) blocks) c.as_slice.ensures c.if-has_error.ensures)
    (subst (λ blocks. IsTrue c.has_error-2.result ↔ SomeError (cbm_bytes c.args.disk.now) blocks) c.as_slice-2.ensures c.has_error-2.ensures)
