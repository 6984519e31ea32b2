use Rattle.std.proofs.Common.{◌≡◌, ◌*◌, not, arith}
use Rattle.rd_cbm.proofs.BitLemmas.{bits_of_tests, weighed, digit}
use Rattle.rd_cbm.proofs.TestLemmas.{not_by}
use Rattle.rd_cbm.proofs.faults.faults_of.Goals as goal

pub returns : goal.returns
returns c =
    let a : c.weight.result ≡ 1 * digit (not c.is_closed.result) = weighed _ 1 _ c.weight.ensures in
    let b : c.weight-2.result ≡ 2 * digit c.either_goes_off.result = weighed _ 2 _ c.weight-2.ensures in
    let d : c.weight-3.result ≡ 4 * digit c.either_loops.result = weighed _ 4 _ c.weight-3.ensures in
    let e : c.weight-4.result ≡ 8 * digit c.either_has_shared.result = weighed _ 8 _ c.weight-4.ensures in
    let f : c.weight-5.result ≡ 16 * digit c.either_has_error.result = weighed _ 16 _ c.weight-5.ensures in
    bits_of_tests _ _ _ _ _ _ _ _ _ _ _ (omega arith) (not_by c.is_closed.result c.is_closed.ensures) c.either_goes_off.ensures c.either_loops.ensures c.either_has_shared.ensures c.either_has_error.ensures
