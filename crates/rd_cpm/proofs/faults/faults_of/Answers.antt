use Rattle.std.proofs.Common.{◌≡◌, ◌*◌, arith}
use Rattle.rd_cpm.proofs.BitLemmas.{bits_of_tests, weighed, digit}
use Rattle.rd_cpm.proofs.faults.faults_of.Goals as goal

pub returns : goal.returns
returns c =
    let a : c.weight.result ≡ 1 * digit c.has_bad_count.result = weighed _ 1 _ c.weight.ensures in
    let b : c.weight-2.result ≡ 2 * digit c.has_duplicate.result = weighed _ 2 _ c.weight-2.ensures in
    let d : c.weight-3.result ≡ 4 * digit c.has_gap.result = weighed _ 4 _ c.weight-3.ensures in
    let e : c.weight-4.result ≡ 8 * digit c.is_short.result = weighed _ 8 _ c.weight-4.ensures in
    let f : c.weight-5.result ≡ 16 * digit c.has_hole.result = weighed _ 16 _ c.weight-5.ensures in
    let g : c.weight-6.result ≡ 32 * digit c.is_off_disk.result = weighed _ 32 _ c.weight-6.ensures in
    let h : c.weight-7.result ≡ 64 * digit c.is_crossed.result = weighed _ 64 _ c.weight-7.ensures in
    bits_of_tests _ _ _ _ _ _ _ _ _ _ (omega arith) c.has_bad_count.ensures c.has_duplicate.ensures c.has_gap.ensures c.is_short.ensures
    c.has_hole.ensures c.is_off_disk.ensures c.is_crossed.ensures
