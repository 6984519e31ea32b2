use Rattle.std.proofs.Common.{◌/◌, ◌^◌, bit_and}
use Rattle.std.proofs.lemmas.Bool.Decides.{Decides-eqb}
use Rattle.std.proofs.lemmas.Nat.{bit_set_by_shift}
use Rattle.rd_cbm.proofs.map.is_bit_set.Goals as goal

pub returns : goal.returns
returns c =
    let test = Decides-eqb (bit_and (c.args.byte / 2 ^ c.args.bit) 1) 1 in
    let bit = bit_set_by_shift c.args.byte c.args.bit in
    (λ set. bit.0 (test.0 set), λ is. test.1 (bit.1 is))
