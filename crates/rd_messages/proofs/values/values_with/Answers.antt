use Rattle.std.proofs.Common.{◌≡◌, FitsSigned, Some, codes, refl, replicate, rules, w32}
use Rattle.std.proofs.lemmas.Int.{to_z-of_z}
use Rattle.matchit.specs.Params.{named}
use Rattle.rd_geometry.specs.declared.kind.Kind.TheVariants.{D64}
use Rattle.rd_protocol.specs.Parts.{digest_of, kind_of, rank_of, scope_of, slot_of}
use Rattle.rd_messages.specs.PathValues.{parts_in, value_at}
use Rattle.rd_messages.proofs.values.values_with.Goals as goal

pub returns : goal.returns
returns c =
    let parts = parts_in c.args.params.now in
    let fits : FitsSigned w32 c.args.day = search rules in
    let acc : value_at (named (codes "acc") parts) scope_of 1 ≡ Some c.in_ok-map_or.field-0 = search rules in
    let slot : value_at (named (codes "slot") parts) slot_of 0 ≡ Some c.in_ok-map_or-2.field-0 = search rules in
    let rank : value_at (named (codes "rank") parts) rank_of 1 ≡ Some c.in_ok-map_or-3.field-0 = search rules in
    let kind : value_at (named (codes "kind") parts) kind_of D64 ≡ Some c.in_ok-map_or-4.field-0 = search rules in
    let deed : value_at (named (codes "deed") parts) scope_of 1 ≡ Some c.in_ok-map_or-5.field-0 = search rules in
    let digest : value_at (named (codes "digest") parts) digest_of (replicate 32 0) ≡ Some c.in_ok-map_or-6.field-0 = search rules in
    rw (to_z-of_z w32 c.args.day fits, acc, slot, rank, kind, deed, digest) refl
