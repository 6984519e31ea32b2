use Rattle.std.proofs.Common.{◌∙◌, ◌*◌, ◌-◌, ◌<◌, ℕ, ap, arith, drop, length, length-drop, length-take, take, take_all}
use Rattle.std.proofs.lemmas.List.Elements.{All-drop, All-take}
use Rattle.rd_volume.specs.Disks.{disk_bytes, disk_kind}
use Rattle.rd_volume.specs.Kinds.{unit_count_of}
use Rattle.rd_volume.proofs.FrontLemmas.{bodies_are_front}
use Rattle.rd_volume.proofs.slices.Pieces.copy_front.Goals as goal

pub copy_bodies-count-requires : goal.copy_bodies-count-requires
copy_bodies-count-requires c =
    let pieces = c.args.self.now in
    All-take (λ unit. unit < unit_count_of (disk_kind pieces.disk)) _ pieces.units.now pieces.inside

pub invariant_of-self : goal.invariant_of-self
invariant_of-self c =
    let pieces = c.args.self.now in
    let units = pieces.units.now in
    let n = c.copy_bodies-count.result in
    record {
      inside = All-take (λ unit. unit < unit_count_of (disk_kind pieces.disk)) (length units - n) (drop n units)
          (All-drop (λ unit. unit < unit_count_of (disk_kind pieces.disk)) n units pieces.inside);
      last = pieces.last;
    }

pub returns-clause-copied : goal.returns-clause-copied
returns-clause-copied c =
    let pieces = c.args.self.now in
    let units = pieces.units.now in
    let n = c.copy_bodies-count.result in
    bodies_are_front (disk_kind pieces.disk) (disk_bytes pieces.disk) units _ _ pieces.last_len n _
    (omega (arith, length-take {A = ℕ})) (omega arith) (take_all (length units - n) (drop n units) (omega (arith, length-drop n units)))
    (ap (λ count. take (count * n) c.copy_bodies-count.new.into) c.room.ensures ∙ c.copy_bodies-count.ensures.copied)
