use Rattle.std.proofs.Common.{◌<◌}
use Rattle.std.proofs.lemmas.List.Elements.{All-rest}
use Rattle.rd_volume.specs.Disks.{disk_kind}
use Rattle.rd_volume.specs.Kinds.{unit_count_of}
use Rattle.rd_volume.proofs.slices.PiecesIterator.next.Goals as goal

pub invariant_of-self : goal.invariant_of-self
invariant_of-self c = record {
  inside = All-rest (λ unit. unit < unit_count_of (disk_kind c.args.self.now.disk)) c.in_ok-unit.unit.now c.in_ok-unit.rest.now c.args.self.now.units.now
      c.in_ok-unit.ensures.cases.0 c.args.self.now.inside;
  last = c.args.self.now.last;
}
