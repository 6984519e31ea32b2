use Rattle.rd_volume.specs.NeededLaw.{tell_the_same}
use Rattle.rd_volume.proofs.laws.needed_bytes_decide_what_is_told.Goals as goal

pub returns : goal.returns
returns c = tell_the_same
