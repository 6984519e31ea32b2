use Rattle.rd_staff_laws.proofs.PutAgain.{put_again}
use Rattle.rd_staff_laws.proofs.put_again.Goals as goal

pub returns : goal.returns
returns c = put_again
