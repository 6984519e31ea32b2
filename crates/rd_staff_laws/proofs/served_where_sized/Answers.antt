use Rattle.rd_staff_laws.proofs.SizedFiles.{served_where_sized}
use Rattle.rd_staff_laws.proofs.served_where_sized.Goals as goal

pub returns : goal.returns
returns c = served_where_sized
