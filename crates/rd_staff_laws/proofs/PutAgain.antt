-- To put a rule that stands changes nothing.
use Rattle.rd_holdings.specs.State.{place_cmp}
use Rattle.rd_holdings.proofs.KeyOrders.{place_order}
use Rattle.rd_holdings.proofs.Maps.{insert_kept}
use Rattle.rd_staff_laws.specs.PutAgain.{PutAgain}

pub put_again : PutAgain
put_again desk day place terms stands =
    let same = insert_kept place_cmp place_order.total place_order.same desk.rules place terms stands in
    λ i. record desk { rules = same i }
