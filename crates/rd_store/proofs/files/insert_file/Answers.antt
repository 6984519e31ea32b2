use Rattle.rd_store.proofs.Common.{◌≡◌, get_or, sym, Found}
use Rattle.rd_store.proofs.files.insert_file.Goals as goal

pub returns-in-Ok-clause-moves : goal.returns-in-Ok-clause-moves
returns-in-Ok-clause-moves g c desk images =
    let file : Found = c.index-files-at.result in
    let this : get_or c.args.files.now c.args.at file ≡ file = sym c.index-files-at.is in
    c.insert_row.ensures.moves desk images c.args.files.now c.args.at c.requires.inside this c.requires.ascending
