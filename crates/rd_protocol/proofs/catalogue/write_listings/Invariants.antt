use Rattle.std.proofs.Common.{◌++◌, List, take, ℕ}
use Rattle.std.specs.List.{flat_map}
use Rattle.rd_protocol.specs.Catalogues.{records_text}
use Rattle.rd_protocol.specs.Written.{HasWritten}
use Rattle.rd_protocol.proofs.catalogue.write_listings.Given as goal

abbrev pub invariant-loop-listing : goal.invariant-loop-listing
invariant-loop-listing l = (text : List ℕ) → HasWritten l.fn.writer text
    → HasWritten l.writer (text ++ flat_map records_text (take l.listing-index l.listings))
