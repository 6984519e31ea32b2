use Rattle.std.proofs.Common.{◌++◌, List, take, ℕ}
use Rattle.std.specs.List.{flat_map}
use Rattle.csv.specs.Writing.{default_writer, row_text}
use Rattle.rd_protocol.specs.Catalogues.{record_of}
use Rattle.rd_protocol.specs.Written.{HasWritten}
use Rattle.rd_protocol.proofs.catalogue.write_listing.Given as goal

abbrev pub invariant-loop-line : goal.invariant-loop-line
invariant-loop-line l = (text : List ℕ) → HasWritten l.fn.writer text
    → HasWritten l.writer (text ++ flat_map (λ line. row_text default_writer (record_of l.listing line)) (take l.line-index l.listing.files))
