use Rattle.std.proofs.Common.{◌++◌, List, rules, take, ℕ}
use Rattle.std.specs.List.{flat_map}
use Rattle.csv.specs.Writing.{default_writer, row_text}
use Rattle.rd_protocol.specs.Catalogues.{record_of}
use Rattle.rd_protocol.specs.declared.response.Line.{Line}
use Rattle.rd_protocol.proofs.Tables.{written_all, written_more}
use Rattle.rd_protocol.proofs.catalogue.write_listing.Goals as goal

pub loop-line-preserved : goal.loop-line-preserved
loop-line-preserved c = λ text has.
    let listing = c.args.listing.now in
    let row : Line → List ℕ = λ line. row_text default_writer (record_of listing line) in
    written_more row listing.files c.loop-line.line-index text c.write_line.new.writer c.line-item.result (search rules) (search rules)
    (c.in_ok-write_line.ensures (text ++ flat_map row (take c.loop-line.line-index listing.files)) (c.loop-line.invariant text has))

pub returns : goal.returns
returns c = λ text has.
    let listing = c.args.listing.now in
    written_all (λ line. row_text default_writer (record_of listing line)) listing.files c.loop-line.line-index text c.loop-line.writer (search rules)
    (c.loop-line.invariant text has)
