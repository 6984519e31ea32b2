use Rattle.std.proofs.Common.{◌++◌, rules, take}
use Rattle.std.specs.List.{flat_map}
use Rattle.rd_protocol.specs.Catalogues.{records_text}
use Rattle.rd_protocol.proofs.Tables.{written_all, written_more}
use Rattle.rd_protocol.proofs.catalogue.write_listings.Goals as goal

pub loop-listing-preserved : goal.loop-listing-preserved
loop-listing-preserved c = λ text has.
    let listings = c.args.listings.now in
    written_more records_text listings c.loop-listing.listing-index text c.write_listing.new.writer c.listing-item.result (search rules) (search rules)
    (c.in_ok-write_listing.ensures (text ++ flat_map records_text (take c.loop-listing.listing-index listings)) (c.loop-listing.invariant text has))

pub returns : goal.returns
returns c = λ text has.
    written_all records_text c.args.listings.now c.loop-listing.listing-index text c.loop-listing.writer (search rules) (c.loop-listing.invariant text has)
