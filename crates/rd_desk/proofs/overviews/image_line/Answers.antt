use Rattle.std.proofs.Common.{refl}
use Rattle.rd_desk.proofs.overviews.image_line.Goals as goal

pub returns : goal.returns
returns c = λ desk are stands.
    let listing = c.in_ok-listing.listing in
    let of = c.in_ok-listing.ensures desk are stands in
    record {
      image = of.image;
      lines = listing.files;
      standing = of.standing;
      listed = of.listed;
      is = rw (of.accession, of.deed, of.kind, c.as_slice.ensures) refl;
    }
