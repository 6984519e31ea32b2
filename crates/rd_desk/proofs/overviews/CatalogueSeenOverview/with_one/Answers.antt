use Rattle.std.proofs.Common.{◌++◌, ◌∷◌, [], subst, sym}
use Rattle.std.proofs.lemmas.Result.{IfOk-weaker}
use Rattle.std.specs.List.{AllZip}
use Rattle.rd_protocol.specs.Replies.{IsListing}
use Rattle.rd_protocol.proofs.CatalogueLemmas.{listing_more}
use Rattle.rd_desk.proofs.overviews.CatalogueSeenOverview.with_one.Goals as goal

pub returns : goal.returns
returns c =
    let audience = c.args.self.now.caller.audience in
    let day = c.args.self.now.caller.day in
    let acc = c.args.one.acc in
    IfOk-weaker c.with_line.result _ _ (λ all is desk accs are stands says.
    subst (AllZip (IsListing desk audience day) (accs ++ acc ∷ [])) (sym is) (listing_more desk audience day accs c.args.lines.items acc c.in_ok-listing.listing says (c.in_ok-listing.ensures desk are stands))) c.with_line.ensures
