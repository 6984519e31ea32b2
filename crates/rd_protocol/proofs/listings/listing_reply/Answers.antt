use Rattle.std.proofs.Common.{◌≡◌, ◌∙◌, [], ◌++◌, ap, rules}
use Rattle.json.specs.Print.{print}
use Rattle.serde_json.proofs.Texts.{print-outline}
use Rattle.rd_protocol.specs.Lent.{held}
use Rattle.rd_protocol.specs.Texts.{listing_data}
use Rattle.rd_protocol.specs.Tokens.{tokens_of}
use Rattle.rd_protocol.specs.declared.response.Form.TheVariants.{Json}
use Rattle.rd_protocol.proofs.listings.listing_reply.Goals as goal

pub returns : goal.returns
returns c =
    let value = listing_data c.args.listing.now in
    let out = c.new-out in
    let gains = c.in_ok-put_listing.ensures in
    let empty : out.result.before ≡ [] = search rules in
    let tokens : c.put_listing.new.out.tokens ≡ tokens_of value = gains.tokens ∙ ap (λ first. first ++ tokens_of value) out.ensures.tokens in
    let bytes : c.into_inner.result.items ≡ print (tokens_of value) =
    c.into_inner.ensures.items ∙ ap (λ first. first ++ print c.put_listing.new.out.tokens) (gains.before ∙ empty) ∙ ap print tokens in
    c.reply_of_bytes.ensures ∙ ap (λ text. record { status = 200; form = Json; body = held text }) (bytes ∙ print-outline value)
