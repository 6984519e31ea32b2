use Rattle.std.proofs.Common.{◌≡◌, ◌∙◌, ap, codes, map}
use Rattle.serde_json.specs.Data.{string}
use Rattle.serde_json.specs.Find.{as_array}
use Rattle.serde_json.specs.View.{items_of, view}
use Rattle.rd_protocol.specs.Texts.{audience_words}
use Rattle.rd_history.proofs.LineEntries.{set_back}
use Rattle.rd_history.proofs.ReadingLemmas.{has_read, same_items}
use Rattle.rd_history.proofs.reading.values.audiences_of.Goals as goal

pub returns : goal.returns
returns c = λ set same.
    let values = c.as_slice-values.result.now in
    let words = audience_words set in
    let items : items_of (map view values) ≡ items_of (map (λ word. string word) words) =
    ap (λ values. items_of (map view values)) c.as_slice-values.ensures.value ∙ same_items _ _ (c.in-Some.ensures ∙ ap as_array same) in
    (λ i. record {
      public = (c.has_word.ensures ∙ has_read values words (codes "public") items) i;
      room = (c.has_word-2.ensures ∙ has_read values words (codes "room") items) i;
      staff = (c.has_word-3.ensures ∙ has_read values words (codes "staff") items) i;
    }) ∙ set_back set
