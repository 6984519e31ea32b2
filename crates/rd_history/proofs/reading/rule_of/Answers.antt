use Rattle.std.proofs.Common.{◌≡◌, ◌∙◌, [], ap, arith, codes, sym, unwrap_or}
use Rattle.serde_json.specs.Data.{string}
use Rattle.serde_json.specs.Find.{as_str, get}
use Rattle.serde_json.specs.View.{view}
use Rattle.rd_policy.specs.Rules.{effect_word}
use Rattle.rd_policy.specs.declared.rule.Effect.TheVariants.{Deny}
use Rattle.rd_protocol.specs.Texts.{audience_words, day_or_null, natural, rule_data, select_data, texts}
use Rattle.rd_history.proofs.LineEntries.{effect_back, effect_in}
use Rattle.rd_history.proofs.ReadingLemmas.{read_word}
use Rattle.rd_history.proofs.reading.rule_of.Goals as goal

pub returns : goal.returns
returns c = λ rule is band at_place at_rule.
    let terms : view c.at-terms.result.now ≡ rule_data rule = c.at-terms.ensures (rule_data rule) at_rule in
    let scope : c.number_of.result ≡ rule.scope = c.number_of.ensures rule.scope (omega (arith, is.scope.1)) (c.at-4.ensures (natural rule.scope) at_place) in
    let rank : c.short_of.result ≡ rule.rank = c.short_of.ensures rule.rank (omega (arith, is.rank.1)) (c.at-5.ensures (natural rule.rank) (ap (get (codes "rank")) terms)) in
    let audiences : c.audiences_of.result ≡ rule.audiences =
    c.audiences_of.ensures rule.audiences (c.at-6.ensures (texts (audience_words rule.audiences)) (ap (get (codes "audiences")) terms)) in
    let from : c.in_ok-from.from ≡ rule.from = c.in_ok-from.ensures rule.from is.from (c.at.ensures (day_or_null rule.from) (ap (get (codes "from")) terms)) in
    let until : c.in_ok-until.until ≡ rule.until = c.in_ok-until.ensures rule.until is.until (c.at-3.ensures (day_or_null rule.until) (ap (get (codes "until")) terms)) in
    let select : c.in_ok-select.select ≡ rule.select = c.in_ok-select.ensures rule.select is.select (c.at-2.ensures (select_data rule.select) (ap (get (codes "select")) terms)) in
    let word = c.at-7.ensures (string (effect_word rule.effect)) (ap (get (codes "effect")) terms) in
    let effect : c.unwrap_or.result ≡ rule.effect =
    c.unwrap_or.ensures
    ∙ read_word effect_word effect_in effect_back c.from_word.result Deny c.text_of.result.now c.from_word.ensures.found c.from_word.ensures.none rule.effect
    (c.text_of.ensures ∙ ap (λ d. unwrap_or (as_str d) []) word) in
    λ i. record { band = sym band i; scope = scope i; rank = rank i; audiences = audiences i; from = from i; until = until i; select = select i; effect = effect i }
