use Rattle.std.proofs.Common.{◌≡◌, ◌∙◌, [], ◌∷◌, ◌++◌, OnOk, ap, append-nil, append_assoc, map, rules, subst, sym}
use Rattle.std.proofs.lemmas.List.{map-append}
use Rattle.rd_volume.specs.Words.{words_left, words_of}
use Rattle.rd_protocol.specs.Texts.{texts}
use Rattle.rd_protocol.specs.Tokens.{Gains, tokens_of}
use Rattle.rd_protocol.proofs.TokenLemmas.{one, words_begun, words_end, words_next}
use Rattle.rd_protocol.proofs.listings.put_words.Goals as goal

pub loop-word-init : goal.loop-word-init
loop-word-init c = record {
  words = search rules;
  gains = one _ _ _ _ c.in_ok-begin_array.ensures;
}

pub loop-word-preserved : goal.loop-word-preserved
loop-word-preserved c =
    let at = c.loop-word in
    let word = c.in-Some.word.now in
    let before = map (λ w. w.now) at.yielded in
    let steps : words_left at.word-iterator ≡ word ∷ words_left c.next.new.self = c.in-Some.ensures.steps in
    let grown : map (λ w. w.now) (at.yielded ++ c.in-Some.word ∷ []) ≡ before ++ word ∷ [] = map-append (λ w. w.now) at.yielded (c.in-Some.word ∷ []) in
    record {
      words = ap (λ l. l ++ words_left c.next.new.self) grown ∙ append_assoc before (word ∷ []) (words_left c.next.new.self) ∙ ap (λ l. before ++ l) (sym steps) ∙ at.invariant.words;
      gains = subst (λ l. Gains c.args.out.now c.string.new.self (words_begun l)) (sym grown) (words_next _ _ _ _ _ _ at.invariant.gains c.in_ok-string.ensures);
    }

pub returns : goal.returns
returns c =
    let at = c.loop-word in
    let words = map (λ w. w.now) at.yielded in
    let none : words_left at.word-iterator ≡ [] = search rules in
    let all : words ≡ words_of c.args.kind c.args.faults = sym (append-nil words) ∙ ap (λ l. words ++ l) (sym none) ∙ at.invariant.words in
    subst (λ l. OnOk c.end_array.result (Gains c.args.out.now c.end_array.new.self (tokens_of (texts l)))) all
    (words_end _ _ _ _ _ at.invariant.gains c.end_array.ensures)
