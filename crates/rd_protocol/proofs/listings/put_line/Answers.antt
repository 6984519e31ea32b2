use Rattle.std.proofs.Common.{◌≡◌, ◌∙◌, OnOk, ap, subst}
use Rattle.rd_policy.specs.Verdicts.{label_text}
use Rattle.rd_volume.specs.Words.{words_of}
use Rattle.rd_protocol.specs.Texts.{effect_word, file_data, texts}
use Rattle.rd_protocol.specs.Tokens.{Gains, tokens_of}
use Rattle.rd_protocol.proofs.listings.put_line.Goals as goal

pub returns : goal.returns
returns c =
    let line = c.args.line.now in
    let effect : c.word-effect.result.now ≡ effect_word line.verdict.effect = c.word-effect.ensures in
    let rule : c.as_str.result.now ≡ label_text line.verdict.label = c.as_str.ensures.value ∙ c.args.rule.now.of_label ∙ ap label_text c.requires in
    subst (λ described. OnOk c.put_file.result (Gains c.args.out.now c.put_file.new.out (tokens_of described)))
    (λ i. file_data (effect i) (texts (words_of c.args.kind line.file.faults)) (rule i) line.file) c.put_file.ensures
