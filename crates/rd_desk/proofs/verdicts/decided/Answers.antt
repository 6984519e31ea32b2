use Rattle.std.proofs.Common.{◌∙◌, ◌++◌, ◌∷◌, [], All, ap, map, of_z, subst, sym, to_z, w32}
use Rattle.std.proofs.lemmas.List.{map-append}
use Rattle.std.proofs.lemmas.List.Elements.{All-append, All-cons, All-nil}
use Rattle.rd_protocol.specs.Verdicts.{IsDecided}
use Rattle.rd_protocol.specs.declared.response.FileVerdicts.{FileVerdicts}
use Rattle.rd_desk.specs.Rehearsing.{with_verdicts_on}
use Rattle.rd_desk.proofs.verdicts.decided.Goals as goal

pub loop-file-preserved : goal.loop-file-preserved
loop-file-preserved c =
    let file = c.in-Some.file in
    let old = c.loop-file.lines.items in
    let line = with_verdicts_on file c.verdicts_on-verdicts.result in
    let Is = IsDecided (c.args.takedowns.now ++ c.args.rules.now) (to_z w32 (of_z w32 c.args.day)) in
    record {
      files = ap (map (λ (one : FileVerdicts). one.file)) c.in-Ok.ensures.items ∙ map-append (λ (one : FileVerdicts). one.file) old (line ∷ []) ∙ ap (λ files. files ++ file ∷ []) c.loop-file.invariant.files;
      decided = subst (All Is) (sym c.in-Ok.ensures.items) (All-append Is old (line ∷ []) c.loop-file.invariant.decided (All-cons Is line [] c.verdicts_on-verdicts.ensures (All-nil Is)));
    }
