use Rattle.std.proofs.Common.{◌∙◌, ◌++◌, ℕ, List, append_assoc, codes, refl, sym}
use Rattle.std.proofs.KnownBytes.{Appends-trans}
use Rattle.rd_commands.specs.Printed.{blanked, line_feed, words_after}
use Rattle.rd_commands.specs.Refusals.{name_of}
use Rattle.rd_commands.proofs.RefusalLine.{line_ends, line_is}
use Rattle.rd_commands.proofs.WriterLemmas.{on_err, on_err_after, on_ok_after, part_after, part_of}
use Rattle.rd_commands.proofs.tell.write_line.Goals as goal

pub returns-in_err-write_bytes-clause-cut : goal.returns-in_err-write_bytes-clause-cut
returns-in_err-write_bytes-clause-cut g c =
    let refused = c.args.refused in
    on_err c.from_residual.result
    (part_of _ _ _ (codes "desk:") ((codes " " ++ name_of refused) ++ (blanked (words_after refused) ++ line_feed)) (line_is refused (name_of refused) refl) c.in_err-write_bytes.ensures.cut)

pub returns-in_err-write_word-clause-cut : goal.returns-in_err-write_word-clause-cut
returns-in_err-write_word-clause-cut g c =
    let refused = c.args.refused in
    on_err c.from_residual-in_err-write_word.result
    (part_after _ _ _ _ (codes "desk:") (codes " " ++ c.name.result.now) (blanked (words_after refused) ++ line_feed) (line_is refused c.name.result.now c.name.ensures)
    c.in_ok-write_bytes.ensures.done c.in_err-write_word.ensures.cut)

pub returns-in_err-write_words_after-clause-cut : goal.returns-in_err-write_words_after-clause-cut
returns-in_err-write_words_after-clause-cut g c =
    let refused = c.args.refused in
    let name : List ℕ = codes " " ++ c.name.result.now in
    on_err c.from_residual-in_err-write_words_after.result
    (part_after _ _ _ _ (codes "desk:" ++ name) (blanked (words_after refused)) line_feed
    (line_is refused c.name.result.now c.name.ensures ∙ sym (append_assoc (codes "desk:") name (blanked (words_after refused) ++ line_feed)))
    (Appends-trans _ _ _ (codes "desk:") name c.in_ok-write_bytes.ensures.done c.in_ok-write_word.ensures.done) c.in_err-write_words_after.ensures.cut)

pub returns-clause-cut : goal.returns-clause-cut
returns-clause-cut g c =
    let refused = c.args.refused in
    let name : List ℕ = codes " " ++ c.name.result.now in
    let words : List ℕ = blanked (words_after refused) in
    on_err_after c.write_bytes-2.result _ _ _ _ (codes "desk:" ++ (name ++ words)) line_feed (line_ends refused c.name.result.now c.name.ensures)
    (Appends-trans _ _ _ (codes "desk:") (name ++ words) c.in_ok-write_bytes.ensures.done
    (Appends-trans _ _ _ name words c.in_ok-write_word.ensures.done c.in_ok-write_words_after.ensures.done)) c.write_bytes-2.ensures.cut

pub returns-clause-done : goal.returns-clause-done
returns-clause-done g c =
    let refused = c.args.refused in
    let name : List ℕ = codes " " ++ c.name.result.now in
    let words : List ℕ = blanked (words_after refused) in
    on_ok_after c.write_bytes-2.result _ _ _ _ (codes "desk:" ++ (name ++ words)) line_feed (line_ends refused c.name.result.now c.name.ensures)
    (Appends-trans _ _ _ (codes "desk:") (name ++ words) c.in_ok-write_bytes.ensures.done
    (Appends-trans _ _ _ name words c.in_ok-write_word.ensures.done c.in_ok-write_words_after.ensures.done)) c.write_bytes-2.ensures.done
