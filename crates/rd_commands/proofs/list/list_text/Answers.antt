use Rattle.std.proofs.Common.{◌≡◌, ◌∙◌, ◌++◌, ◌<◌, ap, ap₂, arith, codes, length, sym, take}
use Rattle.std.proofs.lemmas.List.{take_all}
use Rattle.std.specs.Fmt.{decimal}
use Rattle.std.specs.List.{flat_map}
use Rattle.rd_commands.specs.Listed.{line_text, tab}
use Rattle.rd_commands.specs.Printed.{line_feed}
use Rattle.rd_commands.proofs.ListLemmas.{lines_more}
use Rattle.rd_commands.proofs.list.list_text.Goals as goal

pub loop-file-preserved : goal.loop-file-preserved
loop-file-preserved c =
    let inside : c.loop-file.file-index < length c.args.files.now = omega arith in
    c.in_ok-write.ensures.bytes ∙ ap (λ l. l ++ line_text c.args.kind c.file-item.result) c.loop-file.invariant
    ∙ lines_more c.args.kind c.args.files.now c.loop-file.file-index c.file-item.result inside (sym c.file-item.is)

pub returns : goal.returns
returns c =
    let files = c.args.files.now in
    let all : take c.loop-file.file-index files ≡ files = take_all c.loop-file.file-index files (omega arith) in
    c.in_ok-write-2.ensures.bytes
    ∙ ap₂ (λ lines word. lines ++ (codes "files" ++ (tab ++ (decimal (length files) ++ (tab ++ (word ++ line_feed))))))
    (c.loop-file.invariant ∙ ap (flat_map (line_text c.args.kind)) all) c.word-end.ensures
