use Rattle.std.proofs.Common.{◌≡◌, string_bytes, take}
use Rattle.std.specs.List.{flat_map}
use Rattle.rd_commands.specs.Listed.{line_text}
use Rattle.rd_commands.proofs.list.list_text.Given as goal

abbrev pub invariant-loop-file : goal.invariant-loop-file
invariant-loop-file l = string_bytes l.text ≡ flat_map (line_text l.kind) (take l.file-index l.files)
