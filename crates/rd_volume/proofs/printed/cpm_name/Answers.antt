use Rattle.std.proofs.Common.{◌≡◌, ◌<◌, ◌++◌, [], ◌∷◌, length, rules, string_bytes}
use Rattle.rd_volume.proofs.PrintedLemmas.{name_alone, name_with_type}
use Rattle.rd_volume.proofs.printed.cpm_name.Goals as goal

pub returns-then-is_empty : goal.returns-then-is_empty
returns-then-is_empty c =
    let empty : length c.type_part-extension.result.now ≡ 0 = search rules in
    rw c.of.ensures (name_alone _ _ _ _ _ c.name_part.ensures c.type_part-extension.ensures c.in_ok-text.ensures.bytes c.in_ok-push_bytes.ensures empty)

pub returns : goal.returns
returns c =
    let some : 0 < length c.type_part-extension.result.now = search rules in
    let dot : string_bytes c.push.new.self ≡ string_bytes c.push_bytes.new.text ++ 46 ∷ [] = search rules in
    rw c.of-2.ensures (name_with_type _ _ _ _ _ _ _ c.name_part.ensures c.type_part-extension.ensures c.in_ok-text.ensures.bytes
    c.in_ok-push_bytes.ensures dot c.in_ok-push_bytes-2.ensures some)
