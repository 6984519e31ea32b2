use Rattle.std.proofs.Common.{◌≡◌, ◌∙◌, ap, false, subst, sym, IsUtf8}
use Rattle.serde_json.specs.View.{view}
use Rattle.serde_json.specs.Written.{compact_text, has_float}
use Rattle.rd_history.proofs.LineLemmas.{entry_has_no_float}
use Rattle.rd_history.proofs.writing.line.Goals as goal

pub returns-clause-line : goal.returns-clause-line
returns-clause-line c =
    let whole : has_float (view c.in_ok-value.value) ≡ false = ap has_float c.in_ok-value.ensures ∙ entry_has_no_float c.args.entry.now c.requires in
    c.of.ensures ∙ c.in_ok-text.ensures.text whole ∙ ap compact_text c.in_ok-value.ensures

pub returns-clause-utf8 : goal.returns-clause-utf8
returns-clause-utf8 c = subst IsUtf8 (c.as_bytes-utf8.ensures.value ∙ c.as_str.ensures.value ∙ sym c.of.ensures) c.as_bytes-utf8.ensures.utf8
