use Rattle.std.proofs.Common.{◌≡◌, ◌∙◌, IfSome, [], ap, false, flat_map, subst, sym}
use Rattle.rd_explanations.specs.Explained.{shown_line}
use Rattle.rd_explanations.specs.Notes.{IsQuiet}
use Rattle.rd_commands.proofs.ExplainLemmas.{nothing_written}
use Rattle.rd_program.proofs.QuietLemmas.{quiet_then, still_quiet}
use Rattle.rd_program.proofs.explaining.explain.Goals.{in-Some-refused, in_default-refused}
use Rattle.rd_program.proofs.explaining.explain.Goals as goal

-- where no explanation is asked for, no line is noted, and none is written
pub returns-clause-silent : goal.returns-clause-silent
returns-clause-silent g c = λ silent.
    let wants : c.in-Some.parsed.options.explain ≡ false = subst (λ parsed. IfSome parsed (λ it. it.options.explain ≡ false)) c.in-Some.is silent in
    let refusal : IsQuiet c.note_rows.new.notes c.match-why-2.notes = elim c.match-why-2.branch [
      | in-Some-refused w ↦ subst (λ notes. IsQuiet c.note_rows.new.notes notes) (sym w.notes-is) w.note_refusal.ensures.quiet
      | in_default-refused w ↦ subst (λ notes. IsQuiet c.note_rows.new.notes notes) (sym w.notes-is) (still_quiet c.note_rows.new.notes)
    ] in
    let quiet = quiet_then c.want.new.self c.note_rows.new.notes c.match-why-2.notes c.note_rows.ensures.quiet refusal in
    let empty : c.want.new.self.lines.items ≡ [] = cc in
    let all = quiet_then c.want.new.self c.match-why-2.notes c.note_deed.new.notes quiet c.note_deed.ensures.quiet in
    let none : c.note_deed.new.notes.lines.items ≡ [] = (all (c.want.ensures.wanted ∙ wants)).1 ∙ empty in
    nothing_written _ _ _ (ap (flat_map shown_line) none) c.tell_notes.ensures.written
