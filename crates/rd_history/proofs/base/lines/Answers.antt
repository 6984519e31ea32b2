use Rattle.std.proofs.Common.{◌≡◌, ◌+◌, ◌∷◌, [], ◌++◌, FitsSigned, arith, length, length-append, rules, subst, sym, w64}
use Rattle.std.proofs.lemmas.Int.{to_z-of_z}
use Rattle.rd_history.specs.Bases.{AreBaseLines}
use Rattle.rd_history.specs.Entries.{IsEntry}
use Rattle.rd_history.specs.Histories.{IsPut, base_entry}
use Rattle.rd_history.specs.Lines.{line_of}
use Rattle.rd_history.specs.declared.entry.Change.TheVariants.{Begin}
use Rattle.rd_history.proofs.BaseLines.{base_line_more}
use Rattle.rd_history.proofs.StageLemmas.{each_more}
use Rattle.rd_history.proofs.base.lines.Goals as goal

pub loop-change-preserved : goal.loop-change-preserved
loop-change-preserved c =
    let fits : FitsSigned w64 c.args.moment = search rules in
    let moment = to_z-of_z w64 c.args.moment fits in
    let note = c.args.note.now in
    let number = c.args.number in
    let yielded = c.loop-change.yielded in
    let change = c.in-Some.change in
    let changes = Begin c.in-Ok.count ∷ yielded in
    let next : c.loop-change.next ≡ number + length changes = omega (arith, c.loop-change.invariant.next) in
    let are = rw moment at c.loop-change.invariant.lines in
    let line = rw (moment, next) at c.in_ok-line.ensures.line in
    let within = rw (moment, next) at c.in_ok-line.ensures.within in
    let more = base_line_more c.args.moment note number changes c.loop-change.lines.items change c.in_ok-line.line are line c.in_ok-line.ensures.utf8 within c.in_ok-line.ensures.digests in
    record {
      next = omega (arith, c.loop-change.invariant.next, length-append yielded (change ∷ []));
      lines =
          subst (λ m. AreBaseLines m note number (changes ++ change ∷ []) c.push-in-loop-change.new.self.items) (sym moment)
          (subst (AreBaseLines c.args.moment note number (changes ++ change ∷ [])) (sym c.in-Ok-push-2.ensures.items) more);
      puts = each_more IsPut yielded change c.loop-change.invariant.puts (c.is_put.ensures.0 c.if-not-is_put.false);
    }
