use Rattle.std.proofs.Common.{◌≡◌, ◌∙◌, false, refl, sym, true, true≢false}
use Rattle.std.proofs.lemmas.Slice.Eq.{bytes_eq-Decides}
use Rattle.serde_json.specs.View.{view}
use Rattle.rd_history.proofs.ReadingLemmas.{not_read, unreadable}
use Rattle.rd_history.proofs.reading.read_line.Goals as goal

pub returns-in_default : goal.returns-in_default
returns-in_default c = unreadable c.args.line.now (rw c.in_default.is at c.in_ok-value.ensures)

pub returns-then-not-fits : goal.returns-then-not-fits
returns-then-not-fits c =
    not_read c.args.line.now (view c.in-Some.value) c.in_ok-entry.entry (rw c.in-Some.is at c.in_ok-value.ensures) c.in_ok-entry.ensures.reads
    (λ is. let true_and_false : false ≡ true = c.if-not-fits.ensures.1 is.within in cc)

pub returns-then-eq : goal.returns-then-eq
returns-then-eq c = record {
  within = c.if-not-fits.ensures.0 refl;
  digests = c.in_ok-entry.ensures.bytes;
  written = sym c.in_ok-written.ensures.line ∙ sym c.as_str.ensures ∙ (bytes_eq-Decides c.as_str.result.now c.args.line.now).0 (sym c.if-eq.ensures);
}

pub returns : goal.returns
returns c =
    not_read c.args.line.now (view c.in-Some.value) c.in_ok-entry.entry (rw c.in-Some.is at c.in_ok-value.ensures) c.in_ok-entry.ensures.reads
    (λ is. true≢false (sym (c.if-eq.ensures ∙ (bytes_eq-Decides c.as_str.result.now c.args.line.now).1 (c.as_str.ensures ∙ c.in_ok-written.ensures.line ∙ is.written))))
