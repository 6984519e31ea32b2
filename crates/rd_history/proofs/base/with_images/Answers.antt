use Rattle.std.proofs.Common.{◌∙◌, ◌++◌, ℕ, ap, rules, take_all}
use Rattle.std.specs.List.{flat_map}
use Rattle.rd_holdings.specs.declared.rows.Accession.{Accession}
use Rattle.rd_store.proofs.CopyLemmas.{keeps_then}
use Rattle.rd_store.specs.Held.{desk}
use Rattle.rd_history.specs.Bases.{image_puts}
use Rattle.rd_history.proofs.BaseLines.{images_more}
use Rattle.rd_history.proofs.base.with_images.Goals as goal

pub loop-entry-preserved : goal.loop-entry-preserved
loop-entry-preserved g c = record {
  keeps = keeps_then g.S.Store c.args.store.now c.loop-entry.store c.with_image.new.store c.loop-entry.invariant.keeps (λ clean. c.loop-entry.invariant.open_if_clean clean) c.with_image.ensures.keeps;
  open_if_clean = λ clean. c.in_ok-all.ensures.ends_open clean;
  listed = λ o.
      let was = c.with_image.ensures.keeps.lasts.was_open o in
      images_more (desk g.S.Store c.args.store.now) (desk g.S.Store c.loop-entry.store) c.args.register.now c.loop-entry.entry-index _ c.args.listed.items c.loop-entry.all.items c.in_ok-all.all.items
      (c.in_ok-all.ensures.answer o) (c.loop-entry.invariant.keeps.same was) c.loop-entry-test.true (c.loop-entry.invariant.listed was);
}

pub returns : goal.returns
returns g c = record {
  keeps = c.loop-entry.invariant.keeps;
  ends_open = λ clean. c.loop-entry.invariant.open_if_clean clean;
  answer = λ o.
      let d = desk g.S.Store c.args.store.now in
      c.loop-entry.invariant.listed o ∙ ap (λ l. c.args.listed.items ++ flat_map (λ (entry : ℕ × Accession). image_puts d entry.0) l) (take_all c.loop-entry.entry-index c.args.register.now (search rules));
}
