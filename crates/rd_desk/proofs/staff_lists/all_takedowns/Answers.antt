use Rattle.std.proofs.Common.{◌≡◌, ◌∙◌, ℕ, ap, map, rules}
use Rattle.std.specs.FinMap.{entries}
use Rattle.std.specs.List.{flat_map}
use Rattle.rd_holdings.specs.State.{Desk, registered}
use Rattle.rd_holdings.specs.declared.rows.Accession.{Accession}
use Rattle.rd_store.specs.Held.{desk}
use Rattle.rd_desk.specs.StaffLists.{takedown_lines_at}
use Rattle.rd_desk.proofs.ListLemmas.{takedowns_alike}
use Rattle.rd_desk.proofs.staff_lists.all_takedowns.Goals as goal

pub returns : goal.returns
returns g c = record {
  keeps = search rules;
  ends_open = search rules;
  answer = λ o.
      let third = c.takedowns_of.ensures.keeps.lasts.was_open o in
      let second = c.rulebook.ensures.reads.keeps.lasts.was_open third in
      let d = desk g.S.Store c.args.store.now in
      let same : desk g.S.Store c.rulebook.new.self ≡ d = c.rulebook.ensures.reads.keeps.same third ∙ c.register.ensures.reads.keeps.same second in
      let register : c.in_ok-register.register.items ≡ map registered (entries d.images) = c.in_ok-register.ensures.reads.answer second in
      c.of.ensures ∙ c.in_ok-takedowns_of.ensures.answer o
      ∙ ap (λ (e : Desk). flat_map (λ (entry : ℕ × Accession). takedown_lines_at e entry.0) c.deref.result.now) same
      ∙ ap (flat_map (λ (entry : ℕ × Accession). takedown_lines_at d entry.0)) (c.deref.ensures.value ∙ register)
      ∙ takedowns_alike d (entries d.images);
}
