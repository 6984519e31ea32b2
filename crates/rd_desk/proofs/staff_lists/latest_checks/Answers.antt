use Rattle.std.proofs.Common.{◌≡◌, ◌∙◌, ℕ, ap, map, rules}
use Rattle.std.specs.FinMap.{entries}
use Rattle.rd_holdings.specs.State.{Desk, registered}
use Rattle.rd_holdings.specs.declared.rows.Accession.{Accession}
use Rattle.rd_store.specs.Held.{desk}
use Rattle.rd_desk.specs.StaffLists.{check_line}
use Rattle.rd_desk.proofs.ListLemmas.{checks_alike}
use Rattle.rd_desk.proofs.staff_lists.latest_checks.Goals as goal

pub returns : goal.returns
returns g c = record {
  keeps = search rules;
  ends_open = search rules;
  answer = λ o.
      let second = c.checks_of.ensures.keeps.lasts.was_open o in
      let d = desk g.S.Store c.args.store.now in
      let register : c.in_ok-register.register.items ≡ map registered (entries d.images) = c.in_ok-register.ensures.reads.answer second in
      c.of.ensures ∙ c.in_ok-checks_of.ensures.answer o
      ∙ ap (λ (e : Desk). map (λ (entry : ℕ × Accession). check_line e entry.0) c.deref.result.now) (c.register.ensures.reads.keeps.same second)
      ∙ ap (map (λ (entry : ℕ × Accession). check_line d entry.0)) (c.deref.ensures.value ∙ register)
      ∙ checks_alike d (entries d.images);
}
