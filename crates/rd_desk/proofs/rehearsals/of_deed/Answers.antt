use Rattle.std.proofs.Common.{◌≡◌, ◌∙◌, ℕ, All, ap, map, option_map, subst, sym}
use Rattle.std.specs.FinMap.{entries, keys}
use Rattle.rd_holdings.specs.State.{Desk, Stands, registered}
use Rattle.rd_holdings.specs.declared.rows.Accession.{Accession}
use Rattle.rd_store.specs.Held.{desk}
use Rattle.rd_desk.specs.Calls.{IsRegistered}
use Rattle.rd_desk.specs.Rehearsing.{AreDifferencesOf, desk_changed, place_at}
use Rattle.rd_desk.proofs.RehearsalLemmas.{all_registered, numbers_registered, rehearsal_of}
use Rattle.rd_desk.proofs.ResponseLemmas.{keeps_then}
use Rattle.rd_desk.proofs.rehearsals.of_deed.Goals as goal

pub of_register-requires-clause-known : goal.of_register-requires-clause-known
of_register-requires-clause-known g c = λ o.
    let before = desk g.S.Store c.has_deed.new.store in
    subst (λ (d : Desk). All (λ (entry : ℕ × Accession). IsRegistered d entry.0 entry.1) c.deref.result.now) (sym (c.register.ensures.reads.keeps.same o))
    (subst (All (λ (entry : ℕ × Accession). IsRegistered before entry.0 entry.1)) (sym (c.deref.ensures.value ∙ c.in_ok-register.ensures.reads.answer o)) (all_registered before))

pub returns : goal.returns
returns g c = record {
  keeps = keeps_then g.S.Store c.args.store.now c.register.new.self c.of_register.new.store
      (keeps_then g.S.Store c.args.store.now c.has_deed.new.store c.register.new.self c.has_deed.ensures.reads.keeps (λ was clean. c.in_ok-has_deed.ensures.reads.ends_open clean) c.register.ensures.reads.keeps)
      (λ was clean. c.in_ok-register.ensures.reads.ends_open clean) c.of_register.ensures.keeps;
  ends_open = λ clean. c.in_ok-of_register.ensures.ends_open clean;
  answer = λ o.
      let third = c.of_register.ensures.keeps.lasts.was_open o in
      let second = c.register.ensures.reads.keeps.lasts.was_open third in
      let d = desk g.S.Store c.args.store.now in
      let r = c.args.rehearsal.now in
      let put = option_map (λ rule. rule.now) r.rule in
      let place = place_at r.band r.scope r.rank in
      let first_same = c.has_deed.ensures.reads.keeps.same second in
      let both_same = c.register.ensures.reads.keeps.same third ∙ first_same in
      let lines = c.in_ok-of_register.field-0.items in
      let register : c.deref.result.now ≡ map registered (entries d.images) = c.deref.ensures.value ∙ c.in_ok-register.ensures.reads.answer third ∙ ap (λ (e : Desk). map registered (entries e.images)) first_same in
      let numbers : map (λ (entry : ℕ × Accession). entry.0) c.deref.result.now ≡ keys d.images = ap (map (λ (entry : ℕ × Accession). entry.0)) register ∙ numbers_registered (entries d.images) in
      let each = subst (λ (e : Desk). AreDifferencesOf e (desk_changed place put e) r.day (map (λ (entry : ℕ × Accession). entry.0) c.deref.result.now) lines) both_same (c.in_ok-of_register.ensures.answer o) in (
        subst (λ band. Stands d band r.scope) (sym c.requires.band) (sym (c.in_ok-has_deed.ensures.reads.answer second) ∙ c.if-not-branch.false),
        rehearsal_of d place put r.day lines (subst (λ accs. AreDifferencesOf d (desk_changed place put d) r.day accs lines) numbers each),
      );
}
