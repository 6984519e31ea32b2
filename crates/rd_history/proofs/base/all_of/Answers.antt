use Rattle.std.proofs.Common.{◌≡◌, ◌∙◌, ◌++◌, ℕ, ap, map}
use Rattle.std.specs.FinMap.{entries}
use Rattle.std.specs.List.{flat_map}
use Rattle.rd_holdings.specs.State.{Desk, all_rules, registered}
use Rattle.rd_holdings.specs.declared.rows.Accession.{Accession}
use Rattle.rd_store.proofs.CopyLemmas.{keeps_then}
use Rattle.rd_store.specs.Held.{desk}
use Rattle.rd_history.specs.Bases.{image_puts}
use Rattle.rd_history.specs.Standings.{deed_put, key_put}
use Rattle.rd_history.specs.declared.entry.Change.TheVariants.{Rule}
use Rattle.rd_history.proofs.BaseLines.{images_alike, listed_all}
use Rattle.rd_history.proofs.base.all_of.Goals as goal

pub returns : goal.returns
returns g c =
    let zero = c.args.store.now in
    let one = c.deeds.new.self in
    let two = c.register.new.self in
    let three = c.with_images.new.store in
    let four = c.rulebook.new.self in
    let five = c.keys.new.self in
    let keeps_two = keeps_then g.S.Store zero one two c.deeds.ensures.reads.keeps (λ clean. c.in_ok-deeds.ensures.reads.ends_open clean) c.register.ensures.reads.keeps in
    let keeps_three = keeps_then g.S.Store zero two three keeps_two (λ clean. c.in_ok-register.ensures.reads.ends_open clean) c.with_images.ensures.keeps in
    let keeps_four = keeps_then g.S.Store zero three four keeps_three (λ clean. c.in_ok-listed-2.ensures.ends_open clean) c.rulebook.ensures.reads.keeps in
    record {
      keeps = keeps_then g.S.Store zero four five keeps_four (λ clean. c.in_ok-rules.ensures.reads.ends_open clean) c.keys.ensures.reads.keeps;
      ends_open = λ clean. c.in_ok-keys.ensures.reads.ends_open clean;
      answer = λ open_five.
          let open_four = c.keys.ensures.reads.keeps.lasts.was_open open_five in
          let open_three = c.rulebook.ensures.reads.keeps.lasts.was_open open_four in
          let open_two = c.with_images.ensures.keeps.lasts.was_open open_three in
          let open_one = c.register.ensures.reads.keeps.lasts.was_open open_two in
          let d = desk g.S.Store zero in
          let same_one : desk g.S.Store one ≡ d = c.deeds.ensures.reads.keeps.same open_one in
          let same_two : desk g.S.Store two ≡ d = keeps_two.same open_two in
          let same_three : desk g.S.Store three ≡ d = keeps_three.same open_three in
          let same_four : desk g.S.Store four ≡ d = keeps_four.same open_four in
          let listed = c.in_ok-listed.listed.items in
          let puts = λ (desk : Desk) (entry : ℕ × Accession). image_puts desk entry.0 in
          let register : c.in_ok-register.register.items ≡ map registered (entries d.images) = c.in_ok-register.ensures.reads.answer open_two ∙ ap (λ (e : Desk). map registered (entries e.images)) same_one in
          listed_all d listed c.in_ok-listed-2.listed.items c.in_ok-listed-3.listed.items c.in_ok-with_keys.field-0.items
          (c.in_ok-listed.ensures ∙ ap (λ l. l ++ map deed_put c.in_ok-deeds.deeds.items) c.new.ensures.items ∙ ap (map deed_put) (c.in_ok-deeds.ensures.reads.answer open_one))
          (c.in_ok-listed-2.ensures.answer open_three ∙ ap (λ (e : Desk). listed ++ flat_map (puts e) c.deref.result.now) same_two
          ∙ ap (λ l. listed ++ flat_map (puts d) l) (c.deref.ensures.value ∙ register) ∙ ap (λ l. listed ++ l) (images_alike d))
          (c.in_ok-listed-3.ensures ∙ ap (λ l. c.in_ok-listed-2.listed.items ++ map Rule l) (c.into_rules.ensures ∙ c.in_ok-rules.ensures.reads.answer open_four ∙ ap all_rules same_three))
          (c.in_ok-with_keys.ensures ∙ ap (λ l. c.in_ok-listed-3.listed.items ++ map key_put l) (c.deref-2.ensures.value ∙ c.in_ok-keys.ensures.reads.answer open_five ∙ ap (λ (e : Desk). entries e.keys) same_four));
    }
