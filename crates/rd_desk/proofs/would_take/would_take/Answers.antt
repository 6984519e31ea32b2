use Rattle.std.proofs.Common.{◌≡◌, ◌∙◌, None, Ok, Some, ap, rules, subst, sym}
use Rattle.rd_policy.specs.declared.audience.Audience.TheVariants.{Staff}
use Rattle.rd_store.specs.Held.{Reads, desk}
use Rattle.rd_desk.specs.Shelving.{IsFaultOfImage}
use Rattle.rd_desk.proofs.ShelfLemmas.{fault_reads, staff_reads, stand_reads, unknown_reads}
use Rattle.rd_desk.proofs.would_take.would_take.Goals as goal

-- ---- the caller

pub returns-in_default-clause-reads : goal.returns-in_default-clause-reads
returns-in_default-clause-reads g c =
    unknown_reads g.S.Store c.args.shelf.now.images.items c.args.badge.now c.args.image c.args.bytes.now c.args.store.now c.audience.new.store c.audience.ensures.keeps
    (c.in_ok-audience.ensures.ends_open (λ is. cc is)) (λ o. sym c.in_default.is ∙ c.in_ok-audience.ensures.answer o)

pub returns-then-ne-clause-reads : goal.returns-then-ne-clause-reads
returns-then-ne-clause-reads g c =
    staff_reads g.S.Store c.args.shelf.now.images.items c.args.badge.now c.args.image c.args.bytes.now c.args.store.now c.audience.new.store c.audience.ensures.keeps
    (c.in_ok-audience.ensures.ends_open (λ is. cc is)) c.in-Some.audience (search rules) (λ o. sym c.in-Some.is ∙ c.in_ok-audience.ensures.answer o)

-- ---- the image

pub returns-in-Some-2-clause-reads : goal.returns-in-Some-2-clause-reads
returns-in-Some-2-clause-reads g c =
    let staff : c.in-Some.audience ≡ Staff = search rules in
    fault_reads g.S.Store c.args.shelf.now.images.items c.args.badge.now c.args.image c.args.bytes.now c.args.store.now c.audience.new.store c.audience.ensures.keeps
    (c.in_ok-audience.ensures.ends_open (λ is. cc is)) (λ o. ap Some (sym staff) ∙ (sym c.in-Some.is ∙ c.in_ok-audience.ensures.answer o)) c.fault_of.new.store c.in-Some-2.refusal
    (subst (λ fault. Reads g.S.Store c.audience.new.store c.fault_of.new.store (Ok fault) (IsFaultOfImage (desk g.S.Store c.audience.new.store) c.args.image c.args.bytes.now))
    c.in-Some-2.is c.in_ok-refusal.ensures.reads)

pub returns-clause-reads : goal.returns-clause-reads
returns-clause-reads g c =
    let staff : c.in-Some.audience ≡ Staff = search rules in
    let none : c.in_ok-refusal.field-0 ≡ None = search rules in
    stand_reads g.S.Store c.args.shelf.now.images.items c.args.badge.now c.args.image c.args.bytes.now c.args.store.now c.audience.new.store c.audience.ensures.keeps
    (c.in_ok-audience.ensures.ends_open (λ is. cc is)) (λ o. ap Some (sym staff) ∙ (sym c.in-Some.is ∙ c.in_ok-audience.ensures.answer o)) c.fault_of.new.store c.standing_at.new.store
    c.shelve.result c.in_ok-standing.standing c.shelve.new.shelf.images.items
    (subst (λ fault. Reads g.S.Store c.audience.new.store c.fault_of.new.store (Ok fault) (IsFaultOfImage (desk g.S.Store c.audience.new.store) c.args.image c.args.bytes.now)) none
    c.in_ok-refusal.ensures.reads) c.in_ok-standing.ensures.reads c.shelve.ensures.shelved
