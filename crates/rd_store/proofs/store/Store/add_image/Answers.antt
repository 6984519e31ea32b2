use Rattle.rd_store.proofs.Common.{◌≡◌, ◌∙◌, None, refl, subst, sym, get, IsOpen, desk, image_with}
use Rattle.rd_store.proofs.KeptImages.{last_put}
use Rattle.rd_store.proofs.Registers.{listed_put}
use Rattle.rd_store.proofs.store.Store.add_image.Goals as goal

pub invariant_of-self-in-Ok : goal.invariant_of-self-in-Ok
invariant_of-self-in-Ok g c =
    let old = c.self.inside.conn in
    let new = c.write_image.new.conn in
    let image = image_with c.args.heading.now c.args.bytes.now in
    let free = subst (λ h. IsOpen g.S.Store h → get (desk g.S.Store h).images c.args.acc ≡ None) (sym c.self.view_is) c.requires.free in
    let listed = c.self.invariant.1 in (
      c.write_image.ensures.kept,
      listed_put g.S.Store old new c.self.inside.register c.insert.new.self c.args.acc image free listed _ c.in-Ok.ensures.changes
          (λ is_open. c.insert.ensures.put (desk g.S.Store old).images image (c.reserve.ensures.same ∙ listed is_open) (free is_open) refl),
      last_put g.S.Store old new c.self.inside.last c.args.acc image _ c.write_image.ensures.changes c.self.invariant.2,
    )
