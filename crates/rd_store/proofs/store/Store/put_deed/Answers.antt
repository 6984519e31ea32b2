use Rattle.rd_store.proofs.Common.{◌≡◌, Ok, Err, refl, to_z, of_z, w32, to_z-of_z, with_deed, Sql, desk}
use Rattle.rd_store.proofs.ChangeLemmas.{done_as, failed_as, images_left, read_then}
use Rattle.rd_store.proofs.store.Store.put_deed.Goals as goal

pub invariant_of-self : goal.invariant_of-self
invariant_of-self g c =
    let old = c.self.inside.conn in
    images_left g.S.Store old c.write_deed.new.conn c.self.inside.register c.self.inside.last _ c.write_deed.result refl c.write_deed.ensures.changes c.write_deed.ensures.kept c.self.invariant

pub returns-in-Ok-clause-changes : goal.returns-in-Ok-clause-changes
returns-in-Ok-clause-changes g c =
    let old = c.args.self.now in
    let new = c.write_deed.new.conn in
    let put = with_deed c.args.num (record { donor = c.args.donor.now; signed = c.args.signed }) in
    let is : to_z w32 (of_z w32 c.args.signed) ≡ c.args.signed = to_z-of_z w32 c.args.signed c.ranges.signed in
    let all = read_then g.S.Store old c.deed.new.self c.self.inside.conn new c.self.view_is _ c.in_ok-found.ensures.reads put in
    done_as g.S.Store old new (put (desk g.S.Store old)) _ tt (all (Ok c.in-Ok.field-0) (rw is at c.in-Ok.ensures.changes))

pub invariant_of-self-2 : goal.invariant_of-self-2
invariant_of-self-2 g c =
    let old = c.self.inside.conn in
    images_left g.S.Store old c.write_deed.new.conn c.self.inside.register c.self.inside.last _ c.write_deed.result refl c.write_deed.ensures.changes c.write_deed.ensures.kept c.self.invariant

pub returns-clause-changes : goal.returns-clause-changes
returns-clause-changes g c =
    let old = c.args.self.now in
    let new = c.write_deed.new.conn in
    let put = with_deed c.args.num (record { donor = c.args.donor.now; signed = c.args.signed }) in
    let is : to_z w32 (of_z w32 c.args.signed) ≡ c.args.signed = to_z-of_z w32 c.args.signed c.ranges.signed in
    let all = read_then g.S.Store old c.deed.new.self c.self.inside.conn new c.self.view_is _ c.in_ok-found.ensures.reads put in
    failed_as g.S.Store old new (put (desk g.S.Store old)) _ Sql (all (Err c.in-Err.field-0) (rw is at c.in-Err.ensures.changes))
