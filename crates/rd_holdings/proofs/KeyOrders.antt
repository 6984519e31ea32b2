-- The orders of the keys of a desk.
use Rattle.std.proofs.Common.{◌≡◌, refl, arith, nat_cmp, Ordering, Less, Equal, Greater}
use Rattle.std.specs.FinMap.{nat_cmp-IsAntisymmetric, int_cmp-IsAntisymmetric, slice_cmp-IsAntisymmetric}
use Rattle.std.proofs.lemmas.Cmp.{nat_cmp_total, nat_list_cmp_total, int_cmp_total, then_total, on_total}
use Rattle.std.specs.Ordering.{ordering_then}
use Rattle.rd_policy.specs.declared.rule.Band.{Band}
use Rattle.rd_policy.specs.declared.rule.Band.TheVariants.{Takedown, Deed}
use Rattle.rd_holdings.specs.State.{Place, Checkup, place_cmp, digest_cmp, checkup_cmp, band_code}
use Rattle.rd_holdings.proofs.Members.{IsKeyOrder}

then_tied : (o p : Ordering) → ordering_then o p ≡ Equal → (o ≡ Equal) × (p ≡ Equal)
then_tied Less p h = absurd (cc)
then_tied Equal p h = (refl, h)
then_tied Greater p h = absurd (cc)

pub number_order : IsKeyOrder nat_cmp
number_order = record { total = nat_cmp_total; same = nat_cmp-IsAntisymmetric }

pub digest_order : IsKeyOrder digest_cmp
digest_order = record { total = nat_list_cmp_total; same = slice_cmp-IsAntisymmetric nat_cmp-IsAntisymmetric }

pub same_band : (a b : Band) → band_code a ≡ band_code b → a ≡ b
same_band Takedown Takedown e = refl
same_band Takedown Deed e = absurd (omega (arith, e))
same_band Deed Takedown e = absurd (omega (arith, e))
same_band Deed Deed e = refl

pub place_order : IsKeyOrder place_cmp
place_order = record {
  total = then_total (on_total (λ (place : Place). band_code place.band) nat_cmp_total) (then_total (on_total (λ (place : Place). place.scope) nat_cmp_total) (on_total (λ (place : Place). place.rank) nat_cmp_total));
  same = λ x y tied.
      let first = then_tied _ _ tied in
      let second = then_tied _ _ first.1 in
      let band = same_band x.band y.band (nat_cmp-IsAntisymmetric _ _ first.0) in
      let scope = nat_cmp-IsAntisymmetric _ _ second.0 in
      let rank = nat_cmp-IsAntisymmetric _ _ second.1 in
      λ i. record { band = band i; scope = scope i; rank = rank i };
}

pub checkup_order : IsKeyOrder checkup_cmp
checkup_order = record {
  total = then_total (on_total (λ (checkup : Checkup). checkup.acc) nat_cmp_total) (on_total (λ (checkup : Checkup). checkup.day) int_cmp_total);
  same = λ x y tied.
      let both = then_tied _ _ tied in
      let acc = nat_cmp-IsAntisymmetric _ _ both.0 in
      let day = int_cmp-IsAntisymmetric _ _ both.1 in
      λ i. record { acc = acc i; day = day i };
}
