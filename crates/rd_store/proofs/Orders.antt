-- The orders of the keys, and that columns spell the entry that they come from.
use Rattle.rd_store.proofs.Common.{◌≡◌, ◌+◌, ◌*◌, map, ◌/◌, ◌%◌, ap₂, ℕ, zero, suc, ℤ, pos, List, [], ◌∷◌, Bool, Option, Some, None, true, false, option_map, refl, arith, nat_cmp, nat_cmp-IsAntisymmetric, nat_cmp_total, then_total, on_total, Int, or_null, Audience, Public, Room, Staff, Band, Takedown, Deed, Effect, Deny, Read, Select, Slot, Prefix, User, IsKeyOrder, Outcome, Sound, Changed, kind_code, kind_in, band_in, effect_code, effect_in, audiences_code, audiences_in, audience_code, audience_in, outcome_code, outcome_in, how, number, word, select_in, day_in, number_in, units_code, units_in, class_code, class_in, FileAt, file_cmp, Place, Terms, place_cmp, digest_cmp, checkup_cmp, band_code, Found, key_spelling, rule_spelling, file_spelling, file_shown, file_in}
use Rattle.sqlite_value.proofs.KeyLemmas.{then_tied}
use Rattle.rd_policy.specs.declared.audience.Audiences.{Audiences}
use Rattle.rd_policy.specs.declared.rule.Effect.TheVariants.{List as Listed}
use Rattle.rd_policy.specs.declared.select.Select.TheVariants.{All, Kind as OfKind}
use Rattle.rd_holdings.proofs.KeyOrders.{number_order as numbers, digest_order as digests, place_order as places, checkup_order as checkups}

-- the orders of the keys, as lemmas of tables take them
pub number_order : IsKeyOrder nat_cmp
number_order = record { total = numbers.total; same = numbers.same }

pub digest_order : IsKeyOrder digest_cmp
digest_order = record { total = digests.total; same = digests.same }

pub place_order : IsKeyOrder place_cmp
place_order = record { total = places.total; same = places.same }

pub checkup_order : IsKeyOrder checkup_cmp
checkup_order = record { total = checkups.total; same = checkups.same }

pub file_order : IsKeyOrder file_cmp
file_order = record {
  total = then_total (on_total (λ (at : FileAt). at.acc) nat_cmp_total) (on_total (λ (at : FileAt). at.slot) nat_cmp_total);
  same = λ x y tied.
      let both = then_tied _ _ tied in
      let acc = nat_cmp-IsAntisymmetric _ _ both.0 in
      let slot = nat_cmp-IsAntisymmetric _ _ both.1 in
      λ i. record { acc = acc i; slot = slot i };
}

-- ---- what is written is read back

-- a kind that was read, as is that of each row of an image
pub kind_back : (code : ℕ) → kind_in (kind_code (kind_in code)) ≡ kind_in code
kind_back zero = refl
kind_back (suc code) = refl

pub audience_back : (audience : Audience) → audience_in (audience_code audience) ≡ audience
audience_back Public = refl
audience_back Room = refl
audience_back Staff = refl

pub outcome_back : (outcome : Outcome) → outcome_in (outcome_code outcome) ≡ outcome
outcome_back Sound = refl
outcome_back Changed = refl

band_back : (band : Band) → band_in (band_code band) ≡ band
band_back Takedown = refl
band_back Deed = refl

effect_back : (effect : Effect) → effect_in (effect_code effect) ≡ effect
effect_back Deny = refl
effect_back Listed = refl
effect_back Read = refl

select_back : (select : Select) → select_in (how select) (number select) (word select) ≡ select
select_back All = refl
select_back (Slot slot) = refl
select_back (Prefix text) = refl
select_back (User user) = refl
select_back (OfKind text) = refl

day_back : (day : Option ℤ) → day_in (or_null Int day) ≡ day
day_back None = refl
day_back (Some day) = refl

flags_back : (public room staff : _) → audiences_in (audiences_code (record { public = public; room = room; staff = staff })) ≡ record { public = public; room = room; staff = staff }
flags_back true true true = refl
flags_back true true false = refl
flags_back true false true = refl
flags_back true false false = refl
flags_back false true true = refl
flags_back false true false = refl
flags_back false false true = refl
flags_back false false false = refl

audiences_back : (set : Audiences) → audiences_in (audiences_code set) ≡ set
audiences_back set = flags_back set.public set.room set.staff

pub key_back : (e : List ℕ × Audience) → key_spelling.entry (key_spelling.columns e) ≡ e
key_back e = λ i. (e.0, audience_back e.1 i)

pub rule_back : (e : Place × Terms) → rule_spelling.entry (rule_spelling.columns e) ≡ e
rule_back e = λ i. (
  record { band = band_back e.0.band i; scope = e.0.scope; rank = e.0.rank },
  record { audiences = audiences_back e.1.audiences i; from = day_back e.1.from i; until = day_back e.1.until i; select = select_back e.1.select i; effect = effect_back e.1.effect i },
)

number_back : (number : Option ℕ) → number_in (or_null Int (option_map pos number)) ≡ number
number_back None = refl
number_back (Some number) = refl

class_back : (served : Bool) → class_in (class_code served) ≡ served
class_back true = refl
class_back false = refl

units_back : (units : List ℕ) → units_in (units_code units) ≡ units
units_back [] = refl
units_back (unit ∷ units) = ap₂ (λ n ns. n ∷ ns) (let whole : 256 * (unit / 256) + unit % 256 ≡ unit = omega arith in whole) (units_back units)

pub file_back : (file : Found) → file_in (file_shown file) ≡ file
file_back file = λ i. record {
  slot = file.slot;
  name = file.name;
  ty = file.ty;
  user = number_back file.user i;
  served_class = class_back file.served_class i;
  size = number_back file.size i;
  faults = file.faults;
  units = units_back file.units i;
  last_len = file.last_len;
}

pub files_back : (files : List Found) → map file_in (map file_shown files) ≡ files
files_back [] = refl
files_back (file ∷ files) = ap₂ (λ f fs. f ∷ fs) (file_back file) (files_back files)

-- a file at its own slot
pub entry_back : (acc : ℕ) (file : Found) → file_spelling.entry (file_spelling.columns (record { acc = acc; slot = file.slot }, file)) ≡ (record { acc = acc; slot = file.slot }, file)
entry_back acc file = λ i. (record { acc = acc; slot = file.slot }, file_back file i)
