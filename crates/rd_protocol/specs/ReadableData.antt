-- Values of JSON that are read as they are written.
use Rattle.std.specs.Prelude.{◌≡◌, ◌<◌, ◌^◌, ◌&&◌, ℕ, suc, zero, List, Bool, true, Some}
use Rattle.std.specs.Cmp.Lexicographic.{slice_cmp}
use Rattle.std.specs.Ordering.{is_gt, nat_cmp}
use Rattle.serde_json.specs.Data.{Data, null, boolean, number, unsigned, string, array, object, Items, no_items, item, Members, no_members, member}

-- members, and then others
abbrev pub joined : Members → Members → Members
joined no_members others = others
joined (member key value members) others = member key value (joined members others)

-- the key comes after each of theirs
abbrev pub comes_after : List ℕ → Members → Bool
comes_after key no_members = true
comes_after key (member other value members) = is_gt (slice_cmp nat_cmp key other) && comes_after key members

-- numbers are natural and below 2^64, the keys of an object rise, and arrays and objects nest at most so deep
abbrev mutual
  pub IsReadable : ℕ → Data → Type 0
  IsReadable most null = Unit {0}
  IsReadable most (boolean b) = Unit {0}
  IsReadable most (number (unsigned n)) = n < 2 ^ 64
  IsReadable most (number other) = ⊥
  IsReadable most (string text) = Unit {0}
  IsReadable zero (array values) = ⊥
  IsReadable (suc most) (array values) = AreReadable most values
  IsReadable zero (object ms) = ⊥
  IsReadable (suc most) (object ms) = HasReadable most no_members ms

  pub AreReadable : ℕ → Items → Type 0
  AreReadable most no_items = Unit {0}
  AreReadable most (item value items) = IsReadable most value × AreReadable most items

  -- members that come after others
  pub HasReadable : ℕ → Members → Members → Type 0
  HasReadable most before no_members = Unit {0}
  HasReadable most before (member key value members) =
      (comes_after key before ≡ true) × IsReadable most value × HasReadable most (joined before (member key value no_members)) members
