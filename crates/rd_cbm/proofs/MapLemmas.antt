-- The places of blocks, and the counts of the block map.
use Rattle.std.proofs.Common.{◌≡◌, ◌≢◌, ◌∙◌, ◌⊎◌, inl, inr, ◌↔◌, ◌+◌, ◌-◌, ◌*◌, ◌/◌, ◌%◌, ◌<◌, ◌≤◌, ℕ, zero, suc, Bool, true, false, IsTrue, IsBitSet, cond, nat_eq, List, length, slice_index, slice_index_or, Contains, AllPairs, Some, None, if◌then◌else◌, arith, refl, sym, ap, subst}
use Rattle.std.proofs.lemmas.Bool.{cases_order}
use Rattle.std.proofs.lemmas.Bool.Decides.{Decides-eqb}
use Rattle.std.proofs.lemmas.Grind.{common_steps}
use Rattle.std.proofs.lemmas.Map.Keys.{IsDistinct-from_apart}
use Rattle.std.proofs.lemmas.Map.Made.{length-le_from_is_member, is_member-Decides}
use Rattle.std.specs.Cmp.{nat_eq_equiv}
use Rattle.rd_geometry.specs.Blocks.{CBM_BLOCKS, sectors_of, is_on_disk, blocks_among, blocks_before, index_of, cbm_block}
use Rattle.rd_geometry.proofs.Zones.{index_below}
use Rattle.rd_cbm.specs.Counts.{IsCount}
use Rattle.rd_cbm.specs.BlockMap.{map_of, bytes_at, IsMarkedFree, HasWrongCount, IsFreeBlock, IsClaimedFree, IsUnclaimedUsed}
use Rattle.rd_cbm.specs.Marked.{AreUses}
use Rattle.rd_cbm.proofs.ClaimLemmas.{map_index}
use Rattle.rd_cbm.proofs.CountLemmas.{IsCountBelow, count_as}

-- 18/0 is block 357
pub map_block : (image : List ℕ) → map_of image ≡ cbm_block image 357
unfolding map_of
map_block image = ap (bytes_at image) map_index

among_next : (n : ℕ) → blocks_among (suc n) ≡ blocks_among n + cond (is_on_disk (n / 256) (n % 256)) 1 0
unfolding blocks_among
among_next n = refl

among_grows : (m k : ℕ) → blocks_among m ≤ blocks_among (m + k)
among_grows m zero = let same : m + 0 ≡ m = omega arith in subst (λ n. blocks_among m ≤ blocks_among n) (sym same) (omega arith)
among_grows m (suc k) =
    let later : m + suc k ≡ suc (m + k) = omega arith in
    subst (λ n. blocks_among m ≤ blocks_among n) (sym later) (omega (arith, among_next (m + k), among_grows m k))

chosen : (b : Bool) (x n : ℕ) → (if b then Some x else None) ≡ Some n → (b ≡ true) × (x ≡ n)
chosen true x n same = (refl, cc)
chosen false x n same = absurd (cc)

place : (t s n : ℕ) → index_of t s ≡ Some n → (is_on_disk t s ≡ true) × (blocks_before t s ≡ n)
unfolding index_of
place t s n is = chosen (is_on_disk t s) (blocks_before t s) n is

narrow : (t : ℕ) → sectors_of t ≤ 21
narrow t = grind (arith, common_steps)

last_track : (t s : ℕ) → s < sectors_of t → t ≤ 35
last_track t s low = grind (arith, common_steps)

below_sectors : (t s : ℕ) → is_on_disk t s ≡ true → s < sectors_of t
below_sectors t s on = grind (arith, common_steps)

-- a track and a sector of the disk
pub track_bound : (t s n : ℕ) → index_of t s ≡ Some n → t ≤ 35
track_bound t s n is = last_track t s (below_sectors t s (place t s n is).0)

pub sector_bound : (t s n : ℕ) → index_of t s ≡ Some n → s < 21
sector_bound t s n is = let low : s < sectors_of t = below_sectors t s (place t s n is).0 in let few : sectors_of t ≤ 21 = narrow t in omega arith

-- the pair after one of the disk has one block more before it
one_more : (t s : ℕ) → s < 256 → is_on_disk t s ≡ true → blocks_among (suc (256 * t + s)) ≡ blocks_before t s + 1
one_more t s low on =
    let track : (256 * t + s) / 256 ≡ t = omega arith in
    let sector : (256 * t + s) % 256 ≡ s = omega arith in
    among_next (256 * t + s) ∙ rw (track, sector, on) refl

not_before : (t s u v n : ℕ) → index_of t s ≡ Some n → index_of u v ≡ Some n → 256 * t + s < 256 * u + v → ⊥
not_before t s u v n one other before =
    let sector : s < 21 = sector_bound t s n one in
    let on = place t s n one in
    let off = place u v n other in
    let rest : suc (256 * t + s) + ((256 * u + v) - suc (256 * t + s)) ≡ 256 * u + v = omega arith in
    let more : blocks_among (suc (256 * t + s)) ≤ blocks_among (256 * u + v) =
    subst (λ k. blocks_among (suc (256 * t + s)) ≤ blocks_among k) rest (among_grows (suc (256 * t + s)) ((256 * u + v) - suc (256 * t + s))) in
    let next : blocks_among (suc (256 * t + s)) ≡ blocks_before t s + 1 = one_more t s (omega arith) on.0 in
    let here : blocks_before t s ≡ n = on.1 in
    let there : blocks_before u v ≡ n = off.1 in
    omega arith

-- an index is that of one pair
one_place : (t s u v n : ℕ) → index_of t s ≡ Some n → index_of u v ≡ Some n → (t ≡ u) × (s ≡ v)
one_place t s u v n one other =
    let low : s < 21 = sector_bound t s n one in
    let low_too : v < 21 = sector_bound u v n other in
    elim (cases_order (256 * t + s) (256 * u + v)) [
      | inl same ↦ (omega arith, omega arith)
      | inr apart ↦ elim apart [
        | inl before ↦ absurd (not_before t s u v n one other before)
        | inr after ↦ absurd (not_before u v t s n other one after)
      ]
    ]

-- a block is marked free where its track and sector are
pub free_block_as : (image : List ℕ) (t s n : ℕ) (r : Bool) → index_of t s ≡ Some n → IsTrue r ↔ IsMarkedFree image t s → IsTrue r ↔ IsFreeBlock image n
free_block_as image t s n r is test = (
  λ set. record { track = t; sector = s; at = is; free = test.0 set },
  λ free. let same = one_place free.track free.sector t s n free.at is in
      test.1 (subst (λ u. IsMarkedFree image u s) same.0 (subst (λ v. IsMarkedFree image free.track v) same.1 free.free)),
)

-- a sector is not marked free where it is not on the disk
pub not_free : (image : List ℕ) (t s : ℕ) → index_of t s ≡ None → IsTrue false ↔ IsMarkedFree image t s
not_free image t s none = (
  λ set. absurd (let wrong : false ≡ true = set in cc),
  λ free. absurd (let wrong : None ≡ Some free.index = sym none ∙ free.on_disk in cc),
)

-- a sector on the disk is marked free by its bit
pub free_by_bit : (image : List ℕ) (t s n byte : ℕ) (r : Bool) → index_of t s ≡ Some n → byte ≡ slice_index (map_of image) (4 * t + 1 + s / 8)
    → IsTrue r ↔ IsBitSet byte (s % 8) → IsTrue r ↔ IsMarkedFree image t s
free_by_bit image t s n byte r is read test = (
  λ set. record { index = n; on_disk = is; bit = subst (λ b. IsBitSet b (s % 8)) read (test.0 set) },
  λ free. test.1 (subst (λ b. IsBitSet b (s % 8)) (sym read) free.bit),
)

-- all sectors of a track that are marked free are below 21
pub sectors_counted : (image : List ℕ) (t n count : ℕ) → n ≡ 21 → IsCountBelow (IsMarkedFree image t) n count → IsCount (IsMarkedFree image t) count
sectors_counted image t n count whole is = count_as (λ s. (s < n) × IsMarkedFree image t s) (IsMarkedFree image t) count is.counted (λ s. (
  λ both. both.1,
  λ free. (let low : s < 21 = sector_bound t s free.index free.on_disk in omega arith, free),
))

-- a list of different numbers, all in another one, is not longer
not_longer : (xs ys : List ℕ) → AllPairs (λ m n. m ≢ n) xs → ((n : ℕ) → Contains xs n → Contains ys n) → length xs ≤ length ys
not_longer xs ys once within = length-le_from_is_member nat_eq_equiv xs ys
    (IsDistinct-from_apart nat_eq xs (λ i j d before inside. differ (slice_index_or xs i d) (slice_index_or xs j d) (once i j d before inside)))
    (λ n there. (is_member-Decides Decides-eqb ys n).1 (within n ((is_member-Decides Decides-eqb xs n).0 there)))
  where
    bool_cases : (b : Bool) → (b ≡ true) ⊎ (b ≡ false)
    bool_cases true = inl refl
    bool_cases false = inr refl

    differ : (m n : ℕ) → m ≢ n → nat_eq m n ≡ false
    differ m n other = elim (bool_cases (nat_eq m n)) [ inl same ↦ absurd (other ((Decides-eqb m n).0 same)) | inr apart ↦ apart ]

-- a property has one count
pub count_once : (P : ℕ → Type 0) (a b : ℕ) → IsCount P a → IsCount P b → a ≡ b
count_once P a b one other =
    let low : length one.numbers ≤ length other.numbers = not_longer one.numbers other.numbers one.once (λ n there. (other.each n).1 ((one.each n).0 there)) in
    let high : length other.numbers ≤ length one.numbers = not_longer other.numbers one.numbers other.once (λ n there. (one.each n).1 ((other.each n).0 there)) in
    omega (arith, one.many, other.many)

-- the free count of a track is wrong where it is not the count
pub wrong_as : (image : List ℕ) (t byte count : ℕ) (r : Bool) → 1 ≤ t → t ≤ 35 → byte ≡ slice_index (map_of image) (4 * t) → IsCount (IsMarkedFree image t) count
    → IsTrue r ↔ (byte ≢ count) → IsTrue r ↔ HasWrongCount image t
wrong_as image t byte count r first last read counted test = (
  λ set. record { first = first; last = last; free = count; marked = counted; differs = λ same. test.0 set (read ∙ same) },
  λ wrong. test.1 (λ same. wrong.differs (sym read ∙ same ∙ count_once (IsMarkedFree image t) count wrong.free counted wrong.marked)),
)

-- no track before 1 or after 35 has a count
pub no_track_0 : (image : List ℕ) → HasWrongCount image 0 → ⊥
no_track_0 image wrong = let first : 1 ≤ 0 = wrong.first in absurd (omega arith)

pub tracks_counted : (image : List ℕ) (n count : ℕ) → n ≡ 36 → IsCountBelow (HasWrongCount image) n count → IsCount (HasWrongCount image) count
tracks_counted image n count whole is = count_as (λ t. (t < n) × HasWrongCount image t) (HasWrongCount image) count is.counted (λ t. (
  λ both. both.1,
  λ wrong. (let last : t ≤ 35 = wrong.last in omega arith, wrong),
))

-- used blocks are those in use
pub claimed_free_as : (image blocks : List ℕ) (used shared : List Bool) (count : ℕ) → AreUses image blocks used shared
    → IsCount (λ b. (b < CBM_BLOCKS) × (IsTrue (slice_index_or used b false) × IsFreeBlock image b)) count → IsCount (IsClaimedFree image blocks) count
claimed_free_as image blocks used shared count uses is =
    count_as (λ b. (b < CBM_BLOCKS) × (IsTrue (slice_index_or used b false) × IsFreeBlock image b)) (IsClaimedFree image blocks) count is (λ b. (
      λ all. ((uses.once b all.0).0 all.1.0, all.1.1),
      λ both. let low : b < CBM_BLOCKS = index_below both.1.track both.1.sector b both.1.at in (low, ((uses.once b low).1 both.0, both.1)),
    ))

pub unclaimed_used_as : (image blocks : List ℕ) (used shared : List Bool) (count : ℕ) → AreUses image blocks used shared
    → IsCount (λ b. (b < CBM_BLOCKS) × ((¬ IsTrue (slice_index_or used b false)) × (¬ IsFreeBlock image b))) count → IsCount (IsUnclaimedUsed image blocks) count
unclaimed_used_as image blocks used shared count uses is =
    count_as (λ b. (b < CBM_BLOCKS) × ((¬ IsTrue (slice_index_or used b false)) × (¬ IsFreeBlock image b))) (IsUnclaimedUsed image blocks) count is (λ b. (
      λ all. (all.0, (λ in_use. all.1.0 ((uses.once b all.0).1 in_use)), all.1.1),
      λ all. (all.0, ((λ set. all.1 ((uses.once b all.0).0 set)), all.2)),
    ))
