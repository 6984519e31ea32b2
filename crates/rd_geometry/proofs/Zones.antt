-- How many blocks come before a pair, by the zone of its track.
use Rattle.std.proofs.Common.{◌≡◌, ◌∙◌, ◌+◌, ◌*◌, ◌-◌, ◌/◌, ◌%◌, ◌≤◌, ◌<◌, ℕ, zero, suc, min, Bool, true, false, Some, None, cond, eqb, eqb-true, refl, ap, arith, nat_lt, if◌then◌else◌}
use Rattle.std.proofs.lemmas.Bool.{agree_below_at}
use Rattle.std.proofs.lemmas.Grind.{common_steps}
use Rattle.rd_geometry.specs.Blocks.{CBM_BLOCKS, blocks_among, blocks_before, index_of, is_on_disk, sectors_of}

next : (n : ℕ) → blocks_among (suc n) ≡ blocks_among n + cond (is_on_disk (n / 256) (n % 256)) 1 0
unfolding blocks_among
next n = refl

counted : (s w : ℕ) → min s w + cond (nat_lt s w) 1 0 ≡ min (suc s) w
counted s w = grind (arith, common_steps)

-- the blocks before a pair are those before its track, and as many of the track as come before it
on_track : (t s : ℕ) → s ≤ 256 → blocks_before t s ≡ blocks_before t 0 + min s (sectors_of t)
on_track t zero low = omega arith
on_track t (suc s) low =
    let track : (256 * t + s) / 256 ≡ t = omega arith in
    let sector : (256 * t + s) % 256 ≡ s = omega arith in
    let later : 256 * t + suc s ≡ suc (256 * t + s) = omega arith in
    let before : blocks_before t s ≡ blocks_before t 0 + min s (sectors_of t) = on_track t s (omega arith) in
    let one : min s (sectors_of t) + cond (is_on_disk t s) 1 0 ≡ min (suc s) (sectors_of t) = counted s (sectors_of t) in
    let step : blocks_among (suc (256 * t + s)) ≡ blocks_before t s + cond (is_on_disk t s) 1 0 =
    next (256 * t + s) ∙ rw (track, sector) refl in
    ap blocks_among later ∙ step ∙ omega (arith, before, one)

narrow : (t : ℕ) → sectors_of t ≤ 21
narrow t = grind (arith, common_steps)

-- a track's blocks come before the next track
next_track : (t : ℕ) → blocks_before (suc t) 0 ≡ blocks_before t 0 + sectors_of t
next_track t =
    let later : 256 * suc t + 0 ≡ 256 * t + 256 = omega arith in
    let all : blocks_before t 256 ≡ blocks_before t 0 + min 256 (sectors_of t) = on_track t 256 (omega arith) in
    let few : sectors_of t ≤ 21 = narrow t in
    ap blocks_among later ∙ omega (arith, all, few)

-- how many blocks lie on the tracks before a track
on_tracks : ℕ → ℕ
on_tracks zero = 0
on_tracks (suc t) = on_tracks t + sectors_of t

before_track : (t : ℕ) → blocks_before t 0 ≡ on_tracks t
unfolding blocks_among on_tracks
before_track zero = refl
before_track (suc t) = next_track t ∙ ap (λ n. n + sectors_of t) (before_track t)

-- the same by the zone that the track lies in
abbrev zone : ℕ → ℕ
zone t =
    if nat_lt t 18 then 21 * (t - 1)
    else if nat_lt t 25 then 357 + 19 * (t - 18)
    else if nat_lt t 31 then 490 + 18 * (t - 25)
    else 598 + 17 * (t - 31)

in_zone : (t : ℕ) → t < 36 → blocks_before t 0 ≡ zone t
unfolding on_tracks
in_zone t low = before_track t ∙ eqb-true _ _ (agree_below_at (λ t. eqb (on_tracks t) (zone t)) (λ _. true) 36 t refl low)

-- How many blocks come before a track of each zone.
pub record AreZones (t : ℕ) : Type 0 where
  pub first : t ≤ 17 → blocks_before t 0 ≡ 21 * (t - 1)
  pub second : 18 ≤ t → t ≤ 24 → blocks_before t 0 ≡ 357 + 19 * (t - 18)
  pub third : 25 ≤ t → t ≤ 30 → blocks_before t 0 ≡ 490 + 18 * (t - 25)
  pub fourth : 31 ≤ t → t ≤ 35 → blocks_before t 0 ≡ 598 + 17 * (t - 31)

pub zones : (t : ℕ) → AreZones t
zones t = record {
  first = λ high. let e : blocks_before t 0 ≡ zone t = in_zone t (omega arith) in grind (arith, common_steps);
  second = λ low high. let e : blocks_before t 0 ≡ zone t = in_zone t (omega arith) in grind (arith, common_steps);
  third = λ low high. let e : blocks_before t 0 ≡ zone t = in_zone t (omega arith) in grind (arith, common_steps);
  fourth = λ low high. let e : blocks_before t 0 ≡ zone t = in_zone t (omega arith) in grind (arith, common_steps);
}

-- the blocks before a block of the disk
pub within : (t s : ℕ) → s < sectors_of t → blocks_before t s ≡ blocks_before t 0 + s
within t s low =
    let few : sectors_of t ≤ 21 = narrow t in
    let all : blocks_before t s ≡ blocks_before t 0 + min s (sectors_of t) = on_track t s (omega arith) in
    omega (arith, all)

-- a block of the disk has its index
pub index_there : (t s : ℕ) → is_on_disk t s ≡ true → index_of t s ≡ Some (blocks_before t 0 + s)
unfolding index_of
index_there t s on =
    let low : s < sectors_of t = grind (arith, common_steps) in
    rw on (ap Some (within t s low))

-- a pair that names no block has none
pub index_none : (t s : ℕ) → is_on_disk t s ≡ false → index_of t s ≡ None
unfolding index_of
index_none t s off = rw off refl

-- the index of the pair that is so many blocks on from the start of a zone
indexed : (t s n : ℕ) → s < sectors_of t → blocks_before t 0 + s ≡ n → index_of t s ≡ Some n
indexed t s n low count =
    let on : is_on_disk t s ≡ true = grind (arith, common_steps) in index_there t s on ∙ ap Some count

pub first_zone : (t s n : ℕ) → n ≤ 356 → t ≡ 1 + n / 21 → s ≡ n % 21 → index_of t s ≡ Some n
first_zone t s n high track sector =
    let few : sectors_of t ≡ 21 = grind (arith, common_steps) in
    let before : blocks_before t 0 ≡ 21 * (t - 1) = (zones t).first (omega arith) in
    indexed t s n (omega (arith, few)) (omega (arith, before))

pub second_zone : (t s n : ℕ) → 357 ≤ n → n ≤ 489 → t ≡ 18 + (n - 357) / 19 → s ≡ (n - 357) % 19 → index_of t s ≡ Some n
second_zone t s n low high track sector =
    let few : sectors_of t ≡ 19 = grind (arith, common_steps) in
    let before : blocks_before t 0 ≡ 357 + 19 * (t - 18) = (zones t).second (omega arith) (omega arith) in
    indexed t s n (omega (arith, few)) (omega (arith, before))

pub third_zone : (t s n : ℕ) → 490 ≤ n → n ≤ 597 → t ≡ 25 + (n - 490) / 18 → s ≡ (n - 490) % 18 → index_of t s ≡ Some n
third_zone t s n low high track sector =
    let few : sectors_of t ≡ 18 = grind (arith, common_steps) in
    let before : blocks_before t 0 ≡ 490 + 18 * (t - 25) = (zones t).third (omega arith) (omega arith) in
    indexed t s n (omega (arith, few)) (omega (arith, before))

pub fourth_zone : (t s n : ℕ) → 598 ≤ n → n < CBM_BLOCKS → t ≡ 31 + (n - 598) / 17 → s ≡ (n - 598) % 17 → index_of t s ≡ Some n
fourth_zone t s n low high track sector =
    let few : sectors_of t ≡ 17 = grind (arith, common_steps) in
    let before : blocks_before t 0 ≡ 598 + 17 * (t - 31) = (zones t).fourth (omega arith) (omega arith) in
    indexed t s n (omega (arith, few)) (omega (arith, before))

-- a track of the disk has room for its blocks
room : (t : ℕ) → 1 ≤ t → t ≤ 35 → blocks_before t 0 + sectors_of t ≤ CBM_BLOCKS
room t low high = let z = zones t in grind (arith, common_steps, z.first, z.second, z.third, z.fourth)

-- tracks 1 to 35 have sectors, and no other
track_there : (t s : ℕ) → s < sectors_of t → (1 ≤ t) × (t ≤ 35)
track_there t s low = (grind (arith, common_steps), grind (arith, common_steps))

chosen : (b : Bool) (x n : ℕ) → (if b then Some x else None) ≡ Some n → (b ≡ true) × (x ≡ n)
chosen true x n same = (refl, cc)
chosen false x n same = absurd (cc)

-- an index is that of one of the disk's blocks
pub index_below : (t s n : ℕ) → index_of t s ≡ Some n → n < CBM_BLOCKS
unfolding index_of
index_below t s n is =
    let there : (is_on_disk t s ≡ true) × (blocks_before t s ≡ n) = chosen (is_on_disk t s) (blocks_before t s) n is in
    let on : is_on_disk t s ≡ true = there.0 in
    let low : s < sectors_of t = grind (arith, common_steps) in
    let track : (1 ≤ t) × (t ≤ 35) = track_there t s low in
    let within_room : blocks_before t 0 + sectors_of t ≤ CBM_BLOCKS = room t track.0 track.1 in
    let count : blocks_before t s ≡ blocks_before t 0 + s = within t s low in
    let same : blocks_before t s ≡ n = there.1 in
    omega (arith, low, within_room, count, same)
