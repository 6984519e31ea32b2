-- What a directory says of its slots, its claims and its blocks: each fact holds or does not, each file has faults, and each property that few
-- numbers have has a count.
use Rattle.std.proofs.Common.{◌≡◌, ◌⊎◌, inl, inr, ◌∙◌, ◌+◌, ◌*◌, ◌/◌, ◌%◌, ◌^◌, ◌<◌, ◌≤◌, ℕ, zero, suc, Bool, true, false, All, List, Contains, IfSome, IsBitSet, Option, Some, None, ap, arith, bit_and, if◌then◌else◌, length, nat_lt, refl, slice_index, subst, sym}
use Rattle.std.proofs.Math.ListN.{get_or-eq_default}
use Rattle.std.proofs.lemmas.Bool.{cases_lt}
use Rattle.std.proofs.lemmas.List.{get_or_default}
use Rattle.std.proofs.lemmas.List.Elements.{All-drop, All-take}
use Rattle.rd_geometry.specs.Blocks.{CBM_BLOCKS, cbm_block, index_of, mark_of}
use Rattle.rd_geometry.proofs.Decidability.{Decided, decided_as, decided_at_most, decided_both, decided_either, decided_if, decided_less, decided_member, decided_not, decided_same, fails, flag, flag_is, holds, some_below, some_member}
use Rattle.rd_geometry.proofs.Zones.{index_below}
use Rattle.rd_cbm.specs.BlockMap.{HasWrongCount, IsClaimedFree, IsFreeBlock, IsMarkedFree, IsUnclaimedUsed, map_of}
use Rattle.rd_cbm.specs.Counts.{IsCount}
use Rattle.rd_cbm.specs.Entries.{ClaimsBy, Data, IsClosed, IsServed, Side, ChainRole, entry_at, kind_of, start_of, type_of}
use Rattle.rd_cbm.specs.Faults.{AreFaults, HasNoFault, HasReadError, IsCrossed, IsError, IsLooped, IsNotClosed, IsOffDisk, IsSound}
use Rattle.rd_cbm.specs.Files.{Claims, HasOtherClaim, IsFileSlot, IsInUse, IsSystem}
use Rattle.rd_cbm.specs.Links.{link_of, link_to}
use Rattle.rd_cbm.specs.Listing.{AreCounts}
use Rattle.rd_cbm.specs.Walks.{Ends, EndsBy, GoesOff, IsChain, Links, Loops, Reaches, at, next_of}
use Rattle.rd_cbm.specs.declared.chains.Link.{Link}
use Rattle.rd_cbm.specs.declared.chains.Link.TheVariants.{Last, Next, Off}
use Rattle.rd_cbm.specs.declared.chains.End.{End}
use Rattle.rd_cbm.specs.declared.chains.End.TheVariants as end
use Rattle.rd_cbm.specs.declared.report.MapReport.{MapReport}
use Rattle.rd_cbm.proofs.BitLemmas.{digit, five}
use Rattle.rd_cbm.proofs.ClaimLemmas.{map_index}
use Rattle.rd_cbm.proofs.CountLemmas.{IsCountBelow, count_as, count_more, count_none, count_skip}
use Rattle.rd_cbm.proofs.Existence.{HasEnd, StaysInside, has_end}
use Rattle.rd_cbm.proofs.FileLemmas.{faults_by_bits, served_claims}
use Rattle.rd_cbm.proofs.BlockBounds.{links_inside, start_inside}
use Rattle.rd_cbm.proofs.MapLemmas.{count_once, sector_bound, track_bound}
use Rattle.rd_cbm.proofs.WalkLaws.{at-suc, at-zero, one_way, step}

-- ---- counts

module _ (P : ℕ → Type 0) (test : (k : ℕ) → Decided (P k)) where
  next_count : (n : ℕ) → Decided (P n) → (count : ℕ) × IsCountBelow P n count → (count : ℕ) × IsCountBelow P (n + 1) count
  next_count n (holds p) (count, is) = (count + 1, count_more P n count is p)
  next_count n (fails none) (count, is) = (count, count_skip P n count is none)

  count_below : (n : ℕ) → (count : ℕ) × IsCountBelow P n count
  count_below zero = (0, count_none P)
  count_below (suc n) =
      let next : n + 1 ≡ suc n = omega arith in
      subst (λ m. (count : ℕ) × IsCountBelow P m count) next (next_count n (test n) (count_below n))

  -- a property of numbers below one has a count
  pub counted : (n : ℕ) → ((k : ℕ) → P k → k < n) → (count : ℕ) × IsCount P count
  counted n below =
      let found = count_below n in
      (found.0, count_as (λ m. (m < n) × P m) P found.0 found.1.counted (λ m. (λ both. both.1, λ p. (below m p, p))))

-- ---- walks

start_below : (entry : List ℕ) (role : ChainRole) → IfSome (start_of entry role) (λ n. n < CBM_BLOCKS)
start_below entry Data = start_inside (slice_index entry 3) (slice_index entry 4)
start_below entry Side = start_inside (slice_index entry 21) (slice_index entry 22)

-- each chain of an entry has blocks and an end
pub walk_of : (image : List ℕ) (entry : List ℕ) (role : ChainRole) → HasEnd (link_of image) (start_of entry role)
walk_of image entry role = has_end (link_of image) (start_of entry role) (links_inside image) (start_below entry role)

-- and so has the directory
pub directory_of : (image : List ℕ) → HasEnd (link_of image) (index_of 18 1)
directory_of image = has_end (link_of image) (index_of 18 1) (links_inside image) (start_inside 18 1)

module _ (link : Links) (s : Option ℕ) (is : HasEnd link s) where
  -- a block of the chain is one that the walk comes to
  reached_in : (n : ℕ) → Contains is.blocks n → Reaches link s n
  reached_in n there = record {
    place = there.0;
    there = is.chain.in_order there.0 there.1 ∙ ap Some (get_or_default is.blocks there.0 0 n there.1 ∙ there.2);
  }

  decided_reached : (n : ℕ) → Decided (Reaches link s n)
  decided_reached n = decided_as (decided_member is.blocks n)
      (reached_in n)
      (is.chain.all n)

  goes_off : (ending : End) → EndsBy link s ending → Decided (GoesOff link s)
  goes_off end.Off ends = holds ends
  goes_off (end.Last e) ends = fails (λ off. let same : end.Off ≡ end.Last e = one_way link s end.Off (end.Last e) off ends in cc)
  goes_off end.Loop ends = fails (λ off. let same : end.Off ≡ end.Loop = one_way link s end.Off end.Loop off ends in cc)

  loops_so : (ending : End) → EndsBy link s ending → Decided (Loops link s)
  loops_so end.Loop ends = holds ends
  loops_so (end.Last e) ends = fails (λ loop. let same : end.Loop ≡ end.Last e = one_way link s end.Loop (end.Last e) loop ends in cc)
  loops_so end.Off ends = fails (λ loop. let same : end.Loop ≡ end.Off = one_way link s end.Loop end.Off loop ends in cc)

  decided_off : Decided (GoesOff link s)
  decided_off = goes_off is.ending is.holds

  decided_loop : Decided (Loops link s)
  decided_loop = loops_so is.ending is.holds

-- ---- what a walk comes to

next_below : (link : Links) → StaysInside link → (m n : ℕ) (l : Link) → link m ≡ l → next_of l ≡ Some n → n < CBM_BLOCKS
unfolding StaysInside
next_below link stays m n (Next k) is next = let same : k ≡ n = cc in subst (λ b. b < CBM_BLOCKS) same (stays m k is)
next_below link stays m n (Last e) is next = absurd (cc)
next_below link stays m n Off is next = absurd (cc)

step_below : (link : Links) → StaysInside link → (found : Option ℕ) (n : ℕ) → step link found ≡ Some n → n < CBM_BLOCKS
step_below link stays None n is = absurd (cc)
step_below link stays (Some m) n is = next_below link stays m n (link m) refl is

place_below : (link : Links) (s : Option ℕ) → StaysInside link → IfSome s (λ n. n < CBM_BLOCKS) → (i n : ℕ) → at link s i ≡ Some n → n < CBM_BLOCKS
place_below link s stays low zero n is =
    let start : s ≡ Some n = sym (at-zero link s) ∙ is in subst (λ (o : Option ℕ). IfSome o (λ m. m < CBM_BLOCKS)) start low
place_below link s stays low (suc i) n is = step_below link stays (at link s i) n (sym (at-suc link s i) ∙ is)

-- a block that the walk along a chain of an entry comes to is on the disk
pub reached_below : (image entry : List ℕ) (role : ChainRole) (block : ℕ) → Reaches (link_of image) (start_of entry role) block → block < CBM_BLOCKS
reached_below image entry role block is = place_below (link_of image) (start_of entry role) (links_inside image) (start_below entry role) is.place block is.there

-- and so are those of the chain
pub chain_on_disk : (image entry : List ℕ) (role : ChainRole) (blocks : List ℕ) → IsChain (link_of image) (start_of entry role) blocks → All (λ block. block < CBM_BLOCKS) blocks
chain_on_disk image entry role blocks chain k d inside =
    let low = place_below (link_of image) (start_of entry role) (links_inside image) (start_below entry role) k (slice_index blocks k) (chain.in_order k inside) in
    subst (λ b. b < CBM_BLOCKS) (get_or_default blocks k 0 d inside) low

link_last : (b : Bool) (o : Option ℕ) (byte e : ℕ) → (if b then link_to o else Last byte) ≡ Last e → byte ≡ e
link_last true (Some m) byte e is = absurd (cc)
link_last true None byte e is = absurd (cc)
link_last false o byte e is = cc

byte_low : (bytes : List ℕ) (k : ℕ) → All (λ byte. byte < 256) bytes → slice_index bytes k < 256
byte_low bytes k low = elim (cases_lt k (length bytes)) [
  | inl inside ↦ low k 0 inside
  | inr past ↦ (let none : slice_index bytes k ≡ 0 = get_or-eq_default bytes 0 past in omega (arith, none))
]

-- the last byte used of a chain is a byte, where the image holds bytes
pub last_byte : (image : List ℕ) (s : Option ℕ) (e : ℕ) → All (λ byte. byte < 256) image → Ends (link_of image) s e → e < 256
unfolding link_of
last_byte image s e bytes ends =
    let block : List ℕ = cbm_block image ends.block in
    let all : All (λ byte. byte < 256) block = All-take (λ byte. byte < 256) _ _ (All-drop (λ byte. byte < 256) _ image bytes) in
    subst (λ b. b < 256) (link_last (nat_lt 0 (slice_index block 0)) (index_of (slice_index block 0) (slice_index block 1)) (slice_index block 1) e ends.last)
    (byte_low block 1 all)

-- ---- ways

decided_way : (a b : ChainRole) → Decided (a ≡ b)
decided_way Data Data = holds refl
decided_way Side Side = holds refl
decided_way Data Side = fails (λ same. cc)
decided_way Side Data = fails (λ same. cc)

module _ (P : ChainRole → Type 0) where
  by_way : (role : ChainRole) → P role → P Data ⊎ P Side
  by_way Data p = inl p
  by_way Side p = inr p

  some_way : ((role : ChainRole) → Decided (P role)) → Decided ((role : ChainRole) × P role)
  some_way test =
      decided_as (decided_either (test Data) (test Side))
      (λ either. elim either [ inl data_way ↦ (Data, data_way) | inr side ↦ (Side, side) ])
      (λ some. by_way some.0 some.1)

-- ---- slots and claims

decided_closed : (type : ℕ) → Decided (IsClosed type)
decided_closed type = decided_not (decided_same (bit_and type (2 ^ 7)) 0)

pub decided_claimant : (type : ℕ) (role : ChainRole) → Decided (ClaimsBy type role)
decided_claimant type Data =
    decided_as (decided_both (decided_closed type) (decided_both (decided_at_most 1 (kind_of type)) (decided_at_most (kind_of type) 4)))
    (λ is. (is.0, is.1.0, is.1.1))
    (λ claims. (claims.0, (claims.1, claims.2)))
decided_claimant type Side = decided_both (decided_closed type) (decided_same (kind_of type) 4)

module _ (image blocks : List ℕ) where
  pub decided_file : (slot : ℕ) → Decided (IsFileSlot image blocks slot)
  decided_file slot =
      decided_as (decided_both (decided_less slot (8 * length blocks)) (decided_not (decided_same (type_of (entry_at image blocks slot)) 0)))
      (λ is. record { inside = is.0; used = is.1 })
      (λ file. (file.inside, file.used))

  decided_claim : (slot : ℕ) (role : ChainRole) (block : ℕ) → Decided (Claims image blocks slot role block)
  decided_claim slot role block =
      decided_as (decided_both (decided_file slot) (decided_both (decided_claimant (type_of (entry_at image blocks slot)) role)
      (decided_reached (link_of image) (start_of (entry_at image blocks slot) role) (walk_of image (entry_at image blocks slot) role) block)))
      (λ is. record { file = is.0; claimant = is.1.0; on_chain = is.1.1 })
      (λ claim. (claim.file, (claim.claimant, claim.on_chain)))

  decided_system : (block : ℕ) → Decided (IsSystem blocks block)
  decided_system block =
      decided_either
      (decided_as (decided_same 357 block)
      (λ same. map_index ∙ ap Some same)
      (λ is. let both : Some 357 ≡ Some block = sym map_index ∙ is in cc))
      (decided_member blocks block)

  decided_other : (slot : ℕ) (role : ChainRole) (block : ℕ) → Decided (HasOtherClaim image blocks slot role block)
  decided_other slot role block =
      decided_as (some_below (λ s. (w : ChainRole) × (Claims image blocks s w block × (s ≡ slot → w ≡ role → ⊥)))
      (λ s. some_way (λ w. Claims image blocks s w block × (s ≡ slot → w ≡ role → ⊥))
      (λ w. decided_both (decided_claim s w block) (decided_if (decided_same s slot) (decided_not (decided_way w role))))) (8 * length blocks))
      (λ found. record { other_slot = found.0; other_role = found.2.0; claim = found.2.1.0; other = found.2.1.1 })
      (λ has. (has.other_slot, has.claim.file.inside, (has.other_role, (has.claim, has.other))))

  -- a block that the file claims, with a property
  some_claimed : (slot : ℕ) (Q : ChainRole → ℕ → Type 0) → ((role : ChainRole) (block : ℕ) → Decided (Q role block))
      → Decided ((role : ChainRole) × ((block : ℕ) × Contains (walk_of image (entry_at image blocks slot) role).blocks block × (Claims image blocks slot role block × Q role block)))
  some_claimed slot Q test =
      some_way (λ role. (block : ℕ) × Contains (walk_of image (entry_at image blocks slot) role).blocks block × (Claims image blocks slot role block × Q role block))
      (λ role. some_member (λ block. Claims image blocks slot role block × Q role block)
      (λ block. decided_both (decided_claim slot role block) (test role block)) (walk_of image (entry_at image blocks slot) role).blocks)

  -- the claimed block is on the chain
  on_chain : (slot : ℕ) (role : ChainRole) (block : ℕ) → Claims image blocks slot role block → Contains (walk_of image (entry_at image blocks slot) role).blocks block
  on_chain slot role block claim = (walk_of image (entry_at image blocks slot) role).chain.all block claim.on_chain

  -- ---- faults

  module _ (slot : ℕ) where
    abbrev own : List ℕ
    own = entry_at image blocks slot

    not_closed : Decided (IsNotClosed image blocks slot)
    not_closed = decided_not (decided_closed (type_of own))

    off_disk : Decided (IsOffDisk image blocks slot)
    off_disk =
        decided_as (some_way (λ role. ClaimsBy (type_of own) role × GoesOff (link_of image) (start_of own role))
        (λ role. decided_both (decided_claimant (type_of own) role) (decided_off (link_of image) (start_of own role) (walk_of image own role))))
        (λ found. record { role = found.0; claimant = found.1.0; off = found.1.1 })
        (λ is. (is.role, (is.claimant, is.off)))

    looped : Decided (IsLooped image blocks slot)
    looped =
        decided_as (some_way (λ role. ClaimsBy (type_of own) role × Loops (link_of image) (start_of own role))
        (λ role. decided_both (decided_claimant (type_of own) role) (decided_loop (link_of image) (start_of own role) (walk_of image own role))))
        (λ found. record { role = found.0; claimant = found.1.0; loop = found.1.1 })
        (λ is. (is.role, (is.claimant, is.loop)))

    crossed : Decided (IsCrossed image blocks slot)
    crossed =
        decided_as (some_claimed slot (λ role block. IsSystem blocks block ⊎ HasOtherClaim image blocks slot role block)
        (λ role block. decided_either (decided_system block) (decided_other slot role block)))
        (λ found. record { role = found.0; block = found.1.0; claim = found.1.2.0; taken = found.1.2.1 })
        (λ is. (is.role, (is.block, on_chain slot is.role is.block is.claim, (is.claim, is.taken))))

    decided_error : (mark : ℕ) → Decided (IsError mark)
    decided_error mark = decided_both (decided_not (decided_same mark 0)) (decided_not (decided_same mark 1))

    read_error : Decided (HasReadError image blocks slot)
    read_error =
        decided_as (some_claimed slot (λ role block. IsError (mark_of image block)) (λ role block. decided_error (mark_of image block)))
        (λ found. record { role = found.0; block = found.1.0; claim = found.1.2.0; error = found.1.2.1 })
        (λ has. (has.role, (has.block, on_chain slot has.role has.block has.claim, (has.claim, has.error))))

    -- each file has faults
    pub faults_of : (faults : ℕ) × AreFaults image blocks slot faults
    faults_of =
        let n : ℕ = digit (flag not_closed) + 2 * digit (flag off_disk) + 4 * digit (flag looped) + 8 * digit (flag crossed) + 16 * digit (flag read_error) in (
          n,
          faults_by_bits image blocks slot n (five (flag not_closed) (flag off_disk) (flag looped) (flag crossed) (flag read_error) n refl
              (flag_is not_closed) (flag_is off_disk) (flag_is looped) (flag_is crossed) (flag_is read_error)),
        )

    pub decided_no_fault : Decided (HasNoFault image blocks slot)
    decided_no_fault = decided_as (decided_same faults_of.0 0)
        faults_of.1.none.0
        faults_of.1.none.1

    pub decided_served : Decided (IsServed (type_of own))
    decided_served = decided_both (decided_at_most 1 (kind_of (type_of own))) (decided_at_most (kind_of (type_of own)) 3)

    pub decided_sound : Decided (IsSound image blocks slot)
    decided_sound =
        decided_as (decided_both decided_served decided_no_fault)
        (λ is. record { served = is.0; no_fault = is.1 })
        (λ sound. (sound.served, sound.no_fault))

    -- the walk of a sound file ends at a last block
    last_by : IsSound image blocks slot → (ending : End) → EndsBy (link_of image) (start_of own Data) ending → (e : ℕ) × Ends (link_of image) (start_of own Data) e
    last_by sound (end.Last e) ends = (e, ends)
    last_by sound end.Off ends = absurd (sound.no_fault.on_disk (record { role = Data; claimant = served_claims image blocks slot sound; off = ends }))
    last_by sound end.Loop ends = absurd (sound.no_fault.ends (record { role = Data; claimant = served_claims image blocks slot sound; loop = ends }))

    pub last_of : IsSound image blocks slot → (e : ℕ) × Ends (link_of image) (start_of own Data) e
    last_of sound = let is = walk_of image own Data in last_by sound is.ending is.holds

    -- the claimed blocks are counted
    decided_claimed : (block : ℕ) → Decided ((role : ChainRole) × Claims image blocks slot role block)
    decided_claimed block = some_way (λ role. Claims image blocks slot role block) (λ role. decided_claim slot role block)

  -- ---- the block map

  decided_in_use : (block : ℕ) → Decided (IsInUse image blocks block)
  decided_in_use block =
      decided_either (decided_system block)
      (decided_as (some_below (λ s. (role : ChainRole) × Claims image blocks s role block) (λ s. decided_claimed s block) (8 * length blocks))
      (λ found. record { slot = found.0; role = found.2.0; claim = found.2.1 })
      (λ is. (is.slot, is.claim.file.inside, (is.role, is.claim))))

decided_some : (found : Option ℕ) (n : ℕ) → Decided (found ≡ Some n)
decided_some None n = fails (λ is. cc)
decided_some (Some m) n = decided_as (decided_same m n)
    (λ same. ap Some same)
    (λ is. (cc))

module _ (image : List ℕ) where
  abbrev Bit : ℕ → ℕ → Type 0
  Bit track sector = IsBitSet (slice_index (map_of image) (4 * track + 1 + sector / 8)) (sector % 8)

  marked_by : (track sector : ℕ) (found : Option ℕ) → index_of track sector ≡ found → Decided (IsMarkedFree image track sector)
  marked_by track sector None is = fails (λ free. let wrong : None ≡ Some free.index = sym is ∙ free.on_disk in cc)
  marked_by track sector (Some n) is =
      decided_as (decided_not (decided_same (bit_and (slice_index (map_of image) (4 * track + 1 + sector / 8)) (2 ^ (sector % 8))) 0))
      (λ bit. record { index = n; on_disk = is; bit = bit })
      (λ free. free.bit)

  decided_marked : (track sector : ℕ) → Decided (IsMarkedFree image track sector)
  decided_marked track sector = marked_by track sector (index_of track sector) refl

  -- how many sectors of a track are marked free
  marked_count : (track : ℕ) → (count : ℕ) × IsCount (IsMarkedFree image track) count
  marked_count track = counted (IsMarkedFree image track) (decided_marked track) 21 (λ sector free. sector_bound track sector free.index free.on_disk)

  decided_wrong : (track : ℕ) → Decided (HasWrongCount image track)
  decided_wrong track =
      let count = marked_count track in
      decided_as (decided_both (decided_at_most 1 track) (decided_both (decided_at_most track 35) (decided_not (decided_same (slice_index (map_of image) (4 * track)) count.0))))
      (λ is. record { first = is.0; last = is.1.0; free = count.0; marked = count.1; differs = is.1.1 })
      (λ wrong. (wrong.first, (wrong.last, λ same. wrong.differs (same ∙ count_once (IsMarkedFree image track) count.0 wrong.free count.1 wrong.marked))))

  decided_free : (block : ℕ) → Decided (IsFreeBlock image block)
  decided_free block =
      decided_as (some_below (λ t. (s : ℕ) × (s < 21) × ((index_of t s ≡ Some block) × IsMarkedFree image t s))
      (λ t. some_below (λ s. (index_of t s ≡ Some block) × IsMarkedFree image t s)
      (λ s. decided_both (decided_some (index_of t s) block) (decided_marked t s)) 21) 36)
      (λ found. record { track = found.0; sector = found.2.0; at = found.2.2.0; free = found.2.2.1 })
      (λ free. (
        free.track,
        (let low : free.track ≤ 35 = track_bound free.track free.sector block free.at in omega (arith, low)),
        (free.sector, sector_bound free.track free.sector block free.at, (free.at, free.free)),
      ))

  -- the block map has its three counts
  pub counts_of : (map : MapReport) × AreCounts image map
  counts_of =
      let directory = directory_of image in
      let blocks : List ℕ = directory.blocks in
      let wrong = counted (HasWrongCount image) decided_wrong 36 (λ track is. let last : track ≤ 35 = is.last in omega (arith, last)) in
      let free = counted (IsClaimedFree image blocks) (λ block. decided_both (decided_in_use image blocks block) (decided_free block)) CBM_BLOCKS
      (λ block both. index_below both.1.track both.1.sector block both.1.at) in
      let used = counted (IsUnclaimedUsed image blocks)
      (λ block. decided_as (decided_both (decided_less block CBM_BLOCKS) (decided_both (decided_not (decided_in_use image blocks block)) (decided_not (decided_free block))))
      (λ is. (is.0, is.1.0, is.1.1))
      (λ is. (is.0, (is.1, is.2))))
      CBM_BLOCKS (λ block is. is.0) in (
        record { wrong_counts = wrong.0; claimed_free = free.0; unclaimed_used = used.0 },
        record { blocks = blocks; directory = directory.chain; wrong_counts = wrong.1; claimed_free = free.1; unclaimed_used = used.1 },
      )

-- how many blocks the file at a slot claims
pub claimed_count : (image blocks : List ℕ) (slot : ℕ) → (count : ℕ) × IsCount (λ block. (role : ChainRole) × Claims image blocks slot role block) count
claimed_count image blocks slot =
    counted (λ block. (role : ChainRole) × Claims image blocks slot role block) (decided_claimed image blocks slot) CBM_BLOCKS
    (λ block some. reached_below image (entry_at image blocks slot) some.0 block some.1.on_chain)
