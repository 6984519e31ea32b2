-- Each slot of a directory is a file's or not, and each file has faults and, where it is sound, sectors.
use Rattle.std.proofs.Common.{◌≡◌, ◌⊎◌, ◌∙◌, ◌+◌, ◌*◌, ◌/◌, ◌%◌, ◌<◌, ◌≤◌, ◌++◌, ℕ, zero, suc, List, [], Contains, arith, length, map, refl, slice_index, subst, sym}
use Rattle.std.specs.List.{range_with_len}
use Rattle.std.proofs.Math.Seq.{take-append_seam}
use Rattle.std.proofs.lemmas.List.{get_or-append-add, length-append}
use Rattle.std.proofs.lemmas.List.FromFn.{get_or-map-range_with_len, length-map-range_with_len}
use Rattle.rd_geometry.proofs.Decidability.{Decided, apart, decided_as, decided_at_most, decided_both, decided_either, decided_if, decided_less, decided_not, decided_same, decided_text, each_below, fails, flag, flag_is, holds, some_below, those}
use Rattle.rd_cpm.specs.Contents.{AreEntries, AreSectors}
use Rattle.rd_cpm.specs.Entries.{IsOfFile, extent_number_of, user_byte_of, name_of, without_high_bits, pointer_of, rc_of}
use Rattle.rd_cpm.specs.Faults.{AreFaults, HasBadCount, HasDuplicate, HasGap, HasHole, HasOtherClaim, IsCrossed, IsOffDisk, IsShort, IsSound}
use Rattle.rd_cpm.specs.Files.{Claims, Directory, IsEntryOf, IsFileSlot}
use Rattle.rd_cpm.specs.Gathered.{AreGathered, HasExtent}
use Rattle.rd_cpm.specs.EntryTests.{AreInOrder, AreRecords}
use Rattle.rd_cpm.proofs.BitLemmas.{digit, seven}
use Rattle.rd_cpm.proofs.FaultLemmas.{faults_by_bits, sectors_as, sound_in_order}
use Rattle.rd_cpm.proofs.GatherLemmas.{any_to_entry, entry_to_any}
use Rattle.rd_cpm.proofs.SectorLemmas.{AreRecordsBelow, none_at_last, records_all, records_more, records_none}

-- ---- entries

decided_entry : (d : Directory) (k j : ℕ) → Decided (IsEntryOf d k j)
decided_entry d k j =
    decided_as (decided_both (decided_less j 64) (decided_both (decided_less (user_byte_of (d k)) 16)
    (decided_both (decided_same (user_byte_of (d j)) (user_byte_of (d k))) (decided_text (without_high_bits (name_of (d j))) (without_high_bits (name_of (d k)))))))
    (λ is. record { slot = is.0; file = is.1.0; user = is.1.1.0; name = is.1.1.1 })
    (λ entry. (entry.slot, (entry.file, (entry.user, entry.name))))

module _ (d : Directory) (k : ℕ) where
  some_entry : (P : ℕ → Type 0) → ((j : ℕ) → Decided (P j)) → Decided ((j : ℕ) × IsEntryOf d k j × P j)
  some_entry P test =
      decided_as (some_below (λ j. IsEntryOf d k j × P j) (λ j. decided_both (decided_entry d k j) (test j)) 64)
      (λ found. (found.0, found.2.0, found.2.1))
      (λ found. (found.0, found.1.slot, (found.1, found.2)))

  each_entry : (P : ℕ → Type 0) → ((j : ℕ) → Decided (P j)) → Decided ((j : ℕ) → IsEntryOf d k j → P j)
  each_entry P test =
      decided_as (each_below (λ j. IsEntryOf d k j → P j) (λ j. decided_if (decided_entry d k j) (test j)) 64)
      (λ all j entry. all j entry.slot entry)
      (λ all j low entry. all j entry)

  -- the slot is that of a file, or not
  pub decided_file : Decided (IsFileSlot d k)
  decided_file =
      decided_as (decided_both (decided_less k 64) (decided_both (decided_less (user_byte_of (d k)) 16) (each_entry (λ j. k ≤ j) (λ j. decided_at_most k j))))
      (λ is. record { slot = is.0; file = is.1.0; least = is.1.1 })
      (λ file. (file.slot, (file.file, file.least)))

-- ---- faults

decided_other : (d : Directory) (j i b : ℕ) → Decided (HasOtherClaim d j i b)
decided_other d j i b =
    decided_as (some_below
    (λ s. (p : ℕ) × (p < 16) × (IsOfFile (d s) × ((pointer_of (d s) p ≡ b) × ((0 < b) × (s ≡ j → p ≡ i → ⊥)))))
    (λ s. some_below (λ p. IsOfFile (d s) × ((pointer_of (d s) p ≡ b) × ((0 < b) × (s ≡ j → p ≡ i → ⊥))))
    (λ p. decided_both (decided_less (user_byte_of (d s)) 16) (decided_both (decided_same (pointer_of (d s) p) b)
    (decided_both (decided_less 0 b) (decided_if (decided_same s j) (decided_not (decided_same p i)))))) 16) 64)
    (λ found. record {
      slot = found.0;
      place = found.2.0;
      claim = record { slot = found.1; place = found.2.1; file = found.2.2.0; value = found.2.2.1.0; block = found.2.2.1.1.0 };
      other = found.2.2.1.1.1;
    })
    (λ has. (has.slot, has.claim.slot, (has.place, has.claim.place, (has.claim.file, (has.claim.value, (has.claim.block, has.other))))))

module _ (d : Directory) (k : ℕ) where
  bad_count : Decided (HasBadCount d k)
  bad_count =
      decided_as (some_entry d k (λ j. 128 < rc_of (d j)) (λ j. decided_less 128 (rc_of (d j))))
      (λ found. record { entry = found.0; of_file = found.1; many = found.2 })
      (λ has. (has.entry, has.of_file, has.many))

  duplicate : Decided (HasDuplicate d k)
  duplicate =
      decided_as (some_entry d k (λ a. (b : ℕ) × IsEntryOf d k b × ((a ≡ b → ⊥) × (extent_number_of (d a) ≡ extent_number_of (d b))))
      (λ a. some_entry d k (λ b. (a ≡ b → ⊥) × (extent_number_of (d a) ≡ extent_number_of (d b)))
      (λ b. decided_both (decided_not (decided_same a b)) (decided_same (extent_number_of (d a)) (extent_number_of (d b))))))
      (λ found. record { one = found.0; other = found.2.0; one_of_file = found.1; other_of_file = found.2.1; two = found.2.2.0; same = found.2.2.1 })
      (λ has. (has.one, has.one_of_file, (has.other, has.other_of_file, (has.two, has.same))))

  gap : Decided (HasGap d k)
  gap =
      decided_as (some_entry d k (λ e. (0 < extent_number_of (d e)) × ((j : ℕ) → IsEntryOf d k j → extent_number_of (d j) + 1 ≡ extent_number_of (d e) → ⊥))
      (λ e. decided_both (decided_less 0 (extent_number_of (d e)))
      (each_entry d k (λ j. extent_number_of (d j) + 1 ≡ extent_number_of (d e) → ⊥) (λ j. decided_not (decided_same (extent_number_of (d j) + 1) (extent_number_of (d e)))))))
      (λ found. record { entry = found.0; of_file = found.1; above = found.2.0; alone = found.2.1 })
      (λ has. (has.entry, has.of_file, (has.above, has.alone)))

  short : Decided (IsShort d k)
  short =
      decided_as (some_entry d k (λ e. (rc_of (d e) < 128) × ((l : ℕ) × IsEntryOf d k l × (extent_number_of (d e) < extent_number_of (d l))))
      (λ e. decided_both (decided_less (rc_of (d e)) 128)
      (some_entry d k (λ l. extent_number_of (d e) < extent_number_of (d l)) (λ l. decided_less (extent_number_of (d e)) (extent_number_of (d l))))))
      (λ found. record { entry = found.0; later = found.2.1.0; of_file = found.1; later_of_file = found.2.1.1; few = found.2.0; higher = found.2.1.2 })
      (λ is. (is.entry, is.of_file, (is.few, (is.later, is.later_of_file, is.higher))))

  hole : Decided (HasHole d k)
  hole =
      decided_as (some_entry d k (λ e. (p : ℕ) × (p < 16) × ((8 * p < rc_of (d e)) × (pointer_of (d e) p ≡ 0)))
      (λ e. some_below (λ p. (8 * p < rc_of (d e)) × (pointer_of (d e) p ≡ 0))
      (λ p. decided_both (decided_less (8 * p) (rc_of (d e))) (decided_same (pointer_of (d e) p) 0)) 16))
      (λ found. record { entry = found.0; place = found.2.0; of_file = found.1; in_entry = found.2.1; reached = found.2.2.0; missing = found.2.2.1 })
      (λ has. (has.entry, has.of_file, (has.place, has.in_entry, (has.reached, has.missing))))

  off_disk : Decided (IsOffDisk d k)
  off_disk =
      decided_as (some_entry d k (λ e. (p : ℕ) × (p < 16) × (242 < pointer_of (d e) p))
      (λ e. some_below (λ p. 242 < pointer_of (d e) p) (λ p. decided_less 242 (pointer_of (d e) p)) 16))
      (λ found. record { entry = found.0; place = found.2.0; of_file = found.1; in_entry = found.2.1; beyond = found.2.2 })
      (λ is. (is.entry, is.of_file, (is.place, is.in_entry, is.beyond)))

  -- a place of an entry claims a block that is taken
  abbrev Taken : ℕ → ℕ → Type 0
  Taken e p = IsOfFile (d e) × ((0 < pointer_of (d e) p) × ((pointer_of (d e) p ≡ 1) ⊎ HasOtherClaim d e p (pointer_of (d e) p)))

  decided_taken : (e p : ℕ) → Decided (Taken e p)
  decided_taken e p =
      decided_both (decided_less (user_byte_of (d e)) 16) (decided_both (decided_less 0 (pointer_of (d e) p))
      (decided_either (decided_same (pointer_of (d e) p) 1) (decided_other d e p (pointer_of (d e) p))))

  taken_at : (e p b : ℕ) → Claims d e p b → (b ≡ 1) ⊎ HasOtherClaim d e p b → Taken e p
  taken_at e p b claim taken =
      let is : b ≡ pointer_of (d e) p = sym claim.value in
      (claim.file, (subst (λ n. 0 < n) is claim.block, subst (λ n. (n ≡ 1) ⊎ HasOtherClaim d e p n) is taken))

  crossed : Decided (IsCrossed d k)
  crossed =
      decided_as (some_entry d k (λ e. (p : ℕ) × (p < 16) × Taken e p) (λ e. some_below (Taken e) (decided_taken e) 16))
      (λ found. record {
        entry = found.0;
        place = found.2.0;
        block = pointer_of (d found.0) found.2.0;
        of_file = found.1;
        claim = record { slot = found.1.slot; place = found.2.1; file = found.2.2.0; value = refl; block = found.2.2.1.0 };
        taken = found.2.2.1.1;
      })
      (λ is. (is.entry, is.of_file, (is.place, is.claim.place, taken_at is.entry is.place is.block is.claim is.taken)))

  -- each file has faults
  pub faults_of : (faults : ℕ) × AreFaults d k faults
  faults_of =
      let n : ℕ = digit (flag bad_count) + 2 * digit (flag duplicate) + 4 * digit (flag gap) + 8 * digit (flag short) + 16 * digit (flag hole)
      + 32 * digit (flag off_disk) + 64 * digit (flag crossed) in (
        n,
        faults_by_bits d k n (seven (flag bad_count) (flag duplicate) (flag gap) (flag short) (flag hole) (flag off_disk) (flag crossed) n refl
            (flag_is bad_count) (flag_is duplicate) (flag_is gap) (flag_is short) (flag_is hole) (flag_is off_disk) (flag_is crossed)),
      )

  -- it is sound, or not
  pub decided_sound : Decided (IsSound d k)
  decided_sound = decided_as (decided_same faults_of.0 0)
      faults_of.1.sound.0
      faults_of.1.sound.1

-- ---- sectors

-- the entries of a file
entries_of : (d : Directory) (k : ℕ) → (slots : List ℕ) × AreEntries d k slots
entries_of d k =
    let found = those (IsEntryOf d k) (decided_entry d k) 64 in (
      found.0,
      record {
        each = λ j. (λ there. ((found.1.each j).0 there).1, λ entry. (found.1.each j).1 (entry.slot, entry));
        once = apart found.0 found.1.ascending;
      },
    )

-- the sectors of the records of an entry
records_in : List ℕ → List ℕ
records_in own = map (λ t. 8 * pointer_of own (t / 8) + t % 8) (range_with_len 0 (rc_of own))

record_in : (old own : List ℕ) (t : ℕ) → t < rc_of own → slice_index (old ++ records_in own) (length old + t) ≡ 8 * pointer_of own (t / 8) + t % 8
unfolding records_in
record_in old own t low =
    get_or-append-add old (map (λ t. 8 * pointer_of own (t / 8) + t % 8) (range_with_len 0 (rc_of own))) t 0
    ∙ get_or-map-range_with_len (λ t. 8 * pointer_of own (t / 8) + t % 8) 0 (rc_of own) t t 0 low (omega arith)

records_added : (old own : List ℕ) → length (old ++ records_in own) ≡ length old + rc_of own
unfolding records_in
records_added old own =
    let many = length-map-range_with_len (λ t. 8 * pointer_of own (t / 8) + t % 8) 0 (rc_of own) in
    omega (arith, many, length-append old (map (λ t. 8 * pointer_of own (t / 8) + t % 8) (range_with_len 0 (rc_of own))))

module _ (entries : List (List ℕ)) (ordered : AreInOrder entries) (test : (n : ℕ) → Decided (HasExtent entries n)) where
  all_records : (n : ℕ) (sectors : List ℕ) → AreRecordsBelow entries n sectors → (HasExtent entries n → ⊥) → (all : List ℕ) × AreRecords entries all
  all_records n sectors are none = (sectors, records_all entries n sectors ordered are none)

  by_extent : (n : ℕ) (sectors : List ℕ) → AreRecordsBelow entries n sectors → Decided (HasExtent entries n)
      → ((more : List ℕ) → AreRecordsBelow entries (n + 1) more → (all : List ℕ) × AreRecords entries all) → (all : List ℕ) × AreRecords entries all
  by_extent n sectors are (holds found) later =
      let own : List ℕ = found.1 in
      let there : Contains entries own = (found.0, found.2, found.3) in
      later (sectors ++ records_in own)
      (records_more entries n own sectors (sectors ++ records_in own) ordered are there found.4 (take-append_seam sectors (records_in own))
      (records_added sectors own) (record_in sectors own))
  by_extent n sectors are (fails none) later = all_records n sectors are none

  records_from : (fuel n : ℕ) (sectors : List ℕ) → n + fuel ≡ 2048 → AreRecordsBelow entries n sectors → (all : List ℕ) × AreRecords entries all
  records_from zero n sectors left are =
      all_records n sectors are (λ found. none_at_last entries (let last : n ≡ 2048 = omega (arith, left) in subst (HasExtent entries) last found))
  records_from (suc fuel) n sectors left are =
      by_extent n sectors are (test n) (λ more all. records_from fuel (n + 1) more (omega (arith, left)) all)

-- each sound file has sectors
pub sectors_of : (d : Directory) (k : ℕ) → IsSound d k → (sectors : List ℕ) × AreSectors d k sectors
sectors_of d k sound =
    let slots = entries_of d k in
    let entries : List (List ℕ) = map d slots.0 in
    let gathered : AreGathered d k entries = record { slots = slots.0; of_file = slots.1; taken = refl } in
    let test : (n : ℕ) → Decided (HasExtent entries n) = λ n.
    decided_as (some_entry d k (λ j. extent_number_of (d j) ≡ n) (λ j. decided_same (extent_number_of (d j)) n))
    (λ found. entry_to_any d k entries (λ e. extent_number_of e ≡ n) found.0 gathered found.1 found.2)
    (λ found. any_to_entry d k entries (λ e. extent_number_of e ≡ n) gathered found) in
    let all = records_from entries (sound_in_order d k entries gathered sound) test 2048 0 [] (omega arith) (records_none entries) in
    (all.0, sectors_as d k entries all.0 gathered all.1)
