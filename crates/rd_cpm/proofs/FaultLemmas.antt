-- What the tests of a file's gathered entries tell is what the definitions say of the file.
use Rattle.std.proofs.Common.{◌≡◌, ◌≢◌, ◌∙◌, ◌⊎◌, inl, inr, ◌↔◌, ◌+◌, ◌*◌, ◌/◌, ◌%◌, ◌<◌, ℕ, Bool, false, IsTrue, List, [], ◌∷◌, length, map, bit_and, slice_index_or, drop, sum_by, Any, All, arith, refl, sym, ap, subst}
use Rattle.std.proofs.lemmas.Bool.{cases_eq, cases_order, cases_lt}
use Rattle.std.proofs.lemmas.List.{get_or_default, get_or-map, length-map, length-take}
use Rattle.std.proofs.lemmas.List.Elements.{Contains-get_or}
use Rattle.std.proofs.lemmas.List.Sums.{sum_by-cons}
use Rattle.std.proofs.Math.ListN.{get_or-eq_default}
use Rattle.rd_geometry.specs.Places.{CPM_UNITS}
use Rattle.rd_cpm.specs.Entries.{IsOfFile, rc_of, extent_number_of, pointers_of, pointer_of}
use Rattle.rd_cpm.specs.Files.{Directory, IsEntryOf, Claims}
use Rattle.rd_cpm.specs.Faults.{HasBadCount, HasDuplicate, HasGap, IsShort, HasHole, IsOffDisk, HasOtherClaim, IsCrossed, IsSound, AreFaults}
use Rattle.rd_cpm.specs.Contents.{AreSectors}
use Rattle.rd_cpm.specs.Claimed.{IsClaimedBefore, IsSharedBefore, AreClaims}
use Rattle.rd_cpm.specs.Gathered.{AreGathered, LacksPredecessor, EndsEarly, AreTwice, IsHole, SomePlace, IsOffDiskIn, IsSharedBlock, IsCrossedIn}
use Rattle.rd_cpm.specs.EntryTests.{AreInOrder, AreFaultBits, AreRecords, AreJudged}
use Rattle.rd_cpm.proofs.BitLemmas.{TellSeven, no_bit, no_bits}
use Rattle.rd_cpm.proofs.ClaimLemmas.{numbered}
use Rattle.rd_cpm.proofs.OwnerLemmas.{of_file}
use Rattle.rd_cpm.proofs.GatherLemmas.{any_to_entry, entry_to_any, member_to_entry}

bad_count_as : (d : Directory) (k : ℕ) (entries : List (List ℕ)) → AreGathered d k entries → Any (λ entry. 128 < rc_of entry) entries ↔ HasBadCount d k
bad_count_as d k entries g = (
  λ found. let one = any_to_entry d k entries (λ entry. 128 < rc_of entry) g found in record { entry = one.0; of_file = one.1; many = one.2 },
  λ has. entry_to_any d k entries (λ entry. 128 < rc_of entry) has.entry g has.of_file has.many,
)

-- the entry at a place of the list is that of the slot at this place
at_place : (d : Directory) (k : ℕ) (entries : List (List ℕ)) (g : AreGathered d k entries) (i : ℕ) → i < length g.slots → slice_index_or entries i [] ≡ d (slice_index_or g.slots i 0)
at_place d k entries g i inside = ap (λ l. slice_index_or l i []) g.taken ∙ get_or-map d g.slots i 0 [] inside

inside_slots : (d : Directory) (k : ℕ) (entries : List (List ℕ)) (g : AreGathered d k entries) (i : ℕ) → i < length entries → i < length g.slots
inside_slots d k entries g i inside = let same : length entries ≡ length g.slots = ap length g.taken ∙ length-map g.slots d in omega arith

duplicate_as : (d : Directory) (k : ℕ) (entries : List (List ℕ)) → AreGathered d k entries → AreTwice entries ↔ HasDuplicate d k
duplicate_as d k entries g = (to, from)
  where
    to : AreTwice entries → HasDuplicate d k
    to twice =
        let other_in : twice.other < length g.slots = inside_slots d k entries g twice.other twice.inside in
        let one_in : twice.one < length g.slots = (let before : twice.one < twice.other = twice.first in omega arith) in
        record {
          one = slice_index_or g.slots twice.one 0;
          other = slice_index_or g.slots twice.other 0;
          one_of_file = (g.of_file.each _).0 (Contains-get_or g.slots twice.one 0 one_in);
          other_of_file = (g.of_file.each _).0 (Contains-get_or g.slots twice.other 0 other_in);
          two = g.of_file.once twice.one twice.other 0 twice.first other_in;
          same = ap extent_number_of (sym (at_place d k entries g twice.one one_in)) ∙ twice.same ∙ ap extent_number_of (at_place d k entries g twice.other other_in);
        }

    pair : (i j : ℕ) → i < j → j < length g.slots → extent_number_of (d (slice_index_or g.slots i 0)) ≡ extent_number_of (d (slice_index_or g.slots j 0)) → AreTwice entries
    pair i j first inside same = record {
      one = i;
      other = j;
      first = first;
      inside = (let whole : length entries ≡ length g.slots = ap length g.taken ∙ length-map g.slots d in omega arith);
      same = ap extent_number_of (at_place d k entries g i (omega arith)) ∙ same ∙ ap extent_number_of (sym (at_place d k entries g j inside));
    }

    from : HasDuplicate d k → AreTwice entries
    from has =
        let one = (g.of_file.each has.one).1 has.one_of_file in
        let other = (g.of_file.each has.other).1 has.other_of_file in
        let one_is : slice_index_or g.slots one.0 0 ≡ has.one = get_or_default g.slots one.0 0 has.one one.1 ∙ one.2 in
        let other_is : slice_index_or g.slots other.0 0 ≡ has.other = get_or_default g.slots other.0 0 has.other other.1 ∙ other.2 in
        let same : extent_number_of (d (slice_index_or g.slots one.0 0)) ≡ extent_number_of (d (slice_index_or g.slots other.0 0)) =
        ap (λ j. extent_number_of (d j)) one_is ∙ has.same ∙ ap (λ j. extent_number_of (d j)) (sym other_is) in
        elim (cases_order one.0 other.0) [
          | inl equal ↦ absurd (has.two (sym one_is ∙ ap (λ i. slice_index_or g.slots i 0) equal ∙ other_is))
          | inr apart ↦ elim apart [
            | inl before ↦ pair one.0 other.0 before other.1 same
            | inr after ↦ pair other.0 one.0 after one.1 (sym same)
          ]
        ]

gap_as : (d : Directory) (k : ℕ) (entries : List (List ℕ)) → AreGathered d k entries → Any (LacksPredecessor entries) entries ↔ HasGap d k
gap_as d k entries g = (
  λ found. let one = any_to_entry d k entries (LacksPredecessor entries) g found in record {
    entry = one.0;
    of_file = one.1;
    above = one.2.later;
    alone = λ j entry next. one.2.alone (extent_number_of (d j)) next (entry_to_any d k entries (λ e. extent_number_of e ≡ extent_number_of (d j)) j g entry refl);
  },
  λ has. entry_to_any d k entries (LacksPredecessor entries) has.entry g has.of_file (record {
    later = has.above;
    alone = λ number next found. let one = any_to_entry d k entries (λ e. extent_number_of e ≡ number) g found in
        has.alone one.0 one.1 (ap (λ n. n + 1) one.2 ∙ next);
  }),
)

short_as : (d : Directory) (k : ℕ) (entries : List (List ℕ)) → AreGathered d k entries → Any (EndsEarly entries) entries ↔ IsShort d k
short_as d k entries g = (
  λ found.
      let one = any_to_entry d k entries (EndsEarly entries) g found in
      let later = any_to_entry d k entries (λ e. extent_number_of (d one.0) < extent_number_of e) g one.2.later in
      record { entry = one.0; later = later.0; of_file = one.1; later_of_file = later.1; few = one.2.few; higher = later.2 },
  λ is. entry_to_any d k entries (EndsEarly entries) is.entry g is.of_file (record {
    few = is.few;
    later = entry_to_any d k entries (λ e. extent_number_of (d is.entry) < extent_number_of e) is.later g is.later_of_file is.higher;
  }),
)

hole_as : (d : Directory) (k : ℕ) (entries : List (List ℕ)) → AreGathered d k entries → Any (λ entry. SomePlace (IsHole entry)) entries ↔ HasHole d k
hole_as d k entries g = (
  λ found. let one = any_to_entry d k entries (λ entry. SomePlace (IsHole entry)) g found in
      record { entry = one.0; place = one.2.0; of_file = one.1; in_entry = one.2.1; reached = one.2.2.reached; missing = one.2.2.missing },
  λ has. entry_to_any d k entries (λ entry. SomePlace (IsHole entry)) has.entry g has.of_file (has.place, has.in_entry, record { reached = has.reached; missing = has.missing }),
)

-- a block that stands in the list of pointers is that of a place
place_of_block : (entry : List ℕ) (i block : ℕ) → i < length (pointers_of entry) → slice_index_or (pointers_of entry) i block ≡ block → pointer_of entry i ≡ block
place_of_block entry i block inside is = get_or_default (pointers_of entry) i 0 block inside ∙ is

pointers_16 : (entry : List ℕ) (i : ℕ) → i < length (pointers_of entry) → i < 16
pointers_16 entry i inside = omega (arith, length-take 16 (drop 16 entry))

-- a pointer that is not 0 stands in the list of pointers
block_of_place : (entry : List ℕ) (i : ℕ) (P : ℕ → Type 0) → 0 < pointer_of entry i → P (pointer_of entry i) → Any P (pointers_of entry)
block_of_place entry i P some holds = elim (cases_lt i (length (pointers_of entry))) [
  | inl inside ↦ (i, pointer_of entry i, inside, get_or_default (pointers_of entry) i (pointer_of entry i) 0 inside, holds)
  | inr past ↦ absurd (let none : pointer_of entry i ≡ 0 = get_or-eq_default (pointers_of entry) 0 past in omega arith)
]

off_disk_as : (d : Directory) (k : ℕ) (entries : List (List ℕ)) → AreGathered d k entries → Any IsOffDiskIn entries ↔ IsOffDisk d k
unfolding IsOffDiskIn
off_disk_as d k entries g = (
  λ found. let one = any_to_entry d k entries IsOffDiskIn g found in
      record {
        entry = one.0;
        place = one.2.0;
        of_file = one.1;
        in_entry = pointers_16 (d one.0) one.2.0 one.2.2;
        beyond = subst (λ b. 242 < b) (sym (place_of_block (d one.0) one.2.0 one.2.1 one.2.2 one.2.3)) one.2.4;
      },
  λ is. entry_to_any d k entries IsOffDiskIn is.entry g is.of_file
      (block_of_place (d is.entry) is.place (λ b. 242 < b) (let far : 242 < pointer_of (d is.entry) is.place = is.beyond in omega arith) is.beyond),
)

-- the claim of a pointer has the number of its place
claim_before : (d : Directory) (j i b : ℕ) → Claims d j i b → IsClaimedBefore d 1024 b
claim_before d j i b claim = record {
  number = 16 * j + i;
  before = let low_j : j < 64 = claim.slot in let low_i : i < 16 = claim.place in omega arith;
  claim = numbered d j i b claim.place claim;
}

-- of two different claims of a block one is another than a given one
beside_one : (d : Directory) (j i b : ℕ) → i < 16 → IsSharedBefore d 1024 b → HasOtherClaim d j i b
beside_one d j i b low s = elim (cases_eq s.one (16 * j + i)) [
  | inl same ↦ record {
    slot = s.other / 16;
    place = s.other % 16;
    claim = s.other_claim;
    other = λ slot place. let apart : s.one < s.other = s.first in omega arith;
  }
  | inr other ↦ record {
    slot = s.one / 16;
    place = s.one % 16;
    claim = s.one_claim;
    other = λ slot place. other (let is : s.one ≡ 16 * (s.one / 16) + s.one % 16 = omega arith in omega arith);
  }
]

-- a claim and another one of its block are two
two_claims : (d : Directory) (j i b : ℕ) → Claims d j i b → HasOtherClaim d j i b → IsSharedBefore d 1024 b
two_claims d j i b claim beside =
    let low_j : j < 64 = claim.slot in
    let low_i : i < 16 = claim.place in
    let low_m : beside.slot < 64 = beside.claim.slot in
    let low_n : beside.place < 16 = beside.claim.place in
    let one : Claims d ((16 * j + i) / 16) ((16 * j + i) % 16) b = numbered d j i b low_i claim in
    let two : Claims d ((16 * beside.slot + beside.place) / 16) ((16 * beside.slot + beside.place) % 16) b = numbered d beside.slot beside.place b low_n beside.claim in
    elim (cases_order (16 * j + i) (16 * beside.slot + beside.place)) [
      | inl same ↦ absurd (beside.other (omega arith) (omega arith))
      | inr apart ↦ elim apart [
        | inl before ↦ record { one = 16 * j + i; other = 16 * beside.slot + beside.place; first = before; before = omega arith; one_claim = one; other_claim = two }
        | inr after ↦ record { one = 16 * beside.slot + beside.place; other = 16 * j + i; first = after; before = omega arith; one_claim = two; other_claim = one }
      ]
    ]

crossed_as : (d : Directory) (k : ℕ) (entries : List (List ℕ)) (claimed shared : List Bool) → AreGathered d k entries → AreClaims d 1024 claimed shared
    → Any (IsCrossedIn shared) entries ↔ IsCrossed d k
unfolding IsCrossedIn
crossed_as d k entries claimed shared g claims = (to, from)
  where
    of_user : (j : ℕ) → IsEntryOf d k j → IsOfFile (d j)
    of_user j entry = of_file d k j entry

    shared_in : (j i b : ℕ) → Claims d j i b → (b ≡ 1) ⊎ IsTrue (slice_index_or shared b false) → (b ≡ 1) ⊎ HasOtherClaim d j i b
    shared_in j i b claim taken = elim taken [
      | inl directory ↦ inl directory
      | inr twice ↦ inr (beside_one d j i b claim.place ((claims.twice b claim.block (claims.bytes b (claim_before d j i b claim))).0 twice))
    ]

    to : Any (IsCrossedIn shared) entries → IsCrossed d k
    to found =
        let one = any_to_entry d k entries (IsCrossedIn shared) g found in
        let claim : Claims d one.0 one.2.0 one.2.1 = record {
          slot = one.1.slot;
          place = pointers_16 (d one.0) one.2.0 one.2.2;
          file = of_user one.0 one.1;
          value = place_of_block (d one.0) one.2.0 one.2.1 one.2.2 one.2.3;
          block = one.2.4.some;
        } in
        record { entry = one.0; place = one.2.0; block = one.2.1; of_file = one.1; claim = claim; taken = shared_in one.0 one.2.0 one.2.1 claim one.2.4.taken }

    block_shared : (j i b : ℕ) → Claims d j i b → (b ≡ 1) ⊎ HasOtherClaim d j i b → IsSharedBlock shared b
    block_shared j i b claim taken = record {
      some = claim.block;
      taken = elim taken [
        | inl directory ↦ inl directory
        | inr beside ↦ inr ((claims.twice b claim.block (claims.bytes b (claim_before d j i b claim))).1 (two_claims d j i b claim beside))
      ];
    }

    from : IsCrossed d k → Any (IsCrossedIn shared) entries
    from is = entry_to_any d k entries (IsCrossedIn shared) is.entry g is.of_file
        (block_of_place (d is.entry) is.place (IsSharedBlock shared)
        (subst (λ b. 0 < b) (sym is.claim.value) is.claim.block)
        (subst (IsSharedBlock shared) (sym is.claim.value) (block_shared is.entry is.place is.block is.claim is.taken)))

-- one fact after another
through : {P Q R : Type 0} → (P ↔ Q) → (Q ↔ R) → P ↔ R
through first second = (λ p. second.0 (first.0 p), λ r. first.1 (second.1 r))

-- a number whose bits tell of the seven faults has the faults of the file
pub faults_by_bits : (d : Directory) (k faults : ℕ)
    → TellSeven (HasBadCount d k) (HasDuplicate d k) (HasGap d k) (IsShort d k) (HasHole d k) (IsOffDisk d k) (IsCrossed d k) faults → AreFaults d k faults
faults_by_bits d k faults bits = record {
  bad_count = bits.bit_0;
  duplicate = bits.bit_1;
  gap = bits.bit_2;
  short = bits.bit_3;
  hole = bits.bit_4;
  off_disk = bits.bit_5;
  crossed = bits.bit_6;
  no_other = bits.no_other;
  sound = (
    λ zero. record {
      no_bad_count = λ has. unset 1 zero (bits.bit_0.1 has);
      no_duplicate = λ has. unset 2 zero (bits.bit_1.1 has);
      no_gap = λ has. unset 4 zero (bits.bit_2.1 has);
      not_short = λ has. unset 8 zero (bits.bit_3.1 has);
      no_hole = λ has. unset 16 zero (bits.bit_4.1 has);
      not_off_disk = λ has. unset 32 zero (bits.bit_5.1 has);
      not_crossed = λ has. unset 64 zero (bits.bit_6.1 has);
    },
    λ sound. no_bits faults bits.no_other (λ set. sound.no_bad_count (bits.bit_0.0 set)) (λ set. sound.no_duplicate (bits.bit_1.0 set)) (λ set. sound.no_gap (bits.bit_2.0 set))
        (λ set. sound.not_short (bits.bit_3.0 set)) (λ set. sound.no_hole (bits.bit_4.0 set)) (λ set. sound.not_off_disk (bits.bit_5.0 set)) (λ set. sound.not_crossed (bits.bit_6.0 set)),
  );
}
  where
    unset : (m : ℕ) → faults ≡ 0 → (bit_and faults m ≢ 0) → ⊥
    unset m zero set = no_bit m (subst (λ n. bit_and n m ≢ 0) zero set)

-- the faults that the tests tell are those of the file
pub faults_as : (d : Directory) (k : ℕ) (entries : List (List ℕ)) (claimed shared : List Bool) (faults : ℕ) → AreGathered d k entries → AreClaims d 1024 claimed shared
    → AreFaultBits shared entries faults → AreFaults d k faults
faults_as d k entries claimed shared faults g claims are_bits = faults_by_bits d k faults (record {
  bit_0 = through are_bits.bad_count (bad_count_as d k entries g);
  bit_1 = through are_bits.duplicate (duplicate_as d k entries g);
  bit_2 = through are_bits.gap (gap_as d k entries g);
  bit_3 = through are_bits.short (short_as d k entries g);
  bit_4 = through are_bits.hole (hole_as d k entries g);
  bit_5 = through are_bits.off_disk (off_disk_as d k entries g);
  bit_6 = through are_bits.crossed (crossed_as d k entries claimed shared g claims);
  no_other = are_bits.no_other;
})

-- the entries of a sound file are in order
pub sound_in_order : (d : Directory) (k : ℕ) (entries : List (List ℕ)) → AreGathered d k entries → IsSound d k → AreInOrder entries
sound_in_order d k entries g sound = record {
  counts = λ found. sound.no_bad_count ((bad_count_as d k entries g).0 found);
  once = λ found. sound.no_duplicate ((duplicate_as d k entries g).0 found);
  dense = λ found. sound.no_gap ((gap_as d k entries g).0 found);
  full = λ found. sound.not_short ((short_as d k entries g).0 found);
  on_disk = λ found. sound.not_off_disk ((off_disk_as d k entries g).0 found);
}

sum_by-map : (f : List ℕ → ℕ) (g : ℕ → List ℕ) (xs : List ℕ) → sum_by f (map g xs) ≡ sum_by (λ x. f (g x)) xs
sum_by-map f g [] = refl
sum_by-map f g (x ∷ xs) = sum_by-cons f (g x) (map g xs) ∙ ap (λ n. f (g x) + n) (sum_by-map f g xs) ∙ sym (sum_by-cons (λ x. f (g x)) x xs)

-- the records of the gathered entries are those of the file
pub sectors_as : (d : Directory) (k : ℕ) (entries : List (List ℕ)) (sectors : List ℕ) → AreGathered d k entries → AreRecords entries sectors → AreSectors d k sectors
sectors_as d k entries sectors g records = record {
  entries = g.slots;
  of_file = g.of_file;
  count = records.count ∙ ap (sum_by rc_of) g.taken ∙ sum_by-map rc_of d g.slots;
  each = λ r inside.
      let found = records.each r inside in
      let one = member_to_entry d k entries found.entry g found.there in
      record {
        entry = one.0;
        of_file = one.1;
        extent = ap extent_number_of one.2 ∙ found.extent;
        sector = rw one.2 found.sector;
      };
}

-- The sectors that are told of a file: its own where it is sound, else none, and all on the disk.
pub record AreFileSectors (d : Directory) (k : ℕ) (sectors : List ℕ) : Type 0 where
  pub sound : IsSound d k → AreSectors d k sectors
  pub faulty : ¬ IsSound d k → sectors ≡ []
  pub on_disk : All (λ sector. sector < CPM_UNITS) sectors

pub judged_sectors : (d : Directory) (k : ℕ) (entries : List (List ℕ)) (shared : List Bool) (faults : ℕ) (sectors : List ℕ) → AreGathered d k entries
    → AreFaults d k faults → AreJudged shared entries faults sectors → AreFileSectors d k sectors
judged_sectors d k entries shared faults sectors g are judged = record {
  sound = λ sound. sectors_as d k entries sectors g (judged.sound (are.sound.1 sound));
  faulty = λ unsound. judged.faulty (λ zero. unsound (are.sound.0 zero));
  on_disk = elim (cases_eq faults 0) [
    | inl zero ↦ (judged.sound zero).on_disk
    | inr some ↦ subst (All (λ sector. sector < CPM_UNITS)) (sym (judged.faulty some)) (λ k x inside. absurd (let low : k < 0 = inside in omega arith))
  ];
}
