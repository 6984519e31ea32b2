-- The files of two CP/M directories. Of a directory's bytes they rest on the first of each entry, and on
-- the name, the extent number, the record count and the pointers of each entry of a file, and on no others.
use Rattle.std.proofs.Common.{◌≡◌, ◌∙◌, inl, inr, ◌↔◌, ◌/◌, ◌%◌, ◌*◌, ◌+◌, ◌<◌, ℕ, List, [], ◌∷◌, All, ap, arith, refl, slice_index, slice_index_or, subst, sum_by, sym}
use Rattle.std.proofs.lemmas.List.Elements.{All-head, All-tail, Contains-get_or}
use Rattle.std.proofs.lemmas.List.Sums.{sum_by-cons}
use Rattle.rd_cpm.specs.Contents.{AreSectors, IsRecord}
use Rattle.rd_cpm.specs.Entries.{IsOfFile, extent_number_of, user_byte_of, name_of, without_high_bits, pointer_of, pointers_of, rc_of}
use Rattle.rd_cpm.specs.Faults.{AreFaults, HasBadCount, HasDuplicate, HasGap, HasHole, HasOtherClaim, IsCrossed, IsOffDisk, IsShort, IsSound}
use Rattle.rd_cpm.specs.Files.{Claims, Directory, IsEntryOf, IsFileSlot}

-- A directory has what tells the files of another: the first byte of each entry, and the name, the extent
-- number, the record count and the pointers of each entry of a file.
pub record HasFilesOf (d other : Directory) : Type 0 where
  pub first : (j : ℕ) → j < 64 → user_byte_of (d j) ≡ user_byte_of (other j)
  pub name : (j : ℕ) → j < 64 → IsOfFile (other j) → name_of (d j) ≡ name_of (other j)
  pub extent : (j : ℕ) → j < 64 → IsOfFile (other j) → extent_number_of (d j) ≡ extent_number_of (other j)
  pub count : (j : ℕ) → j < 64 → IsOfFile (other j) → rc_of (d j) ≡ rc_of (other j)
  pub pointers : (j : ℕ) → j < 64 → IsOfFile (other j) → pointers_of (d j) ≡ pointers_of (other j)

-- an entry of a file is one in both
pub of_file_alike : {d other : Directory} → HasFilesOf d other → (j : ℕ) → j < 64 → IsOfFile (other j) → IsOfFile (d j)
of_file_alike has j low file = subst (λ n. n < 16) (sym (has.first j low)) file

of_file_back : {d other : Directory} → HasFilesOf d other → (j : ℕ) → j < 64 → IsOfFile (d j) → IsOfFile (other j)
of_file_back has j low file = subst (λ n. n < 16) (has.first j low) file

-- the other directory has what tells the files of the first in turn
pub files_turned : {d other : Directory} → HasFilesOf d other → HasFilesOf other d
files_turned has = record {
  first = λ j low. sym (has.first j low);
  name = λ j low file. sym (has.name j low (of_file_back has j low file));
  extent = λ j low file. sym (has.extent j low (of_file_back has j low file));
  count = λ j low file. sym (has.count j low (of_file_back has j low file));
  pointers = λ j low file. sym (has.pointers j low (of_file_back has j low file));
}

-- an entry of the file of a slot is an entry of a file
entry_of_file : (d : Directory) (k j : ℕ) → IsEntryOf d k j → IsOfFile (d j)
entry_of_file d k j entry = subst (λ n. n < 16) (sym entry.user) entry.file

-- the entries of the file of a slot are the same
pub entry_alike : {d other : Directory} → HasFilesOf d other → {k : ℕ} → k < 64 → (j : ℕ) → IsEntryOf other k j → IsEntryOf d k j
entry_alike {d = d} {other = other} has {k = k} low j entry = record {
  slot = entry.slot;
  file = of_file_alike has k low entry.file;
  user = has.first j entry.slot ∙ entry.user ∙ sym (has.first k low);
  name = ap without_high_bits (has.name j entry.slot (entry_of_file other k j entry)) ∙ entry.name ∙ sym (ap without_high_bits (has.name k low entry.file));
}

entry_back : {d other : Directory} → HasFilesOf d other → {k : ℕ} → k < 64 → (j : ℕ) → IsEntryOf d k j → IsEntryOf other k j
entry_back has low j entry = entry_alike (files_turned has) low j entry

-- a file's slot is one in both
pub slot_alike : {d other : Directory} → HasFilesOf d other → (k : ℕ) → IsFileSlot other k → IsFileSlot d k
slot_alike has k file = record {
  slot = file.slot;
  file = of_file_alike has k file.slot file.file;
  least = λ j entry. file.least j (entry_back has file.slot j entry);
}

-- a claim is one in both
claim_alike : {d other : Directory} → HasFilesOf d other → (j i b : ℕ) → Claims other j i b → Claims d j i b
claim_alike has j i b claim = record {
  slot = claim.slot;
  place = claim.place;
  file = of_file_alike has j claim.slot claim.file;
  value = ap (λ pointers. slice_index pointers i) (has.pointers j claim.slot claim.file) ∙ claim.value;
  block = claim.block;
}

-- the fields of an entry of a file's slot are the same
extent_same : {d other : Directory} → HasFilesOf d other → {k : ℕ} (j : ℕ) → IsEntryOf other k j → extent_number_of (d j) ≡ extent_number_of (other j)
extent_same {d = d} {other = other} has {k = k} j entry = has.extent j entry.slot (entry_of_file other k j entry)

count_same : {d other : Directory} → HasFilesOf d other → {k : ℕ} (j : ℕ) → IsEntryOf other k j → rc_of (d j) ≡ rc_of (other j)
count_same {d = d} {other = other} has {k = k} j entry = has.count j entry.slot (entry_of_file other k j entry)

pointer_same : {d other : Directory} → HasFilesOf d other → {k : ℕ} (j i : ℕ) → IsEntryOf other k j → pointer_of (d j) i ≡ pointer_of (other j) i
pointer_same {d = d} {other = other} has {k = k} j i entry = ap (λ pointers. slice_index pointers i) (has.pointers j entry.slot (entry_of_file other k j entry))

-- a fault of a file is one in both
bad_count_alike : {d other : Directory} → HasFilesOf d other → {k : ℕ} → k < 64 → HasBadCount other k → HasBadCount d k
bad_count_alike has low fault = record {
  entry = fault.entry;
  of_file = entry_alike has low fault.entry fault.of_file;
  many = subst (λ n. 128 < n) (sym (count_same has fault.entry fault.of_file)) fault.many;
}

duplicate_alike : {d other : Directory} → HasFilesOf d other → {k : ℕ} → k < 64 → HasDuplicate other k → HasDuplicate d k
duplicate_alike has low fault = record {
  one = fault.one;
  other = fault.other;
  one_of_file = entry_alike has low fault.one fault.one_of_file;
  other_of_file = entry_alike has low fault.other fault.other_of_file;
  two = fault.two;
  same = extent_same has fault.one fault.one_of_file ∙ fault.same ∙ sym (extent_same has fault.other fault.other_of_file);
}

gap_alike : {d other : Directory} → HasFilesOf d other → {k : ℕ} → k < 64 → HasGap other k → HasGap d k
gap_alike has low fault = record {
  entry = fault.entry;
  of_file = entry_alike has low fault.entry fault.of_file;
  above = subst (λ n. 0 < n) (sym (extent_same has fault.entry fault.of_file)) fault.above;
  alone = λ j entry follows. fault.alone j (entry_back has low j entry)
      (ap (λ n. n + 1) (sym (extent_same has j (entry_back has low j entry))) ∙ follows ∙ extent_same has fault.entry fault.of_file);
}

short_alike : {d other : Directory} → HasFilesOf d other → {k : ℕ} → k < 64 → IsShort other k → IsShort d k
short_alike {d = d} {other = other} has low fault = record {
  entry = fault.entry;
  later = fault.later;
  of_file = entry_alike has low fault.entry fault.of_file;
  later_of_file = entry_alike has low fault.later fault.later_of_file;
  few = subst (λ n. n < 128) (sym (count_same has fault.entry fault.of_file)) fault.few;
  higher = rw (extent_same has fault.entry fault.of_file, extent_same has fault.later fault.later_of_file) fault.higher;
}

hole_alike : {d other : Directory} → HasFilesOf d other → {k : ℕ} → k < 64 → HasHole other k → HasHole d k
hole_alike has low fault = record {
  entry = fault.entry;
  place = fault.place;
  of_file = entry_alike has low fault.entry fault.of_file;
  in_entry = fault.in_entry;
  reached = subst (λ n. 8 * fault.place < n) (sym (count_same has fault.entry fault.of_file)) fault.reached;
  missing = pointer_same has fault.entry fault.place fault.of_file ∙ fault.missing;
}

off_disk_alike : {d other : Directory} → HasFilesOf d other → {k : ℕ} → k < 64 → IsOffDisk other k → IsOffDisk d k
off_disk_alike has low fault = record {
  entry = fault.entry;
  place = fault.place;
  of_file = entry_alike has low fault.entry fault.of_file;
  in_entry = fault.in_entry;
  beyond = subst (λ n. 242 < n) (sym (pointer_same has fault.entry fault.place fault.of_file)) fault.beyond;
}

other_claim_alike : {d other : Directory} → HasFilesOf d other → (j i b : ℕ) → HasOtherClaim other j i b → HasOtherClaim d j i b
other_claim_alike has j i b two = record {
  slot = two.slot;
  place = two.place;
  claim = claim_alike has two.slot two.place b two.claim;
  other = two.other;
}

crossed_alike : {d other : Directory} → HasFilesOf d other → {k : ℕ} → k < 64 → IsCrossed other k → IsCrossed d k
crossed_alike has low fault = record {
  entry = fault.entry;
  place = fault.place;
  block = fault.block;
  of_file = entry_alike has low fault.entry fault.of_file;
  claim = claim_alike has fault.entry fault.place fault.block fault.claim;
  taken = elim fault.taken [ inl own ↦ inl own | inr two ↦ inr (other_claim_alike has fault.entry fault.place fault.block two) ];
}

-- a sound file is one in both
pub sound_alike : {d other : Directory} → HasFilesOf d other → {k : ℕ} → k < 64 → IsSound other k → IsSound d k
sound_alike {d = d} {other = other} has low sound =
    let back : HasFilesOf other d = files_turned has in
    record {
      no_bad_count = λ fault. sound.no_bad_count (bad_count_alike back low fault);
      no_duplicate = λ fault. sound.no_duplicate (duplicate_alike back low fault);
      no_gap = λ fault. sound.no_gap (gap_alike back low fault);
      not_short = λ fault. sound.not_short (short_alike back low fault);
      no_hole = λ fault. sound.no_hole (hole_alike back low fault);
      not_off_disk = λ fault. sound.not_off_disk (off_disk_alike back low fault);
      not_crossed = λ fault. sound.not_crossed (crossed_alike back low fault);
    }

-- what is told of one of two things that are the same is told of the other
told_alike : {P Q R : Type 0} → P ↔ Q → (Q → R) → (R → Q) → P ↔ R
told_alike told there back = (λ p. there (told.0 p), λ r. told.1 (back r))

-- the same faults are told
pub faults_alike : {d other : Directory} → HasFilesOf d other → {k : ℕ} → k < 64 → (faults : ℕ) → AreFaults other k faults → AreFaults d k faults
faults_alike {d = d} {other = other} has low faults are =
    let back : HasFilesOf other d = files_turned has in
    record {
      bad_count = told_alike are.bad_count (bad_count_alike has low) (bad_count_alike back low);
      duplicate = told_alike are.duplicate (duplicate_alike has low) (duplicate_alike back low);
      gap = told_alike are.gap (gap_alike has low) (gap_alike back low);
      short = told_alike are.short (short_alike has low) (short_alike back low);
      hole = told_alike are.hole (hole_alike has low) (hole_alike back low);
      off_disk = told_alike are.off_disk (off_disk_alike has low) (off_disk_alike back low);
      crossed = told_alike are.crossed (crossed_alike has low) (crossed_alike back low);
      no_other = are.no_other;
      sound = told_alike are.sound (sound_alike has low) (sound_alike back low);
    }

-- sums over a list are the same where the weights of its items are
same_sum : (weight other : ℕ → ℕ) (xs : List ℕ) → All (λ x. weight x ≡ other x) xs → sum_by weight xs ≡ sum_by other xs
same_sum weight other [] same = refl
same_sum weight other (x ∷ xs) same =
    let first : weight x ≡ other x = All-head (λ x. weight x ≡ other x) x xs same in
    let rest : sum_by weight xs ≡ sum_by other xs = same_sum weight other xs (All-tail (λ x. weight x ≡ other x) x xs same) in
    omega (arith, sum_by-cons weight x xs, sum_by-cons other x xs)

record_alike : {d other : Directory} → HasFilesOf d other → {k : ℕ} → k < 64 → (r u : ℕ) → IsRecord other k r u → IsRecord d k r u
record_alike has low r u is = record {
  entry = is.entry;
  of_file = entry_alike has low is.entry is.of_file;
  extent = extent_same has is.entry is.of_file ∙ is.extent;
  sector = is.sector ∙ sym (ap (λ pointer. 8 * pointer + r % 8) (pointer_same has is.entry (r % 128 / 8) is.of_file));
}

-- the sectors of a file are the same
pub sectors_alike : {d other : Directory} → HasFilesOf d other → {k : ℕ} → k < 64 → (sectors : List ℕ) → AreSectors other k sectors → AreSectors d k sectors
sectors_alike {d = d} {other = other} has low sectors are = record {
  entries = are.entries;
  of_file = record {
    each = λ j. told_alike (are.of_file.each j) (entry_alike has low j) (entry_back has low j);
    once = are.of_file.once;
  };
  count = are.count ∙ sym (same_sum (λ j. rc_of (d j)) (λ j. rc_of (other j)) are.entries
      (λ i j inside. count_same has (slice_index_or are.entries i j)
      ((are.of_file.each (slice_index_or are.entries i j)).0 (Contains-get_or are.entries i j inside))));
  each = λ r inside. record_alike has low r (slice_index sectors r) (are.each r inside);
}
