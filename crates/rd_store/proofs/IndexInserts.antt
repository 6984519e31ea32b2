-- The files of an image go into the index one after another.
use Rattle.rd_store.proofs.Common.{◌≡◌, inl, inr, ℕ, ◌+◌, ◌<◌, List, length, get_or, AllPairs, Option, Some, None, refl, sym, ap, subst, ◌∙◌, arith, nat_cmp, FinMap, get, insert, cases_eq, has_contained, contains_had, from_map, get_inserted, AreFounds, IsFound, IsFoundAt, Found, ImageRow, FileAt, file_cmp, IsFileIn, IsFiledTo, IsIndexOf}
use Rattle.rd_store.proofs.Listings.{any_default, below_or_at}
use Rattle.rd_store.proofs.Orders.{number_order, file_order}
use Rattle.rd_store.proofs.Maps.{found_after, others_stay}

module _ (images : FinMap nat_cmp ImageRow) (acc : ℕ) (files : List Found) (index : FinMap file_cmp Found) where
  abbrev at : ℕ → FileAt
  at slot = record { acc = acc; slot = slot }

  -- where there was no image, none of its files is in the index
  pub none_filed : get images acc ≡ None → IsIndexOf images index → IsFiledTo images acc files 0 index
  none_filed free is = record {
    others = λ other slot differ. is other slot;
    here = λ k file low within. absurd (omega (arith, low));
    only = λ slot file found.
        let nothing : get index (at slot) ≡ None = subst (λ image. IsFileIn image slot (get index (at slot))) free (is acc slot) in
        absurd (let wrong : Some file ≡ None = sym found ∙ nothing in cc);
  }

  module _ (ascend : AllPairs (λ f g. f.slot < g.slot) files) (count : ℕ) (file : Found) (low : count < length files) (this : get_or files count file ≡ file) (filed : IsFiledTo images acc files count index) where
    -- an earlier file has a lower slot
    lower : (k : ℕ) (other : Found) → k < count → (get_or files k other).slot < file.slot
    lower k other before =
        let within : k < length files = omega (arith, before, low) in
        let up : (get_or files k file).slot < (get_or files count file).slot = ascend k count file before low in
        subst (λ (f : Found). f.slot < file.slot) (any_default files k file other within) (subst (λ (f : Found). (get_or files k file).slot < f.slot) this up)

    -- the slot of the next file is free
    pub next_free : get index (at file.slot) ≡ None
    next_free = go (get index (at file.slot)) refl
      where
        go : (found : Option Found) → get index (at file.slot) ≡ found → get index (at file.slot) ≡ None
        go None is = is
        go (Some other) is =
            let it = filed.only file.slot other is in
            let less : (get_or files it.0 other).slot < file.slot = lower it.0 other it.1 in
            let same : (get_or files it.0 other).slot ≡ file.slot = ap (λ (f : Found). f.slot) it.3 ∙ it.4 in
            absurd (omega (arith, less, same))

    -- and after it one file more is in the index
    pub one_filed : IsFiledTo images acc files (count + 1) (insert index (at file.slot) file)
    one_filed = record {
      others = λ other slot differ.
          subst (IsFileIn (get images other) slot) (sym (others_stay file_cmp file_order index (at file.slot) file (record { acc = other; slot = slot }) (λ same. differ (ap (λ (a : FileAt). a.acc) same)))) (filed.others other slot differ);
      here = λ k f before within. elim (below_or_at k count before) [
        | inl early ↦ others_stay file_cmp file_order index (at file.slot) file (at (get_or files k f).slot) (λ same.
            let less : (get_or files k f).slot < file.slot = lower k f early in
            let tied : (get_or files k f).slot ≡ file.slot = ap (λ (a : FileAt). a.slot) same in
            absurd (omega (arith, less, tied))) ∙ filed.here k f early within
        | inr same ↦
            let is : get_or files k f ≡ file = ap (λ n. get_or files n f) same ∙ any_default files count f file low ∙ this in
            subst (λ (g : Found). get (insert index (at file.slot) file) (at g.slot) ≡ Some g) (sym is) (get_inserted file_cmp file_order index (at file.slot) file)
      ];
      only = λ slot f found. elim (found_after file_cmp file_order index (at file.slot) file (at slot) f found) [
        | inl new ↦ (
          count,
          omega arith,
          low,
          any_default files count f file low ∙ this ∙ new.1,
          ap (λ (g : Found). g.slot) (sym new.1) ∙ sym (ap (λ (a : FileAt). a.slot) new.0),
        )
        | inr was ↦ let it = filed.only slot f was in (it.0, omega (arith, it.1), it.2, it.3, it.4)
      ];
    }

-- once all files of an image are in it, the index is that of the images with it
module _ (images : FinMap nat_cmp ImageRow) (acc : ℕ) (image : ImageRow) (files : List Found) (index : FinMap file_cmp Found) (are : AreFounds image.kind image.bytes files) (filed : IsFiledTo images acc files (length files) index) where
  described_at : (slot : ℕ) (found : Option Found) → get index (record { acc = acc; slot = slot }) ≡ found → IsFoundAt image.kind image.bytes slot found
  described_at slot (Some file) is =
      let it = filed.only slot file is in
      record { same_slot = it.4; described = subst (IsFound image.kind image.bytes) it.3 (are.each it.0 file it.2); none = tt }
  described_at slot None is = record {
    same_slot = tt;
    described = tt;
    none = λ stands.
        let named = has_contained _ slot (are.complete slot stands) in
        let f = from_map (λ (g : Found). g.slot) files slot named in
        let k = contains_had files f.0 f.1 in
        let there : get index (record { acc = acc; slot = (get_or files k.0 f.0).slot }) ≡ Some (get_or files k.0 f.0) = filed.here k.0 f.0 k.1 k.1 in
        let slot_is : (get_or files k.0 f.0).slot ≡ slot = ap (λ (g : Found). g.slot) k.2 ∙ sym f.2 in
        let wrong : Some (get_or files k.0 f.0) ≡ None = sym there ∙ ap (λ s. get index (record { acc = acc; slot = s })) slot_is ∙ is in
        absurd cc;
  }

  pub all_filed : IsIndexOf (insert images acc image) index
  all_filed other slot = elim (cases_eq other acc) [
    | inl same ↦
        let here : IsFileIn (get (insert images acc image) acc) slot (get index (record { acc = acc; slot = slot })) =
        subst (λ (o : Option ImageRow). IsFileIn o slot (get index (record { acc = acc; slot = slot }))) (sym (get_inserted nat_cmp number_order images acc image)) (described_at slot (get index (record { acc = acc; slot = slot })) refl) in
        subst (λ n. IsFileIn (get (insert images acc image) n) slot (get index (record { acc = n; slot = slot }))) (sym same) here
    | inr differ ↦ subst (λ (o : Option ImageRow). IsFileIn o slot (get index (record { acc = other; slot = slot }))) (sym (others_stay nat_cmp number_order images acc image other differ)) (filed.others other slot differ)
  ]
