-- Maps whose values are made into others, and the images with their error bytes.
use Rattle.rd_store.proofs.Common.{◌≡◌, inl, inr, ℕ, List, [], ◌∷◌, ◌&&◌, map, Bool, true, false, cond, T, Option, Some, None, option_map, is_some, refl, sym, ap, ap₂, subst, ◌∙◌, Ordering, nat_cmp, is_lt, unwrap_or, eq_by_cmp, FinMap, get, entries, insert, from_entries, get-entries, get-insert, get-from_entries, get-from_sorted, entries-from_sorted, entries_sorted, same_map, find, is_sorted, below_all, cases_Bool, Kind, Cpm8, D64, D64e, IsKeyOrder, tie, ImageRow, kind_code, kind_in, as_row, AreMarksIn, joined, kind_with, with_marks}
use Rattle.rd_store.specs.Marks.{map_values}
use Rattle.rd_store.proofs.Orders.{number_order}
use Rattle.rd_store.proofs.Maps.{others_stay}

-- ---- values made into others

module _ {K X Y : Type 0} (cmp : K → K → Ordering) (order : IsKeyOrder cmp) (f : K → X → Y) where
  abbrev made : List (K × X) → List (K × Y)
  made = map (λ e. (e.0, f e.0 e.1))

  below_made : (x : K) (es : List (K × X)) → below_all cmp x (made es) ≡ below_all cmp x es
  below_made x [] = refl
  below_made x (e ∷ es) = ap (λ b. is_lt (cmp x e.0) && b) (below_made x es)

  sorted_made : (es : List (K × X)) → is_sorted cmp (made es) ≡ is_sorted cmp es
  sorted_made [] = refl
  sorted_made (e ∷ es) = ap₂ (λ a b. a && b) (below_made e.0 es) (sorted_made es)

  sorted : (m : FinMap cmp X) → T (is_sorted cmp (made (entries m)))
  sorted m = subst T (sym (sorted_made (entries m))) (entries_sorted m)

  find_made : (q : K) (es : List (K × X)) → find cmp q (made es) ≡ option_map (f q) (find cmp q es)
  find_made q [] = refl
  find_made q (e ∷ es) = elim (cases_Bool (eq_by_cmp cmp q e.0)) [
    | inl same ↦ let key : e.0 ≡ q = sym (order.same q e.0 (tie (cmp q e.0) same)) in rw same (ap (λ k. Some (f k e.1)) key)
    | inr apart ↦ rw apart (find_made q es)
  ]

  pub entries_made : (m : FinMap cmp X) → entries (map_values f m) ≡ made (entries m)
  unfolding map_values
  entries_made m = entries-from_sorted cmp (made (entries m)) (sorted m)

  pub get_made : (m : FinMap cmp X) (q : K) → get (map_values f m) q ≡ option_map (f q) (get m q)
  unfolding map_values
  get_made m q = get-from_sorted cmp (made (entries m)) q (sorted m) ∙ find_made q (entries m) ∙ ap (option_map (f q)) (sym (get-entries m q))

-- ---- images and error bytes

abbrev pub Images : Type 0
Images = FinMap nat_cmp ImageRow

abbrev pub Marks : Type 0
Marks = FinMap nat_cmp (List ℕ)

module _ (images : Images) (marks : Marks) where
  pub get_joined : (acc : ℕ) → get (joined images marks) acc ≡ option_map (with_marks (get marks acc)) (get images acc)
  get_joined acc = get_made nat_cmp number_order (λ acc image. with_marks (get marks acc) image) images acc

  pub entries_joined : entries (joined images marks) ≡ map (λ e. (e.0, with_marks (get marks e.0) e.1)) (entries images)
  entries_joined = entries_made nat_cmp number_order (λ acc image. with_marks (get marks acc) image) images

  -- what is there is there in both
  none_both : (found : Option ImageRow) (m : Option (List ℕ)) → option_map (with_marks m) found ≡ None → found ≡ None
  none_both None m is = refl
  none_both (Some image) m is = absurd cc

  -- where no image stands, none is in the table
  pub none_apart : (acc : ℕ) → get (joined images marks) acc ≡ None → get images acc ≡ None
  none_apart acc free = none_both (get images acc) (get marks acc) (sym (get_joined acc) ∙ free)

-- no error bytes are without an image
pub no_marks : (images : Images) (marks : Marks) → ((acc : ℕ) (bytes : List ℕ) → get marks acc ≡ Some bytes → AreMarksIn images (acc, bytes)) → (acc : ℕ) → get images acc ≡ None → get marks acc ≡ None
no_marks images marks are acc free = go (get marks acc) refl
  where
    go : (found : Option (List ℕ)) → get marks acc ≡ found → get marks acc ≡ None
    go None is = is
    go (Some bytes) is = let it = are acc bytes is in absurd (let wrong : None ≡ Some it.image = sym free ∙ it.stands in cc)

-- ---- what puts make of them

module _ (images : Images) (marks : Marks) (acc : ℕ) where
  -- an image without error bytes, put where none stands
  pub joined_image : (image : ImageRow) → get marks acc ≡ None → joined (insert images acc image) marks ≡ insert (joined images marks) acc image
  joined_image image none = same_map number_order.total number_order.same _ _ (λ q.
      get_joined (insert images acc image) marks q ∙ ap (option_map (with_marks (get marks q))) (get-insert number_order.total images acc image q) ∙ at q ∙ sym (get-insert number_order.total (joined images marks) acc image q))
    where
      at : (q : ℕ) → option_map (with_marks (get marks q)) (cond (eq_by_cmp nat_cmp q acc) (Some image) (get images q)) ≡ cond (eq_by_cmp nat_cmp q acc) (Some image) (get (joined images marks) q)
      at q = elim (cases_Bool (eq_by_cmp nat_cmp q acc)) [
        | inl same ↦ let key : q ≡ acc = number_order.same q acc (tie (nat_cmp q acc) same) in rw same (ap (λ m. Some (with_marks m image)) (ap (get marks) key ∙ none))
        | inr apart ↦ rw apart (sym (get_joined images marks q))
      ]

  -- error bytes, put where an image stands
  pub joined_marks : (bytes : List ℕ) (image : ImageRow) → get images acc ≡ Some image → joined images (insert marks acc bytes) ≡ insert (joined images marks) acc (with_marks (Some bytes) image)
  joined_marks bytes image stands = same_map number_order.total number_order.same _ _ (λ q.
      get_joined images (insert marks acc bytes) q ∙ ap (λ m. option_map (with_marks m) (get images q)) (get-insert number_order.total marks acc bytes q) ∙ at q
      ∙ sym (get-insert number_order.total (joined images marks) acc (with_marks (Some bytes) image) q))
    where
      at : (q : ℕ) → option_map (with_marks (cond (eq_by_cmp nat_cmp q acc) (Some bytes) (get marks q))) (get images q) ≡ cond (eq_by_cmp nat_cmp q acc) (Some (with_marks (Some bytes) image)) (get (joined images marks) q)
      at q = elim (cases_Bool (eq_by_cmp nat_cmp q acc)) [
        | inl same ↦ let key : q ≡ acc = number_order.same q acc (tie (nat_cmp q acc) same) in rw same (ap (option_map (with_marks (Some bytes))) (ap (get images) key ∙ stands))
        | inr apart ↦ rw apart (sym (get_joined images marks q))
      ]

  -- what stands as a D64 has no error bytes
  pub plain_there : (image : ImageRow) → get (joined images marks) acc ≡ Some image → image.kind ≡ D64 → (get images acc ≡ Some image) × (get marks acc ≡ None)
  plain_there image found kind = go (get images acc) (get marks acc) (sym (get_joined images marks acc) ∙ found)
    where
      go : (row : Option ImageRow) (m : Option (List ℕ)) → option_map (with_marks m) row ≡ Some image → (row ≡ Some image) × (m ≡ None)
      go None m is = absurd cc
      go (Some row) None is = (is, refl)
      go (Some row) (Some bytes) is = absurd (let wrong : Some D64e ≡ Some D64 = ap (option_map (λ (i : ImageRow). i.kind)) is ∙ ap Some kind in cc)

-- error bytes stay those of images that stand
pub still_marks : (images : Images) (marks : Marks) (acc : ℕ) (image : ImageRow) → get marks acc ≡ None → (other : ℕ) (bytes : List ℕ) → get marks other ≡ Some bytes → AreMarksIn images (other, bytes) → AreMarksIn (insert images acc image) (other, bytes)
still_marks images marks acc image none other bytes found are = record {
  count = are.count;
  image = are.image;
  stands = others_stay nat_cmp number_order images acc image other (λ same. let wrong : None ≡ Some bytes = sym none ∙ ap (get marks) (sym same) ∙ found in cc) ∙ are.stands;
  kind = are.kind;
}

-- without error bytes the images are those of the table
pub joined_none : (images : Images) → joined images (from_entries []) ≡ images
joined_none images = same_map number_order.total number_order.same _ _ (λ q. get_joined images (from_entries []) q ∙ ap (λ m. option_map (with_marks m) (get images q)) (get-from_entries number_order.total [] q) ∙ alone (get images q))
  where
    alone : (found : Option ImageRow) → option_map (with_marks None) found ≡ found
    alone None = refl
    alone (Some image) = refl

-- ---- what is read of them

-- where the row is no D64, no error bytes are asked for
pub no_others : (images : Images) (marks : Marks) → ((acc : ℕ) (bytes : List ℕ) → get marks acc ≡ Some bytes → AreMarksIn images (acc, bytes)) → (acc : ℕ) (image : ImageRow) → get images acc ≡ Some image → ¬ (image.kind ≡ D64) → get marks acc ≡ None
no_others images marks are acc image stands other = go (get marks acc) refl
  where
    go : (found : Option (List ℕ)) → get marks acc ≡ found → get marks acc ≡ None
    go None is = is
    go (Some bytes) is =
        let it = are acc bytes is in
        let same : Some it.image ≡ Some image = sym it.stands ∙ stands in
        absurd (other (ap (λ (o : Option ImageRow). (unwrap_or o image).kind) (sym same) ∙ it.kind))

pub kind_marked : (m : Option (List ℕ)) (image : ImageRow) → (with_marks m image).kind ≡ kind_with (is_some m) image.kind
kind_marked None image = refl
kind_marked (Some bytes) image = refl

pub digest_marked : (m : Option (List ℕ)) (image : ImageRow) → image.digest ≡ (with_marks m image).digest
digest_marked None image = refl
digest_marked (Some bytes) image = refl

pub deed_marked : (m : Option (List ℕ)) (image : ImageRow) → image.deed ≡ (with_marks m image).deed
deed_marked None image = refl
deed_marked (Some bytes) image = refl

-- ---- what is told of one accession

module _ (images : Images) (marks : Marks) (acc : ℕ) where
  pub joined_at : (row : ImageRow) → get images acc ≡ Some row → get (joined images marks) acc ≡ Some (with_marks (get marks acc) row)
  joined_at row stands = get_joined images marks acc ∙ ap (option_map (with_marks (get marks acc))) stands

  pub joined_nowhere : get images acc ≡ None → get (joined images marks) acc ≡ None
  joined_nowhere none = get_joined images marks acc ∙ ap (option_map (with_marks (get marks acc))) none

-- ---- an image that is put in two steps

-- what an image replaces does not matter
pub image_again : (images : Images) (acc : ℕ) (first second : ImageRow) → insert (insert images acc first) acc second ≡ insert images acc second
image_again images acc first second = same_map number_order.total number_order.same _ _ (λ q.
    get-insert number_order.total (insert images acc first) acc second q ∙ ap (cond (eq_by_cmp nat_cmp q acc) (Some second)) (get-insert number_order.total images acc first q)
    ∙ either (eq_by_cmp nat_cmp q acc) (Some second) (Some first) (get images q) ∙ sym (get-insert number_order.total images acc second q))
  where
    either : {A : Type 0} (b : Bool) (x y z : A) → cond b x (cond b y z) ≡ cond b x z
    either true x y z = refl
    either false x y z = refl

-- without error bytes the row of an image is the image
pub plain_as_row : (image : ImageRow) → ¬ (image.kind ≡ D64e) → as_row image ≡ image
plain_as_row image plain = λ i. record image { kind = same image.kind plain i }
  where
    same : (kind : Kind) → ¬ (kind ≡ D64e) → kind_in (kind_code kind) ≡ kind
    same Cpm8 plain = refl
    same D64 plain = refl
    same D64e plain = absurd (plain refl)
