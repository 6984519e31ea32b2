-- The last entry of a history, and whether a desk stands as all entries tell.
use Rattle.std.proofs.Common.{◌≡◌, ◌∙◌, ◌-◌, ◌+◌, ◌≤◌, inl, inr, ℕ, Err, None, Ok, OnOk, Option, Result, Some, slice_get, List, [], ◌∷◌, ◌++◌, ap, ap₂, arith, append_assoc, drop, length, length-append, length-drop, map, refl, subst, sym, take, take-append-drop, true, true≢false}
use Rattle.std.proofs.Math.Seq.{drop-append_seam, take-append_seam}
use Rattle.rd_chain.specs.Rows.{MOST_READ}
use Rattle.rd_holdings.specs.State.{Desk}
use Rattle.rd_history.specs.Entries.{HasDigests, IsEntry}
use Rattle.rd_history.specs.Histories.{AreLinesOf, AreNumbered, AreParts, IsAsked, IsHistory, MayBeTakenBack, changes_of}
use Rattle.rd_history.specs.Lines.{line_of}
use Rattle.rd_history.specs.Reading.{IsLineOf}
use Rattle.rd_history.specs.Settled.{EndIn, IsSo, IsTold, StandsAs, StandsBefore, StandsNear}
use Rattle.rd_history.specs.Standings.{changed, standing_after}
use Rattle.rd_history.specs.declared.entry.Cause.{Cause}
use Rattle.rd_history.specs.declared.entry.Cause.TheVariants.{Lost}
use Rattle.rd_history.specs.declared.stage.Stage.{Stage}
use Rattle.rd_history.specs.declared.entry.Change.{Change}
use Rattle.rd_history.specs.declared.entry.Change.TheVariants.{Begin, Void}
use Rattle.rd_history.specs.declared.entry.Entry.{Entry}
use Rattle.rd_history.proofs.LineEntries.{lines_are_entries}
use Rattle.rd_chain.specs.declared.read.SummedLine.{SummedLine}
use Rattle.rd_history.specs.Stages.{Leads, START, Steps, text_of}
use Rattle.rd_history.proofs.SoLemmas.{same_in, so_kept, stands_after, undone}
use Rattle.rd_history.proofs.StageLemmas.{changes_come, part_alone, parts_more, path_split}
use Rattle.rd_history.proofs.ToldLemmas.{voids_take_back}

-- ---- the last of a list

one_left : (left : List (List ℕ)) (text : List ℕ) (rest : List (List ℕ)) → length left ≤ 1 → text ∷ rest ≡ take MOST_READ left → left ≡ text ∷ []
one_left [] text rest few is = absurd cc
one_left (x ∷ []) text rest few is = cc
one_left (x ∷ y ∷ more) text rest few is = absurd (omega (arith, few))

-- the line that is read behind all others is the last
pub last_read : (these : List (List ℕ)) (text : List ℕ) (rest : List (List ℕ)) → text ∷ rest ≡ take MOST_READ (drop (length these - 1) these) → these ≡ take (length these - 1) these ++ text ∷ []
last_read these text rest is =
    let n = length these - 1 in
    let few : length (drop n these) ≤ 1 = omega (arith, length-drop n these) in
    sym (take-append-drop n these) ∙ ap (λ l. take n these ++ l) (one_left (drop n these) text rest few is)

-- where none is read there is none
pub none_read : (these : List (List ℕ)) → [] ≡ take MOST_READ (drop (length these - 1) these) → these ≡ []
none_read these is = go these (drop (length these - 1) these) refl is
  where
    go : (l left : List (List ℕ)) → drop (length l - 1) l ≡ left → [] ≡ take MOST_READ left → l ≡ []
    go [] left at is = refl
    go (x ∷ l) [] at is = absurd (omega (arith, length-drop (length (x ∷ l) - 1) (x ∷ l), ap length at))
    go (x ∷ l) (y ∷ left) at is = absurd cc

pub snoc_same : {A : Type 0} (xs ys : List A) (x y : A) → xs ++ x ∷ [] ≡ ys ++ y ∷ [] → (xs ≡ ys) × (x ∷ [] ≡ y ∷ [])
snoc_same xs ys x y is =
    let long : length xs ≡ length ys = omega (arith, ap length is, length-append xs (x ∷ []), length-append ys (y ∷ [])) in (
      sym (take-append_seam xs (x ∷ [])) ∙ ap₂ take long is ∙ take-append_seam ys (y ∷ []),
      sym (drop-append_seam xs (x ∷ [])) ∙ ap₂ drop long is ∙ drop-append_seam ys (y ∷ []),
    )

-- ---- lines have one list of entries

entries_once : (number : ℕ) (entries others : List Entry) → AreNumbered number entries → AreNumbered number others → map line_of entries ≡ map line_of others → entries ≡ others
entries_once number [] [] one other is = refl
entries_once number [] (entry ∷ others) one other is = absurd cc
entries_once number (entry ∷ entries) [] one other is = absurd cc
entries_once number (entry ∷ entries) (another ∷ others) one other is =
    let first : line_of entry ≡ line_of another = cc in
    let rest : map line_of entries ≡ map line_of others = cc in
    ap₂ (λ e es. e ∷ es) (lines_are_entries entry another one.1 other.1 one.2 other.2 first) (entries_once (number + 1) entries others one.3 other.3 rest)

pub one_history : (entries others : List Entry) (lines : List (List ℕ)) → AreLinesOf entries lines → AreLinesOf others lines → entries ≡ others
one_history entries others lines one other = entries_once 1 entries others one.numbered other.numbered (sym one.are ∙ other.are)

-- the last entry is that of the last line
ends_in : (number : ℕ) (entries : List Entry) (before : List (List ℕ)) (line : List ℕ) (entry : Entry) → AreNumbered number entries → IsLineOf line entry → map line_of entries ≡ before ++ line ∷ [] → (front : List Entry) × (entries ≡ front ++ entry ∷ [])
ends_in number [] [] line entry numbered of is = absurd cc
ends_in number [] (first ∷ before) line entry numbered of is = absurd cc
ends_in number (last ∷ []) [] line entry numbered of is =
    let same : line_of last ≡ line = cc in
    ([], ap (λ e. e ∷ []) (lines_are_entries last entry numbered.1 of.within numbered.2 of.digests (same ∙ sym of.written)))
ends_in number (one ∷ two ∷ entries) [] line entry numbered of is = absurd cc
ends_in number (one ∷ entries) (first ∷ before) line entry numbered of is =
    let rest : map line_of entries ≡ before ++ line ∷ [] = cc in
    let more = ends_in (number + 1) entries before line entry numbered.3 of rest in
    (one ∷ more.0, ap (λ es. one ∷ es) more.1)

pub end_of : (entries : List Entry) (lines : List (List ℕ)) (entry : Entry) → AreLinesOf entries lines → EndIn lines entry → (front : List Entry) × (entries ≡ front ++ entry ∷ [])
end_of entries lines entry of end = ends_in 1 entries end.before end.line entry of.numbered end.of (sym of.are ∙ end.are)

pub changes_snoc : (front : List Entry) (last : Entry) → changes_of (front ++ last ∷ []) ≡ changes_of front ++ last.change ∷ []
changes_snoc [] last = refl
changes_snoc (first ∷ front) last = ap (λ l. first.change ∷ l) (changes_snoc front last)

-- ---- a desk that stands near

module _ (desk : Desk) (entries : List Entry) (near : StandsNear desk entries) where
  -- where the history does not end in a change alone, it stands as all entries tell
  pub stands_if_settled : (lines : List (List ℕ)) → AreLinesOf entries lines → ¬ MayBeTakenBack lines → StandsAs desk (standing_after entries)
  stands_if_settled lines of never = elim near [
    | inl stands ↦ stands
    | inr before ↦ absurd (never (λ cause others also.
        let same : changes_of others ≡ changes_of before.before ++ before.last.change ∷ [] = ap changes_of (one_history others entries lines also of ∙ before.are) ∙ changes_snoc before.before before.last in
        subst AreParts (sym (append_assoc (changes_of before.before) (before.last.change ∷ []) (Void cause ∷ [])) ∙ ap (λ l. l ++ Void cause ∷ []) (sym same))
        (parts_more (changes_of before.before) (before.last.change ∷ Void cause ∷ []) before.parts (part_alone before.last.change (Void cause ∷ []) before.may tt))))
  ]

  module _ (front : List Entry) (last : Entry) (are : entries ≡ front ++ last ∷ []) (asked : IsAsked last.change) where
    told : standing_after entries ≡ changed last.change (standing_after front)
    told = ap standing_after are ∙ stands_after front last asked

    before_same : (before : StandsBefore desk entries) → StandsAs desk (standing_after front)
    before_same before = subst (λ es. StandsAs desk (standing_after es)) (snoc_same before.before front before.last last (sym before.are ∙ are)).0 before.stands

    -- what the last change asks is so
    pub stands_if_so : IsSo last.change desk → StandsAs desk (standing_after entries)
    stands_if_so so = elim near [
      | inl stands ↦ stands
      | inr before ↦ subst (StandsAs desk) (sym told) (so_kept last.change desk (standing_after front) (before_same before) so)
    ]

    -- it is not so, and an entry takes it back
    pub stands_if_taken_back : (void : Entry) (cause : Cause) → void.change ≡ Void cause → ¬ IsSo last.change desk → StandsAs desk (standing_after (entries ++ void ∷ []))
    stands_if_taken_back void cause is never =
        let same : standing_after (entries ++ void ∷ []) ≡ standing_after front = ap (λ es. standing_after (es ++ void ∷ [])) are ∙ ap standing_after (append_assoc front (last ∷ []) (void ∷ [])) ∙ voids_take_back front last void cause asked is in
        subst (StandsAs desk) (sym same) (elim near [
          | inl stands ↦ undone last.change desk (standing_after front) (subst (StandsAs desk) told stands) never
          | inr before ↦ before_same before
        ])

-- ---- the first line of a page

pub first_read : (page : List SummedLine) (line : SummedLine) → ◌≡◌ {A = Option SummedLine} (Some line) (slice_get page 0) → map text_of page ≡ text_of line ∷ drop 1 (map text_of page)
first_read [] line is = absurd cc
first_read (first ∷ page) line is = ap (λ l. text_of l ∷ map text_of page) (sym (same_in line first is))

pub none_first : (page : List SummedLine) → ◌≡◌ {A = Option SummedLine} None (slice_get page 0) → [] ≡ map text_of page
none_first [] is = refl
none_first (first ∷ page) is = absurd cc

-- ---- what may be taken back was asked

pub asked_if_ends : (change : Change) (at next : Stage) → Leads change at next → next.ends_in_change ≡ true → IsAsked change
asked_if_ends (Begin count) at next leads ends = absurd (true≢false (sym ends ∙ leads.2))
asked_if_ends (Void cause) at next leads ends = absurd (true≢false (sym ends ∙ leads.2))
asked_if_ends change at next leads ends = tt

pub asked_if_taken_back : (entries front : List Entry) (last : Entry) (lines : List (List ℕ)) → AreLinesOf entries lines → entries ≡ front ++ last ∷ [] → MayBeTakenBack lines → IsAsked last.change
asked_if_taken_back entries front last lines of are may =
    let changes : changes_of entries ++ Void Lost ∷ [] ≡ changes_of front ++ last.change ∷ Void Lost ∷ [] =
    ap (λ es. changes_of es ++ Void Lost ∷ []) are ∙ ap (λ l. l ++ Void Lost ∷ []) (changes_snoc front last) ∙ append_assoc (changes_of front) (last.change ∷ []) (Void Lost ∷ []) in
    let comes = changes_come (changes_of front ++ last.change ∷ Void Lost ∷ []) START (subst AreParts changes (may Lost entries of)) refl in
    let split = path_split Steps START comes.end (changes_of front) (last.change ∷ Void Lost ∷ []) comes.path in
    asked_if_ends last.change split.0 split.2.0 split.2.1.1 split.2.2.1.1.0

-- ---- a history with an entry more

numbered_front : (number : ℕ) (front : List Entry) (last : Entry) → AreNumbered number (front ++ last ∷ []) → AreNumbered number front
numbered_front number [] last all = tt
numbered_front number (first ∷ front) last all = (all.0, all.1, all.2, numbered_front (number + 1) front last all.3)

lines_snoc : (front : List Entry) (last : Entry) → map line_of (front ++ last ∷ []) ≡ map line_of front ++ line_of last ∷ []
lines_snoc [] last = refl
lines_snoc (first ∷ front) last = ap (λ l. line_of first ∷ l) (lines_snoc front last)

-- its entries are those before, and it
pub entry_more : (entries others : List Entry) (entry : Entry) (lines : List (List ℕ)) → AreLinesOf entries lines → IsEntry entry → HasDigests entry → AreLinesOf others (lines ++ line_of entry ∷ []) → others ≡ entries ++ entry ∷ []
entry_more entries others entry lines of within digests also =
    let ends = end_of others (lines ++ line_of entry ∷ []) entry also (record { before = lines; line = line_of entry; are = refl; of = record { within = within; digests = digests; written = refl } }) in
    let same = (snoc_same (map line_of ends.0) lines (line_of entry) (line_of entry) (sym (ap (map line_of) ends.1 ∙ lines_snoc ends.0 entry) ∙ sym also.are)).0 in
    ends.1 ∙ ap (λ es. es ++ entry ∷ []) (entries_once 1 ends.0 entries (numbered_front 1 ends.0 entry (subst (AreNumbered 1) ends.1 also.numbered)) of.numbered (same ∙ of.are))

-- ---- the history at the end

-- an entry more takes the last one back
pub told_back : (desk : Desk) (entries front : List Entry) (last void : Entry) (lines more : List (List ℕ)) → StandsNear desk entries → AreLinesOf entries lines → entries ≡ front ++ last ∷ [] → IsAsked last.change → ¬ IsSo last.change desk
    → void.change ≡ Void Lost → IsEntry void → HasDigests void → more ≡ lines ++ line_of void ∷ [] → IsHistory more → IsTold desk more
told_back desk entries front last void lines more near of are asked never change within digests is history =
    let others = entry_more entries history.0 void lines of within digests (subst (AreLinesOf history.0) is history.1) in
    (history.0, history.1, subst (λ es. StandsAs desk (standing_after es)) (sym others) (stands_if_taken_back desk entries near front last are asked void Lost change never))

pub on_ok_both : {T X P Q R : Type 0} (r : Result T X) → (P → Q → R) → OnOk r P → OnOk r Q → OnOk r R
on_ok_both (Ok value) both p q = both p q
on_ok_both (Err fault) both p q = tt
