-- What the first entries of a history ask in effect, and where they are a cut.
use Rattle.std.proofs.Common.{◌≡◌, ◌∙◌, ◌<◌, ◌≤◌, ◌+◌, inl, inr, ℕ, zero, suc, true, false, true≢false, Ok, Vec, List, [], ◌∷◌, ◌++◌, add-one, ap, arith, drop, get_or, length, map, refl, subst, sym, take, take-append-drop, take_all}
use Rattle.std.proofs.Math.Seq.{drop-append_seam, take-append_seam}
use Rattle.std.proofs.lemmas.Bool.{cases_lt}
use Rattle.std.proofs.lemmas.List.{drop-drop, drop-map, drop_all, length-map}
use Rattle.std.specs.declared.alloc.Global.{Global}
use Rattle.sqlite.specs.Held.{Held}
use Rattle.sqlite.specs.Store.{Ghosts}
use Rattle.rd_tables.specs.Connections.{IsClean, IsOpen}
use Rattle.rd_chain.proofs.Laws.{keeps_still, keeps_then, lines_kept}
use Rattle.rd_chain.proofs.Reading.{lines_read}
use Rattle.rd_chain.specs.Held.{Keeps, ReadsAfter, lines}
use Rattle.rd_chain.specs.Rows.{MOST_READ}
use Rattle.rd_chain.specs.declared.read.SummedLine.{SummedLine}
use Rattle.rd_history.specs.Entries.{HasDigests, IsEntry}
use Rattle.rd_history.specs.Histories.{AreLinesOf, AreNumbered, AreParts, IsAsked, changes_of}
use Rattle.rd_history.specs.Lines.{line_of}
use Rattle.rd_history.specs.Reading.{IsLineOf}
use Rattle.rd_history.specs.Replayed.{BeginWithVoid, IsCutOf, IsVoid, MayEnd, ask, asked, asked_after, effective, standing_of, standing_with}
use Rattle.rd_history.specs.Replaying.{AreNext, IsAt, Makes, MayEndBefore, Reads, Takes}
use Rattle.rd_history.specs.Stages.{Leads, Path, START, Steps, text_of}
use Rattle.rd_history.specs.Standings.{NOTHING, Standing, changed, standing_after, step, told_after}
use Rattle.rd_history.specs.declared.entry.Change.{Change}
use Rattle.rd_history.specs.declared.entry.Change.TheVariants.{Begin, Void}
use Rattle.rd_history.specs.declared.entry.Entry.{Entry}
use Rattle.rd_history.specs.declared.replaying.Replay.{Replay}
use Rattle.rd_history.specs.declared.stage.Stage.{Stage}
use Rattle.rd_history.proofs.LineEntries.{lines_are_entries}
use Rattle.rd_history.proofs.NearLemmas.{asked_if_ends, changes_snoc, snoc_same}
use Rattle.rd_history.proofs.StageLemmas.{changes_come, comes_parts, path_join, path_once, steps_once}

-- ---- what entries ask in effect tells what stands after them

pub with_append : (now : Standing) (changes more : List Change) → standing_with now (changes ++ more) ≡ standing_with (standing_with now changes) more
with_append now [] more = refl
with_append now (change ∷ changes) more = with_append (changed change now) changes more

record Tells (asked : List Change × List Change) (told : Standing × Standing) : Type 0 where
  before : standing_of asked.0 ≡ told.0
  all : standing_of asked.1 ≡ told.1

tells_step : (change : Change) (asked : List Change × List Change) (told : Standing × Standing) → Tells asked told → Tells (ask change asked) (step change told)
tells_step (Begin count) asked told tells = record { before = refl; all = refl }
tells_step (Void cause) asked told tells = record { before = tells.before; all = tells.before }
tells_step change asked told tells = record { before = tells.all; all = with_append NOTHING asked.1 (change ∷ []) ∙ ap (changed change) tells.all }

tells_after : (entries : List Entry) (asked : List Change × List Change) (told : Standing × Standing) → Tells asked told → Tells (asked_after asked entries) (told_after told entries)
tells_after [] asked told tells = tells
tells_after (entry ∷ entries) asked told tells = tells_after entries (ask entry.change asked) (step entry.change told) (tells_step entry.change asked told tells)

pub effective_tells : (entries : List Entry) → standing_of (effective entries) ≡ standing_after entries
effective_tells entries = (tells_after entries ([], []) (NOTHING, NOTHING) (record { before = refl; all = refl })).all

-- ---- one entry more

asked_snoc : (asked : List Change × List Change) (entries : List Entry) (entry : Entry) → asked_after asked (entries ++ entry ∷ []) ≡ ask entry.change (asked_after asked entries)
asked_snoc asked [] entry = refl
asked_snoc asked (first ∷ entries) entry = asked_snoc (ask first.change asked) entries entry

take_next : (n : ℕ) (entries : List Entry) (entry : Entry) (rest : List Entry) → drop n entries ≡ entry ∷ rest → (take (suc n) entries ≡ take n entries ++ entry ∷ []) × (drop (suc n) entries ≡ rest)
take_next zero [] entry rest is = absurd cc
take_next zero (first ∷ entries) entry rest is = (cc, cc)
take_next (suc n) [] entry rest is = absurd cc
take_next (suc n) (first ∷ entries) entry rest is = let more = take_next n entries entry rest is in (ap (λ es. first ∷ es) more.0, more.1)

path_number : (changes : List Change) (at end : Stage) → Path Steps at changes end → end.number ≡ at.number + length changes
path_number [] at end path = omega (arith, ap (λ (s : Stage). s.number) path)
path_number (change ∷ changes) at end path = omega (arith, path.1.0, path_number changes path.0 end path.2)

length_changes : (entries : List Entry) → length (changes_of entries) ≡ length entries
length_changes [] = refl
length_changes (entry ∷ entries) = omega (arith, length_changes entries)

void_ends : (change : Change) (at next : Stage) → Leads change at next → IsVoid change → at.ends_in_change ≡ true
void_ends (Void cause) at next leads is = leads.0
void_ends other at next leads is = absurd is

made : (change : Change) (old new : List Change) (asked : List Change × List Change) → Makes change old new → old ≡ asked.1 → (IsVoid change → (last : Change) × (asked.1 ≡ asked.0 ++ last ∷ [])) → new ≡ (ask change asked).1
made (Begin count) old new asked makes is one = makes
made (Void cause) old new asked makes is one = let last = one tt in (snoc_same new asked.0 makes.0 last.0 (sym makes.1 ∙ is ∙ last.1)).0
made change old new asked makes is one = makes ∙ ap (λ l. l ++ change ∷ []) is

one_more : (change : Change) (asked : List Change × List Change) → IsAsked change → (ask change asked).1 ≡ (ask change asked).0 ++ change ∷ []
one_more (Begin count) asked is = absurd is
one_more (Void cause) asked is = absurd is
one_more change asked is = refl

module _ (number : ℕ) (entries : List Entry) (at : Replay) (is : IsAt number entries at) where
  abbrev n : ℕ
  n = at.stage.number

  abbrev front : List Entry
  front = take n entries

  pub read_length : length front ≡ n
  read_length = omega (arith, path_number (changes_of front) START at.stage is.path, length_changes front)

  module _ (entry : Entry) (rest : List Entry) (here : drop n entries ≡ entry ∷ rest) where
    -- a cut that ends here may end before this entry
    ends_here : (less more : List Entry) → MayEnd number entries less more → length less ≡ n → MayEndBefore number at.stage entry.change
    ends_here less more may long =
        let same : less ≡ front = sym (take-append_seam less more) ∙ ap (λ es. take (length less) es) (sym may.are) ∙ ap (λ k. take k entries) long in
        let left : more ≡ entry ∷ rest = sym (drop-append_seam less more) ∙ ap (λ es. drop (length less) es) (sym may.are) ∙ ap (λ k. drop k entries) long ∙ here in
        let comes = changes_come (changes_of front) START (subst (λ es. AreParts (changes_of es)) same may.parts) refl in (
          elim may.enough [
            | inl few ↦ omega (arith, few, long)
            | inr none ↦ absurd (let never : [] ≡ entry ∷ rest = sym none ∙ left in cc)
          ],
          ap (λ (s : Stage). s.to_come) (path_once Steps steps_once START at.stage comes.end (changes_of front) is.path comes.path) ∙ comes.whole,
          λ void. may.stays (subst BeginWithVoid (sym left) void),
        )

    -- the cut ends here
    pub at_cut : MayEndBefore number at.stage entry.change → IsAt number entries (record at { is_cut = true })
    at_cut ends = record {
      path = is.path;
      changes = is.changes;
      last = is.last;
      none = is.none;
      cut = λ cut. record {
        are = sym (take-append-drop n entries);
        enough = inl (omega (arith, ends.0, read_length));
        parts = comes_parts (changes_of front) at.stage is.path ends.1;
        stays = λ void. ends.2 (subst BeginWithVoid here void);
      };
    }

    -- or an entry more is read
    pub at_more : (next : Replay) → ¬ MayEndBefore number at.stage entry.change → Takes entry.change at next → IsAt number entries next
    at_more next never takes = record {
      path = subst (λ es. Path Steps START (changes_of es) next.stage) (sym taken)
          (subst (λ cs. Path Steps START cs next.stage) (sym (changes_snoc front entry)) (path_join Steps START at.stage next.stage (changes_of front) (entry.change ∷ []) is.path (next.stage, takes.steps, refl)));
      changes = made entry.change at.changes.items next.changes.items (asked front) takes.makes is.changes void ∙ ap (λ (a : List Change × List Change). a.1) (sym told);
      last = λ ends. record {
        last = entry.change;
        are =
            ap (λ (a : List Change × List Change). a.1) told ∙ one_more entry.change (asked front) (asked_if_ends entry.change at.stage next.stage takes.steps.1 ends)
            ∙ ap (λ (a : List Change × List Change). a.0 ++ entry.change ∷ []) (sym told);
      };
      none = none;
      cut = λ cut. absurd (true≢false (sym cut ∙ takes.goes_on));
    }
      where
        after : next.stage.number ≡ suc n
        after = takes.steps.0 ∙ add-one n

        taken : take next.stage.number entries ≡ front ++ entry ∷ []
        taken = ap (λ k. take k entries) after ∙ (take_next n entries entry rest here).0

        told : asked (take next.stage.number entries) ≡ ask entry.change (asked front)
        told = ap asked taken ∙ asked_snoc ([], []) front entry

        void : IsVoid entry.change → (last : Change) × ((asked front).1 ≡ (asked front).0 ++ last ∷ [])
        void is_void = let one = is.last (void_ends entry.change at.stage next.stage takes.steps.1 is_void) in (one.last, one.are)

        none : (less more : List Entry) → MayEnd number entries less more → next.stage.number ≤ length less
        none less more may = elim (cases_lt n (length less)) [
          | inl longer ↦ omega (arith, longer, after)
          | inr short ↦ absurd (never (ends_here less more may (omega (arith, short, is.none less more may))))
        ]

-- nothing is read yet
pub at_start : (number : ℕ) (entries : List Entry) (at : Replay) → at.stage ≡ START → at.changes.items ≡ [] → at.is_cut ≡ false → IsAt number entries at
at_start number entries at stage none going = record {
  path = subst (λ (s : Stage). Path Steps START (changes_of (take s.number entries)) s) (sym stage) refl;
  changes = none ∙ ap (λ (s : Stage). effective (take s.number entries)) (sym stage);
  last = λ ends. absurd (true≢false (sym ends ∙ ap (λ (s : Stage). s.ends_in_change) stage));
  none = λ less more may. omega (arith, ap (λ (s : Stage). s.number) stage);
  cut = λ cut. absurd (true≢false (sym cut ∙ going));
}

-- the next line is that of the next entry
pub record IsNext (entries : List Entry) (at : ℕ) (line : List ℕ) : Type 0 where
  pub entry : Entry
  pub rest : List Entry
  pub here : drop at entries ≡ entry ∷ rest
  pub only : (read : Entry) → IsLineOf line read → read ≡ entry

next_of : (lines : List SummedLine) (more : List (List ℕ)) (left : List Entry) (i : ℕ) (line : SummedLine) → map text_of lines ++ more ≡ map line_of left → i < length lines → get_or lines i line ≡ line
    → (entry : Entry) × (rest : List Entry) × (drop i left ≡ entry ∷ rest) × (line_of entry ≡ text_of line)
next_of [] more left i line are low is = absurd (omega (arith, low))
next_of (first ∷ lines) more [] i line are low is = absurd cc
next_of (first ∷ lines) more (entry ∷ left) zero line are low is = (entry, left, refl, (let e : text_of first ≡ line_of entry = cc in sym e ∙ ap text_of is))
next_of (first ∷ lines) more (entry ∷ left) (suc i) line are low is =
    let rest : map text_of lines ++ more ≡ map line_of left = cc in
    next_of lines more left i line rest (omega (arith, low)) is

numbered_here : (number n : ℕ) (entries : List Entry) (entry : Entry) (rest : List Entry) → AreNumbered number entries → drop n entries ≡ entry ∷ rest → IsEntry entry × HasDigests entry
numbered_here number zero [] entry rest numbered is = absurd cc
numbered_here number zero (first ∷ entries) entry rest numbered is = let same : first ≡ entry = cc in (subst IsEntry same numbered.1, subst HasDigests same numbered.2)
numbered_here number (suc n) [] entry rest numbered is = absurd cc
numbered_here number (suc n) (first ∷ entries) entry rest numbered is = numbered_here (number + 1) n entries entry rest numbered.3 is

pub is_next : (lines : List SummedLine) (n : ℕ) (entries : List Entry) (i : ℕ) (line : SummedLine) → AreNext lines n entries → i < length lines → get_or lines i line ≡ line → IsNext entries (n + i) (text_of line)
is_next lines n entries i line next low is =
    let found = next_of lines next.more (drop n entries) i line next.are low is in
    let here : drop (n + i) entries ≡ found.0 ∷ found.1 = sym (drop-drop i n entries) ∙ found.2 in
    let known = numbered_here 1 (n + i) entries found.0 found.1 next.numbered here in
    record {
      entry = found.0;
      rest = found.1;
      here = here;
      only = λ read of. lines_are_entries read found.0 of.within known.0 of.digests known.1 (of.written ∙ sym found.3);
    }

-- ---- the cut

pub is_cut : (number : ℕ) (entries : List Entry) (at : Replay) → IsAt number entries at → MayEnd number entries (take at.stage.number entries) (drop at.stage.number entries)
    → IsCutOf number entries (record { last = at.stage.number; changes = at.changes })
is_cut number entries at is may =
    let front = take at.stage.number entries in
    let long : length front ≡ at.stage.number = read_length number entries at is in
    record {
      front = front;
      is = record { rest = drop at.stage.number entries; may = may; shortest = λ less more it. omega (arith, long, is.none less more it) };
      last = sym long;
      changes = is.changes;
      tells = ap standing_of is.changes ∙ effective_tells front;
    }

pub all_read : (number : ℕ) (entries : List Entry) (lines : List (List ℕ)) (at : Replay) → IsAt number entries at → AreLinesOf entries lines → length lines ≤ at.stage.number → IsCutOf number entries (record { last = at.stage.number; changes = at.changes })
all_read number entries lines at is of all =
    let long : length entries ≤ at.stage.number = omega (arith, ap length of.are, length-map entries line_of) in
    let none : drop at.stage.number entries ≡ [] = drop_all at.stage.number entries long in
    let whole : take at.stage.number entries ≡ entries = take_all at.stage.number entries long in
    is_cut number entries at is (record {
      are = sym (take-append-drop at.stage.number entries);
      enough = inr none;
      parts = subst (λ es. AreParts (changes_of es)) (sym whole) of.parts;
      stays = λ void. subst BeginWithVoid none void;
    })

module _ {S : Type 0} (g : Ghosts S) where
  -- From where the reading began so many entries were read, and the cut is not found.
  pub record CameTo (start now : Held S) (number : ℕ) (at : Replay) : Type 0 where
    pub keeps : Keeps g start now
    pub opens : (IsClean g start → IsOpen g start) → IsClean g now → IsOpen g now
    pub is : IsOpen g now → (entries : List Entry) → AreLinesOf entries (lines g start) → IsAt number entries at
    pub goes_on : at.is_cut ≡ false

  pub came_to_start : (start : Held S) (number : ℕ) (at : Replay) → at.stage ≡ START → at.changes.items ≡ [] → at.is_cut ≡ false → CameTo start start number at
  came_to_start start number at stage none goes_on = record {
    keeps = keeps_still g start;
    opens = λ opens. opens;
    is = λ is_open entries of. at_start number entries at stage none goes_on;
    goes_on = goes_on;
  }

  -- a page more
  module _ (start mid new : Held S) (number : ℕ) (at next : Replay) (page : Vec SummedLine Global) (came : CameTo start mid number at) (read : ReadsAfter g mid new at.stage.number (Ok page)) where
    pub page_kept : Keeps g start new
    page_kept = keeps_then g start mid new came.keeps (λ was. came.opens (λ clean. was)) read.keeps

    module _ (reads : Reads number page.items at next) where
      pub page_is : IsOpen g new → (entries : List Entry) → AreLinesOf entries (lines g start) → IsAt number entries next
      page_is is_open entries of =
          let was = read.keeps.lasts.was_open is_open in
          let n = at.stage.number in
          let rest = drop n (map line_of entries) in
          let these : lines g mid ≡ map line_of entries = lines_kept g start mid came.keeps was ∙ of.are in
          let texts : map text_of page.items ≡ take MOST_READ rest = lines_read (lines g mid) n page.items (read.answer is_open) ∙ ap (λ l. take MOST_READ (drop n l)) these in
          reads.come entries (came.is was entries of) (record {
            numbered = of.numbered;
            more = drop MOST_READ rest;
            are = ap (λ l. l ++ drop MOST_READ rest) texts ∙ take-append-drop MOST_READ rest ∙ drop-map line_of n entries;
          })

      pub page_more : next.is_cut ≡ false → CameTo start new number next
      page_more goes_on = record { keeps = page_kept; opens = λ opens clean. read.ends_open clean; is = page_is; goes_on = goes_on }
