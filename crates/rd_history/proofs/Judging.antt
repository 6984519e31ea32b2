-- The lines of a chain are read page by page.
use Rattle.std.proofs.Common.{◌≡◌, ◌≢◌, ◌∙◌, ◌≤◌, ◌+◌, ℕ, zero, suc, Ok, Vec, List, [], ◌∷◌, ◌++◌, ap, drop, length, map, refl, subst, sym, take, drop-drop, take-append-drop}
use Rattle.std.proofs.lemmas.List.{drop_all}
use Rattle.std.specs.declared.alloc.Global.{Global}
use Rattle.sqlite.specs.Held.{Held}
use Rattle.sqlite.specs.Store.{Ghosts}
use Rattle.rd_tables.specs.Connections.{IsClean, IsOpen}
use Rattle.rd_chain.proofs.Laws.{keeps_still, keeps_then, lines_kept}
use Rattle.rd_chain.proofs.Reading.{lines_read}
use Rattle.rd_chain.specs.Held.{IsAtRest, IsNotOpened, IsOpened, Keeps, ReadsAfter, lines}
use Rattle.rd_chain.specs.Rows.{IsChain, MOST_READ}
use Rattle.rd_chain.specs.declared.faults.OpenFault.{OpenFault}
use Rattle.rd_chain.specs.declared.faults.OpenFault.TheVariants.{Broken, NotAChain}
use Rattle.rd_chain.specs.declared.read.SummedLine.{SummedLine}
use Rattle.rd_history.specs.Histories.{HoldsHistory, IsHistory}
use Rattle.rd_history.specs.Stages.{Arrives, EndsSo, Follows, START, text_of}
use Rattle.rd_history.specs.declared.stage.Stage.{Stage}
use Rattle.rd_history.proofs.StageLemmas.{Decides, arrives_number, arrives_once, decides_after, history_arrives, path_split}

-- what is left behind a page
after_page : (most : ℕ) (these : List (List ℕ)) → drop (length (take most these)) these ≡ drop most these
after_page zero these = refl
after_page (suc most) [] = refl
after_page (suc most) (line ∷ these) = after_page most these

left_after : (number : ℕ) (these page : List (List ℕ)) → page ≡ take MOST_READ (drop number these) → page ++ drop (number + length page) these ≡ drop number these
left_after number these page is =
    let rest = drop number these in
    ap (λ l. l ++ drop (number + length l) these) is
    ∙ ap (λ l. take MOST_READ rest ++ l) (sym (drop-drop (length (take MOST_READ rest)) number these) ∙ after_page MOST_READ rest)
    ∙ take-append-drop MOST_READ rest

module _ {S : Type 0} (g : Ghosts S) where
  -- From where the reading began the lines so far lead to a stage, so that what is left decides.
  pub record Came (start now : Held S) (at : Stage) : Type 0 where
    pub keeps : Keeps g start now
    pub opens : (IsClean g start → IsOpen g start) → IsClean g now → IsOpen g now
    pub decides : IsOpen g now → Decides START at (lines g start) (drop at.number (lines g start))

  pub came_nowhere : (start : Held S) → Came start start START
  came_nowhere start = record { keeps = keeps_still g start; opens = λ opens. opens; decides = λ is_open. record { leads = λ end path. path; led = λ end path. path } }

  -- a page more
  pub came_more : (start mid new : Held S) (at next : Stage) (page : Vec SummedLine Global) → Came start mid at → ReadsAfter g mid new at.number (Ok page) → Arrives at (map text_of page.items) next → Came start new next
  came_more start mid new at next page came reads arrives = record {
    keeps = keeps_then g start mid new came.keeps (λ was. came.opens (λ clean. was)) reads.keeps;
    opens = λ opens clean. reads.ends_open clean;
    decides = λ is_open. decides_after START at next these texts (drop next.number these) (subst (Decides START at these) (sym (behind is_open)) (came.decides (was is_open))) arrives;
  }
    where
      these : List (List ℕ)
      these = lines g start

      texts : List (List ℕ)
      texts = map text_of page.items

      was : IsOpen g new → IsOpen g mid
      was is_open = reads.keeps.lasts.was_open is_open

      read : IsOpen g new → texts ≡ take MOST_READ (drop at.number these)
      read is_open = lines_read (lines g mid) at.number page.items (reads.answer is_open) ∙ ap (λ l. take MOST_READ (drop at.number l)) (lines_kept g start mid came.keeps (was is_open))

      behind : IsOpen g new → texts ++ drop next.number these ≡ drop at.number these
      behind is_open = ap (λ n. texts ++ drop n these) (arrives_number at next texts arrives) ∙ left_after at.number these texts (read is_open)

  -- a page that is not of the next entries
  pub came_broken : (start mid new : Held S) (at : Stage) (page : Vec SummedLine Global) → Came start mid at → ReadsAfter g mid new at.number (Ok page) → ((end : Stage) → ¬ Arrives at (map text_of page.items) end) → IsOpen g new → ¬ IsHistory (lines g start)
  came_broken start mid new at page came reads none is_open history =
      let was = reads.keeps.lasts.was_open is_open in
      let these = lines g start in
      let texts = map text_of page.items in
      let found = history_arrives these history in
      let read : texts ≡ take MOST_READ (drop at.number these) = lines_read (lines g mid) at.number page.items (reads.answer is_open) ∙ ap (λ l. take MOST_READ (drop at.number l)) (lines_kept g start mid came.keeps was) in
      let split = path_split Follows at found.0 texts (drop (at.number + length texts) these) (subst (λ l. Arrives at l found.0) (sym (left_after at.number these texts read)) ((came.decides was).leads found.0 found.1)) in
      none split.0 split.1

  -- all lines are read
  pub came_whole : (start new : Held S) (at : Stage) → Came start new at → IsOpen g new → length (lines g start) ≤ at.number → Arrives START (lines g start) at
  came_whole start new at came is_open all = (came.decides is_open).led at (subst (λ l. Arrives at l at) (sym (drop_all at.number (lines g start) all)) refl)

  pub came_so : (start new : Held S) (at : Stage) → Came start new at → IsOpen g new → length (lines g start) ≤ at.number → at.to_come ≡ 0 → EndsSo at.ends_in_change (lines g start)
  came_so start new at came is_open all none = record { end = at; arrives = came_whole start new at came is_open all; whole = none; ends = refl }

  -- a base is not whole
  pub came_short : (start new : Held S) (at : Stage) → Came start new at → IsOpen g new → length (lines g start) ≤ at.number → at.to_come ≢ 0 → ¬ IsHistory (lines g start)
  came_short start new at came is_open all some history =
      let found = history_arrives (lines g start) history in
      some (ap (λ (s : Stage). s.to_come) (arrives_once START at found.0 (lines g start) (came_whole start new at came is_open all) found.1) ∙ found.2)

  -- ---- an opening

  module _ (old mid new : Held S) (opened : IsOpened g IsChain old mid) (keeps : Keeps g mid new) where
    lines_same : IsOpen g new → lines g mid ≡ lines g old
    lines_same is_open = lines_kept g old mid opened.keeps (keeps.lasts.was_open is_open)

    all_kept : Keeps g old new
    all_kept = keeps_then g old mid new opened.keeps (λ was clean. opened.ends_open clean) keeps

    pub opened_then : (IsClean g new → IsOpen g new) → (IsOpen g new → IsHistory (lines g mid)) → IsAtRest g new → IsOpened g HoldsHistory old new
    opened_then opens history rest = record {
      keeps = all_kept;
      schema = opened.schema;
      holds = λ is_open. (opened.holds (keeps.lasts.was_open is_open), subst IsHistory (lines_same is_open) (history is_open));
      ends_open = opens;
      durable = rest.leaves;
    }

    pub refused_then : (fault : OpenFault) → fault ≢ NotAChain → (fault ≡ Broken → IsClean g new → IsOpen g new) → (IsOpen g new → fault ≡ Broken → ¬ IsHistory (lines g mid)) → IsNotOpened g HoldsHistory old new fault
    refused_then fault named opens never = record {
      keeps = all_kept;
      other = λ differs. absurd (differs opened.schema);
      schema = λ same. named;
      same = λ e. absurd (named e);
      broken = λ is_open e holds. never is_open e (subst IsHistory (sym (lines_same is_open)) holds.1);
      ends_open = opens;
    }
