-- What a crash leaves of a store and of its history.
use Rattle.std.proofs.Common.{◌≡◌, ◌∙◌, ◌+◌, ◌≤◌, inl, inr, ℕ, ℤ, Bool, true, false, IsTrue, IsUtf8, Result, List, [], ◌∷◌, ◌++◌, ap, arith, length, length-append, refl, subst, sym}
use Rattle.std.proofs.lemmas.List.Elements.{All-nil}
use Rattle.sqlite.specs.Held.{Held}
use Rattle.sqlite.specs.Store.{Ghosts}
use Rattle.sqlite.specs.Tree.{Trees}
use Rattle.rd_tables.specs.Connections.{IsClean, IsOpen}
use Rattle.rd_policy.specs.Days.{HasDay}
use Rattle.rd_chain.proofs.Transactions.{chain_is}
use Rattle.rd_chain.specs.Held.{Appends, IsAtRest, IsLeft, Keeps, LeavesOnly, lines}
use Rattle.rd_chain.specs.Rows.{MOST_LINES, history_schema, lines_of}
use Rattle.rd_store.specs.Held.{Keeps as KeepsDesk, LeavesOnly as LeavesDesk, desk as desk_of}
use Rattle.rd_holdings.specs.State.{Desk}
use Rattle.rd_history.specs.Entries.{HasDigests, IsEntry}
use Rattle.rd_history.specs.Histories.{IsAsked, IsHistory, MayCome, line_at, void_of, with_entry}
use Rattle.rd_history.specs.Laws.{LeftFilesAreNear}
use Rattle.rd_history.specs.Left.{LeavesHistory, LeavesNear, StayNear}
use Rattle.rd_history.specs.Lines.{line_of}
use Rattle.rd_history.specs.Remembered.{Agrees}
use Rattle.rd_history.specs.Settled.{IsNear, IsTold}
use Rattle.rd_history.specs.Stages.{EndsSo}
use Rattle.rd_history.specs.declared.entry.Cause.{Cause}
use Rattle.rd_history.specs.declared.entry.Entry.{Entry}
use Rattle.rd_history.proofs.Appended.{ends_more}
use Rattle.rd_history.proofs.StageLemmas.{so_history}

-- ---- what it leaves of a history

pub left_lines : (these : List (List ℕ)) (left : Trees) → IsLeft these left → lines_of left ≡ these
left_lines these left is = (chain_is these (record { schema = history_schema; trees = left }) is).1

module _ {H : Type 0} (h : Ghosts H) where
  -- nothing was done
  pub rests_history : (history : Held H) (ends : Bool) → IsAtRest h history → (IsOpen h history → EndsSo ends (lines h history)) → IsOpen h history → LeavesHistory h history
  rests_history history ends rest so was left may = subst IsHistory (sym (left_lines (lines h history) left (rest.leaves was left may))) (so_history ends (lines h history) (so was))

  -- an entry was put, or was to be put
  pub puts_history : {T X : Type 0} (old new : Held H) (ends flag : Bool) (entry : Entry) (line : List ℕ) (r : Result T X) → Appends h old new (line ∷ []) r → line ≡ line_of entry
      → (IsOpen h old → EndsSo ends (lines h old)) → (IsOpen h old → MayCome entry.change (lines h old)) → IsEntry entry → HasDigests entry → (IsOpen h old → entry.number ≡ length (lines h old) + 1) → IsUtf8 line
      → (IsTrue flag → IsAsked entry.change) → (IsAsked entry.change → IsTrue flag) → IsOpen h old → IsClean h new → LeavesHistory h new
  puts_history old new ends flag entry line r appends same so comes within digests number text is may was clean left left_so =
      let these = lines h old in
      elim (appends.crash was clean left left_so) [
        | inl before ↦ subst IsHistory (sym (left_lines these left before)) (so_history ends these (so was))
        | inr after ↦ subst IsHistory (ap (λ l. these ++ l ∷ []) (sym same) ∙ sym (left_lines (these ++ line ∷ []) left after))
            (so_history flag (these ++ line_of entry ∷ []) (ends_more these ends flag entry (so was) (comes was) within digests (number was) (subst IsUtf8 same text) is may))
      ]

  -- calls that read leave the lines
  pub keeps_lines : (old new : Held H) → Keeps h old new → IsAtRest h old → IsOpen h old → IsClean h new → LeavesOnly h new (lines h old)
  keeps_lines old new keeps rest was clean left may = rest.leaves was left (keeps.crash was clean left may)

-- ---- what it leaves of both

pub told_near : (desk : Desk) (these : List (List ℕ)) → IsTold desk these → IsNear desk these
told_near desk these told = (told.0, told.1, inl told.2)

pub agrees_near : (is : Bool) (desk : Desk) (these : List (List ℕ)) → Agrees is desk these → IsNear desk these
agrees_near false desk these told = told_near desk these told
agrees_near true desk these near = near

module _ {S H : Type 0} (g : Ghosts S) (h : Ghosts H) (store : Held S) (desk : Desk) (only : LeavesDesk g store desk) where
  -- it leaves one desk and one list of lines
  pub leaves_near : (history : Held H) (these : List (List ℕ)) → LeavesOnly h history these → IsNear desk these → LeavesNear g h store history
  leaves_near history these only_these near of_store of_history store_so history_so =
      record { desk = desk; lines = these; store = only of_store store_so; history = only_these of_history history_so; near = near }

  -- it leaves one desk, and the lines before an entry was put or those after
  pub more_leaves_near : {T X : Type 0} (old new : Held H) (entry : Entry) (r : Result T X) → Appends h old new (line_at (length (lines h old) + 1) entry ∷ []) r
      → (IsOpen h old → IsClean h new → LeavesHistory h new) → IsOpen h old → IsClean h new → IsNear desk (lines h old)
      → (length (lines h old) + 1 ≤ MOST_LINES → IsHistory (with_entry (lines h old) entry) → IsNear desk (with_entry (lines h old) entry)) → LeavesNear g h store new
  more_leaves_near old new entry r appends histories was clean near goes_on of_store of_history store_so history_so =
      let these = lines h old in
      elim (appends.crash was clean of_history history_so) [
        | inl before ↦ record { desk = desk; lines = these; store = only of_store store_so; history = before; near = near }
        | inr after ↦ record {
          desk = desk;
          lines = with_entry these entry;
          store = only of_store store_so;
          history = after;
          near = goes_on (omega (arith, after.few, length-append these (line_at (length these + 1) entry ∷ [])))
              (subst IsHistory (left_lines (with_entry these entry) of_history after) (histories was clean of_history history_so));
        }
      ]

pub left_files_are_near : LeftFilesAreNear
left_files_are_near of_store of_history left =
    let same = sym (left_lines left.lines of_history left.history) in
    let chain = (chain_is left.lines (record { schema = history_schema; trees = of_history }) left.history).0 in
    ((chain, subst IsHistory same (left.near.0, left.near.1)), subst (λ d. IsNear d (lines_of of_history)) (sym left.store.of.is) (subst (IsNear left.desk) same left.near))

-- nothing was put into the history, and calls that read leave the desk
pub keeps_near : {S H : Type 0} (g : Ghosts S) (h : Ghosts H) (old new : Held S) (history : Held H) (was : Bool) → KeepsDesk g old new → IsAtRest h history
    → StayNear g h old new history history (Agrees was (desk_of g old) (lines h history))
keeps_near g h old new history was keeps rest store_was history_was store_clean history_clean agrees =
    leaves_near g h new (desk_of g old) (keeps.crash store_was store_clean) history (lines h history) (rest.leaves history_was) (agrees_near was (desk_of g old) (lines h history) agrees)

-- an entry that takes another back is within its limits
pub void_within : (moment : ℤ) (cause : Cause) (number : ℕ) → HasDay moment → number + 1 ≤ MOST_LINES → IsEntry (record (void_of moment cause) { number = number + 1 })
void_within moment cause number day few = record {
  change = tt;
  moment = day;
  note = record { few = omega arith; plain = All-nil _ };
  number = (omega arith, few);
  staff = record { few = omega arith; plain = All-nil _ };
  signed = (refl, refl, refl);
}
