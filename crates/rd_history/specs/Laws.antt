-- Laws of lines, of histories, of what a list of entries tells, and of what a crash leaves.
use Rattle.std.specs.Prelude.{◌≡◌, ℕ, ℤ, List, [], ◌∷◌, ◌++◌, Bool, false, Some, option_map}
use Rattle.std.specs.FinMap.{get}
use Rattle.sqlite.specs.Held.{Held}
use Rattle.sqlite.specs.Store.{Ghosts}
use Rattle.sqlite.specs.Tree.{Trees}
use Rattle.rd_tables.specs.Connections.{IsOpen}
use Rattle.rd_policy.specs.declared.audience.Audience.TheVariants.{Staff}
use Rattle.rd_store.specs.Held.{LeavesOnly as LeavesDesk, desk as desk_of}
use Rattle.rd_store.specs.Spelled.{desk_of as desk_in}
use Rattle.rd_holdings.specs.State.{Desk}
use Rattle.rd_chain.specs.Held.{IsAtRest, LeavesOnly as LeavesLines, lines}
use Rattle.rd_chain.specs.Rows.{history_schema, lines_of}
use Rattle.rd_protocol.specs.Judged.{audience_of}
use Rattle.rd_protocol.specs.Replies.{carried_out}
use Rattle.rd_protocol.specs.declared.request.Request.{Request}
use Rattle.rd_protocol.specs.declared.request.What.{What}
use Rattle.rd_protocol.specs.declared.response.Reply.{Reply}
use Rattle.rd_desk.specs.Served.{Serves}
use Rattle.rd_history.specs.Changes.{change_of}
use Rattle.rd_history.specs.Entries.{HasDigests, IsEntry}
use Rattle.rd_history.specs.Histories.{HoldsHistory, IsAsked, MayCome, changes_of, with_entry}
use Rattle.rd_history.specs.Left.{AreNear}
use Rattle.rd_history.specs.Lines.{line_of}
use Rattle.rd_history.specs.Remembered.{Remembers, entry_of}
use Rattle.rd_history.specs.Settled.{IsNear, StandsAs, deposit_of}
use Rattle.rd_history.specs.Standings.{Standing, base_of, standing_after}
use Rattle.rd_history.specs.declared.entry.Cause.{Cause}
use Rattle.rd_history.specs.declared.entry.Change.{Change}
use Rattle.rd_history.specs.declared.entry.Change.TheVariants.{Begin, Void}
use Rattle.rd_history.specs.declared.entry.Entry.{Entry}
use Rattle.rd_history.specs.declared.remembering.Signature.{Signature}

-- entries within their limits, whose digests are 32 bytes, have one line only if they are the same
abbrev pub LinesAreEntries : Type 0
LinesAreEntries = (one other : Entry) → IsEntry one → IsEntry other → HasDigests one → HasDigests other
    → line_of one ≡ line_of other → one ≡ other

-- an entry and one that takes it back leave what stood before
abbrev pub VoidsTakeBack : Type 0
VoidsTakeBack = (entries : List Entry) (entry void : Entry) (cause : Cause)
    → IsAsked entry.change → void.change ≡ Void cause
    → standing_after (entries ++ entry ∷ void ∷ []) ≡ standing_after entries

-- of what stood before an entry that begins anew, nothing counts
abbrev pub BasesForget : Type 0
BasesForget = (before after : List Entry) (entry : Entry) (count : ℕ) → entry.change ≡ Begin count
    → standing_after (before ++ entry ∷ after) ≡ standing_after after

-- what stands after an entry that begins anew, and those that list what stands in a desk, is what stands there
abbrev pub BasesTell : Type 0
BasesTell = (before listed : List Entry) (entry : Entry) (count : ℕ) (desk : Desk)
    → entry.change ≡ Begin count → changes_of listed ≡ base_of desk
    → StandsAs desk (standing_after (before ++ entry ∷ listed))

-- two desks that stand as the same have the same deeds, rules and keys, and at each accession an image of the same kind,
-- deed and digest, or none
abbrev pub RestoresLoseNothing : Type 0
RestoresLoseNothing = (one other : Desk) (now : Standing) → StandsAs one now → StandsAs other now
    → (one.deeds ≡ other.deeds) × (one.rules ≡ other.rules) × (one.keys ≡ other.keys)
    × ((acc : ℕ) → option_map deposit_of (get one.images acc) ≡ option_map deposit_of (get other.images acc))

-- a change that may be taken back may come behind each history
abbrev pub ChangesMayCome : Type 0
ChangesMayCome = (change : Change) (lines : List (List ℕ)) → IsAsked change → MayCome change lines

-- a store and a history that a crash left near: the history opens, and the desk stands near its lines
abbrev pub LeftFilesAreNear : Type 0
LeftFilesAreNear = (of_store of_history : Trees) → AreNear of_store of_history
    → HoldsHistory (record { schema = history_schema; trees = of_history }) × IsNear (desk_in of_store) (lines_of of_history)

-- A change is done for good: the desk is the one in which it is carried out, the last line that of its entry, nothing is
-- unsettled, and a crash leaves this desk and these lines, and nothing else.
pub record IsDoneForGood {S H : Type 0} (g : Ghosts S) (h : Ghosts H) (old new : Held S) (history : Held H) (is : Bool) (day : ℤ) (what : What) (entry : Entry) : Type 0 where
  pub after : desk_of g new ≡ carried_out day what (desk_of g old)
  pub front : List (List ℕ)
  pub last : lines h history ≡ with_entry front entry
  pub settled : is ≡ false
  pub leaves_desk : LeavesDesk g new (desk_of g new)
  pub leaves_lines : LeavesLines h history (lines h history)

-- a change that the staff asked is done for good, if the status is 200 and both connections are open
abbrev pub DoneChangesStay : {S H : Type 0} → Ghosts S → Ghosts H → Type 0
DoneChangesStay {S} {H} g h = (old new : Held S) (before after : Held H) (was is : Bool) (day : ℤ) (signature : Signature) (request : Request) (reply : Reply) (change : Change) (badge : List ℕ)
    → Serves g old new day request reply → Remembers g h old new before after was is day signature request reply → IsAtRest h after → IsOpen g new → IsOpen h after
    → change_of request.what ≡ Some change → request.badge ≡ Some badge → audience_of (desk_of g old) request.badge ≡ Some Staff → reply.status ≡ 200
    → IsDoneForGood g h old new after is day request.what (entry_of signature badge change)
