-- A desk that remembers: what a request does to its store, and to its history.
use Rattle.std.specs.Prelude.{◌≡◌, ◌≢◌, ◌⊎◌, ◌↔◌, ◌+◌, ℕ, ℤ, List, ◌++◌, Bool, false, true, IfSome, None, Some, Result, Ok, Err, OnOk, OnErr, length}
use Rattle.sqlite.specs.Store.{Ghosts}
use Rattle.sqlite.specs.Held.{Held}
use Rattle.rd_tables.specs.Connections.{IsOpen}
use Rattle.rd_policy.specs.declared.audience.Audience.TheVariants.{Staff}
use Rattle.rd_store.specs.Held.{desk as desk_of}
use Rattle.rd_holdings.specs.State.{Desk}
use Rattle.rd_chain.specs.Held.{lines}
use Rattle.rd_protocol.specs.Judged.{IsRefusedOn, audience_of}
use Rattle.rd_protocol.specs.Refusals.{name_of}
use Rattle.rd_protocol.specs.Texts.{UNAVAILABLE, reply_of}
use Rattle.rd_protocol.specs.declared.refusal.Refusal.{Refusal}
use Rattle.rd_protocol.specs.declared.refusal.Refusal.TheVariants as refusal
use Rattle.rd_protocol.specs.declared.request.Request.{Request}
use Rattle.rd_protocol.specs.declared.response.Reply.{Reply}
use Rattle.rd_protocol.specs.declared.response.Response.{Response}
use Rattle.rd_protocol.specs.declared.response.Response.TheVariants.{Done, Refused}
use Rattle.rd_history.specs.Changes.{change_of}
use Rattle.rd_history.specs.Entries.{HasDigests, IsEntry, cause_word}
use Rattle.rd_history.specs.Histories.{IsAsked, IsHistory, void_of, with_entry}
use Rattle.rd_history.specs.Left.{StayNear}
use Rattle.rd_history.specs.Settled.{IsNear, IsTold}
use Rattle.rd_history.specs.declared.entry.Cause.{Cause}
use Rattle.rd_history.specs.declared.entry.Cause.TheVariants.{NoAccession, NoDeed, WrongSize, DigestDiffers, Conflict, Unavailable, Lost}
use Rattle.rd_history.specs.declared.entry.Change.{Change}
use Rattle.rd_history.specs.declared.entry.Entry.{Entry}
use Rattle.rd_history.specs.declared.remembering.Signature.{Signature}

-- the desk stands as the lines of a history tell; or, while it is unsettled whether the last entry was carried out, as
-- those before it may tell
abbrev pub Agrees : Bool → Desk → List (List ℕ) → Type 0
Agrees false desk lines = IsTold desk lines
Agrees true desk lines = IsNear desk lines

-- the entry of a change, with what was written beside the request, and the key by which it was asked
abbrev pub entry_of : Signature → List ℕ → Change → Entry
entry_of signature badge change =
    record { badge = Some badge; change = change; moment = signature.moment; note = signature.note.now; number = 1; staff = signature.staff.now }

-- lines come behind those that were there
abbrev pub Grows : List (List ℕ) → List (List ℕ) → Type 0
Grows old new = (more : List (List ℕ)) × (new ≡ old ++ more)

-- lines once it is settled whether the last entry was carried out: as they were; or, where this was unsettled, with an
-- entry behind that takes it back at a moment, as found undone
abbrev pub AreSettled : Bool → ℤ → List (List ℕ) → List (List ℕ) → Type 0
AreSettled was moment old new = (new ≡ old) ⊎ ((was ≡ true) × (new ≡ with_entry old (void_of moment Lost)))

-- The desk refused a request, and the last entry was taken back at a moment, with the name of the refusal. The reply
-- says the refusal, or that the desk is unavailable.
pub record IsTakenBack (desk : Desk) (day : ℤ) (request : Request) (reply : Reply) (moment : ℤ) (old new : List (List ℕ)) : Type 0 where
  pub refusal : Refusal
  pub refused : IsRefusedOn desk day request refusal
  pub written : (reply ≡ reply_of (Refused refusal)) ⊎ (reply ≡ UNAVAILABLE)
  pub cause : Cause
  pub named : cause_word cause ≡ name_of refusal
  pub are : new ≡ with_entry old (void_of moment cause)

-- What comes behind the lines of a history where the staff asks a change, of which this is the entry. First it is settled
-- whether the last entry was carried out. Then nothing is put, and the desk is unavailable: what was unsettled may still
-- be so. Or the entry is put, and it is unsettled exactly where the status is not 200. Or the entry is put and taken back,
-- and nothing is unsettled.
pub record Adds (desk : Desk) (day : ℤ) (request : Request) (reply : Reply) (entry : Entry) (was is : Bool) (old new : List (List ℕ)) : Type 0 where
  pub settled : List (List ℕ)
  pub first : AreSettled was entry.moment old settled
  pub after :
      ((new ≡ settled) × (reply ≡ UNAVAILABLE) × (is ≡ true → (was ≡ true) × (new ≡ old)))
      ⊎ ((new ≡ with_entry settled entry) × (is ≡ true ↔ (reply.status ≢ 200)))
      ⊎ (IsTakenBack desk day request reply entry.moment (with_entry settled entry) new × (is ≡ false))

-- One request to a desk that remembers. Where both connections are open at its end, and the desk stood as its history
-- told, it still does; and where the staff asked a change, its history has what `Adds` says, and no more. What asks no
-- change adds nothing, and nobody adds anything but the staff. Lines come behind those that were there. Whatever a crash
-- leaves of the store and of the history, the two are near, if the desk stood as its history told.
pub record Remembers {S H : Type 0} (g : Ghosts S) (h : Ghosts H) (old new : Held S) (before after : Held H) (was is : Bool)
    (day : ℤ) (signature : Signature) (request : Request) (reply : Reply) : Type 0 where
  pub told : IsOpen g new → IsOpen h after → Agrees was (desk_of g old) (lines h before) → Agrees is (desk_of g new) (lines h after)
  pub adds : IsOpen g new → IsOpen h after → audience_of (desk_of g old) request.badge ≡ Some Staff
      → IfSome (change_of request.what) (λ change. IfSome request.badge (λ badge.
      Adds (desk_of g old) day request reply (entry_of signature badge change) was is (lines h before) (lines h after)))
  pub grows : IsOpen h after → Grows (lines h before) (lines h after)
  pub others : change_of request.what ≡ None → (after ≡ before) × (is ≡ was)
  pub strangers : IsOpen g new → audience_of (desk_of g old) request.badge ≢ Some Staff → (after ≡ before) × (is ≡ was)
  pub crash : StayNear g h old new before after (Agrees was (desk_of g old) (lines h before))

-- ---- inside

-- The last line is that of an entry, and the desk stands as the lines before it tell.
pub record IsPending (desk : Desk) (lines : List (List ℕ)) (entry : Entry) : Type 0 where
  pub front : List (List ℕ)
  pub are : lines ≡ with_entry front entry
  pub within : IsEntry (record entry { number = length front + 1 })
  pub digests : HasDigests entry
  pub asked : IsAsked entry.change
  pub told : IsTold desk front
  pub history : IsHistory lines

-- an entry is pending; or none was put, and the desk stands as before
abbrev pub IsAhead : {T X : Type 0} → Desk → List (List ℕ) → Entry → Bool → Result T X → Type 0
IsAhead desk lines entry is (Ok done) = IsPending desk lines entry
IsAhead desk lines entry is (Err fault) = Agrees is desk lines

-- An entry was put, once it was settled whether the one before it was carried out; or it was not, as the result says.
pub record PutsAhead {T X : Type 0} (was is : Bool) (old new : List (List ℕ)) (entry : Entry) (result : Result T X) : Type 0 where
  pub settled : List (List ℕ)
  pub first : AreSettled was entry.moment old settled
  pub ok : OnOk result (new ≡ with_entry settled entry)
  pub err : OnErr result ((new ≡ settled) × (is ≡ true → (was ≡ true) × (new ≡ old)))

-- the cause for which an entry of the staff is taken back, by the refusal
abbrev pub cause_by : Refusal → Cause
cause_by refusal.NoAccession = NoAccession
cause_by refusal.NoDeed = NoDeed
cause_by refusal.WrongSize = WrongSize
cause_by refusal.DigestDiffers = DigestDiffers
cause_by refusal.Conflict = Conflict
cause_by other = Unavailable

-- the last entry stays, and is unsettled exactly where the answer is not that it is done; or the answer is a refusal, and
-- the entry is taken back at a moment
abbrev pub EndsAs : {X : Type 0} → Bool → ℤ → List (List ℕ) → List (List ℕ) → Result Response X → Type 0
EndsAs is moment old new result =
    ((new ≡ old) × (is ≡ true ↔ (result ≢ Ok Done)))
    ⊎ ((refusal : Refusal) × (result ≡ Ok (Refused refusal)) × (new ≡ with_entry old (void_of moment (cause_by refusal))) × (is ≡ false))
