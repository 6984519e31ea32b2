-- One visit: what the desk does about the bytes that came, and which bytes go.
use Rattle.std.specs.Prelude.{◌≡◌, ◌≢◌, ◌↔◌, ◌⊎◌, ℕ, ℤ, List, Option, Result, Ok, Err, IfOk, IfSome, true}
use Rattle.std.specs.Io.KnownBytes.{Appends}
use Rattle.sqlite.specs.Store.{Ghosts}
use Rattle.sqlite.specs.Held.{Held}
use Rattle.rd_policy.specs.Days.{HasDay}
use Rattle.rd_policy.specs.Zones.{day_number}
use Rattle.rd_policy.specs.declared.zone.Zone.{Zone}
use Rattle.rd_holdings.specs.State.{Desk}
use Rattle.rd_store.specs.Held.{Lasts}
use Rattle.rd_protocol.specs.Replies.{IsReply}
use Rattle.rd_desk.specs.Served.{Serves}
use Rattle.rd_protocol.specs.Texts.{UNAVAILABLE}
use Rattle.rd_protocol.specs.declared.response.Reply.{Reply}
use Rattle.rd_messages.specs.Asked.{Asked, HasFramedHead, IsAsked, request, fault}
use Rattle.rd_messages.specs.Sent.{SendsPart}
use Rattle.rd_messages.specs.Taken.{TakesUpTo}
use Rattle.rd_messages.specs.declared.limits.TheConstants.{LONGEST_REQUEST}
use Rattle.rd_messages.specs.declared.wire.Wire.{Ghosts as WireGhosts}
use Rattle.rd_http.specs.declared.visit.WireFault.{WireFault}
use Rattle.rd_http.specs.declared.visit.WireFault.TheVariants.{Read, Write, Clock}
use Rattle.rd_messages.specs.Answers.{answer_bytes, fault_bytes}

-- ---- what is done

-- The desk is unavailable: nothing has changed, and the text says so. The bytes begin with a head
-- that gives the length of its body; if there is none, or the head alone is at fault, the text
-- says that instead.
pub record IsWanting {State : Type 0} (stream : List ℕ) (old new : State) (text : List ℕ) : Type 0 where
  pub framed : HasFramedHead stream
  pub same : new ≡ old
  pub text_is : text ≡ answer_bytes UNAVAILABLE

module _ {S : Type 0} (g : Ghosts S) (stream : List ℕ) (old new : Held S) (day : ℤ) (text : List ℕ) where
  -- what the desk does about what the bytes ask: it serves the request; or there is none, and it
  -- does not touch the store
  abbrev pub Handles : Asked → Type 0
  Handles (request asked) = (reply : Reply) × Serves g old new day asked reply × (text ≡ answer_bytes reply)
  Handles (fault reason) = (new ≡ old) × (text ≡ fault_bytes reason)

  -- this text goes out for what the bytes that came ask, over a store; or it says that the desk is unavailable
  abbrev pub IsAnswer : Type 0
  IsAnswer = ((asked : Asked) × IsAsked stream asked × Handles asked) ⊎ IsWanting stream old new text

module _ (stream : List ℕ) (old new : Desk) (day : ℤ) (text : List ℕ) where
  -- the same over the desk itself: the reply is the one to the request, and the desk that of the request
  abbrev pub Replies : Asked → Type 0
  Replies (request asked) = (reply : Reply) × IsReply old day asked reply new × (text ≡ answer_bytes reply)
  Replies (fault reason) = (new ≡ old) × (text ≡ fault_bytes reason)

  -- this text is the reply to the bytes that came; or it says that the desk is unavailable,
  -- nothing has changed, and the bytes begin with a head that gives the length of its body
  abbrev pub IsReplied : Type 0
  IsReplied = ((asked : Asked) × IsAsked stream asked × Replies asked) ⊎ IsWanting stream old new text

-- ---- how a visit ends

-- what a visit leaves, by how it ends: the text went out whole; or a read failed, or the moment has no day, and
-- nothing went out and nothing has changed; or a part of the text went out, and what was done stands
abbrev pub Visits : {State : Type 0} (Answers : List ℕ → Type 0) (old new : State) (before after : Option (List ℕ))
    → Result (Unit {0}) WireFault → Type 0
Visits Answers old new before after (Ok done) = (text : List ℕ) × Answers text × Appends before after text
Visits Answers old new before after (Err Write) = (text : List ℕ) × Answers text × SendsPart before after text
Visits Answers old new before after (Err Read) = (new ≡ old) × (after ≡ before)
Visits Answers old new before after (Err Clock) = (new ≡ old) × (after ≡ before)

-- A visit at a moment, over a wire that may show its bytes and over a desk with the clocks of a zone: what it leaves of
-- both, and how it ends: its end says whether the moment has a day, a read failed or a write did. If the moment has no
-- day, it touches neither; if a read fails, nothing goes out and nothing changes; at most the bytes of a head and of a
-- body come; and after Ok the wire holds nothing back.
pub record IsServed {S W : Type 0} (g : Ghosts S) (w : WireGhosts W) (seconds : ℤ) (zone : Zone) (before after : W) (old new : Held S) (result : Result (Unit {0}) WireFault) : Type 0 where
  pub answered : IfSome (w.incoming before) (λ stream. Visits (IsAnswer g stream old new (day_number seconds zone)) old new (w.outgoing before) (w.outgoing after) result)
  pub clock : (result ≢ Err Clock) ↔ HasDay seconds
  pub read : (result ≡ Err Read) ↔ (w.read_failed after ≡ true)
  pub write : (result ≡ Err Write) ↔ (w.write_failed after ≡ true)
  pub flushed : IfOk result (λ done. w.unsent after ≡ 0)
  pub untouched : result ≡ Err Clock → (after ≡ before) × (new ≡ old)
  pub unread : result ≡ Err Read → (w.outgoing after ≡ w.outgoing before) × (new ≡ old)
  pub bounded : TakesUpTo LONGEST_REQUEST (w.incoming before) (w.incoming after)
  pub came : w.came after ≡ w.came before
  pub lasts : Lasts g old new
