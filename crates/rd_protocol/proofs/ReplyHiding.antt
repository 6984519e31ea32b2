-- Desks that look alike to a caller show the same to them, and so they reply alike.
use Rattle.std.proofs.Common.{◌≡◌, ◌∙◌, ◌↔◌, ℤ, ℕ, List, ◌++◌, Contains, IsSomeAnd, Option, Some, None, ap, option_map, refl, subst, sym}
use Rattle.std.specs.FinMap.{get}
use Rattle.rd_geometry.specs.declared.kind.Kind.{Kind}
use Rattle.rd_policy.specs.declared.audience.Audience.{Audience}
use Rattle.rd_policy.specs.declared.rule.Band.TheVariants.{Takedown, Deed as OfDeed}
use Rattle.rd_policy.specs.declared.rule.Effect.TheVariants.{Read}
use Rattle.rd_policy.specs.declared.rule.Rule.{Rule}
use Rattle.rd_volume.specs.NeededLaw.{tell_the_same}
use Rattle.rd_volume.specs.Needed.{TellTheSame}
use Rattle.rd_volume.specs.Reports.{IsSoundSlot}
use Rattle.rd_volume.specs.Volumes.{AreBytesOf, IsFound, IsSlotOfFile}
use Rattle.rd_volume.specs.declared.found.Found.{Found}
use Rattle.rd_holdings.specs.State.{Desk, rules_at, rules_for, rules_with, accession_of}
use Rattle.rd_holdings.specs.declared.rows.ImageRow.{ImageRow}
use Rattle.rd_protocol.specs.Hidden.{HiddenBytesDoNotShow, HidesTheRest, LooksAlike, LooksAlikeShowsTheSame, LooksLike, LooksLikeAt}
use Rattle.rd_protocol.specs.Replies.{Answers, IsLine}
use Rattle.rd_protocol.specs.Shown.{AreReadOf, HasBytes, HasFile, IsDenied, IsListed, IsShown, IsShownAt, Shown}
use Rattle.rd_protocol.specs.declared.request.Request.{Request}
use Rattle.rd_protocol.specs.declared.response.Line.{Line}
use Rattle.rd_protocol.specs.declared.response.Reply.{Reply}
use Rattle.rd_protocol.proofs.ShownDesks.{shown_decides, tells_what_is_shown}

-- ---- images that look alike

module _ (rules : List Rule) (audience : Audience) (day : ℤ) (standing image : ImageRow) (like : LooksLike rules audience day standing image) where
  same : TellTheSame standing.kind image.bytes standing.bytes like.slots
  same = tell_the_same standing.kind image.bytes standing.bytes like.slots like.agrees

  -- what is true at the kind of the one is true at that of the other
  at_image : (P : Kind → Type 0) → P standing.kind → P image.kind
  at_image P = subst P (sym like.kind)

  at_standing : (P : Kind → Type 0) → P image.kind → P standing.kind
  at_standing P = subst P like.kind

  told_there : (file : Found) → IsFound standing.kind standing.bytes file → IsFound image.kind image.bytes file
  told_there file is = at_image (λ kind. IsFound kind image.bytes file) ((same.found file).1 is)

  told_here : (file : Found) → IsFound image.kind image.bytes file → IsFound standing.kind standing.bytes file
  told_here file is = (same.found file).0 (at_standing (λ kind. IsFound kind image.bytes file) is)

  line_there : (line : Line) → IsLine standing rules audience day line → IsLine image rules audience day line
  line_there line is = record { described = told_there line.file is.described; decided = is.decided; shown = is.shown }

  line_here : (line : Line) → IsLine image rules audience day line → IsLine standing rules audience day line
  line_here line is = record { described = told_here line.file is.described; decided = is.decided; shown = is.shown }

  -- the slot of a file that is read is among those
  slot_read : (file : Found) (bytes : List ℕ) → AreReadOf standing rules audience day file bytes → Contains like.slots file.slot
  slot_read file bytes is =
      like.complete file (record { verdict = record { effect = Read; label = is.label }; described = is.described; decided = is.decided; read = refl })

  sound_there : (slot : ℕ) → IsSoundSlot standing.kind standing.bytes slot → IsSoundSlot image.kind image.bytes slot
  sound_there slot is = at_image (λ kind. IsSoundSlot kind image.bytes slot) ((same.sound slot).1 is)

  sound_here : (slot : ℕ) → IsSoundSlot image.kind image.bytes slot → IsSoundSlot standing.kind standing.bytes slot
  sound_here slot is = (same.sound slot).0 (at_standing (λ kind. IsSoundSlot kind image.bytes slot) is)

  read_there : (file : Found) (bytes : List ℕ) → AreReadOf standing rules audience day file bytes → AreReadOf image rules audience day file bytes
  read_there file bytes is = record {
    label = is.label;
    described = told_there file is.described;
    decided = is.decided;
    sound = sound_there file.slot is.sound;
    are = at_image (λ kind. AreBytesOf kind image.bytes file.slot bytes) ((same.bytes file.slot bytes (slot_read file bytes is) is.sound).1 is.are);
  }

  read_here : (file : Found) (bytes : List ℕ) → AreReadOf image rules audience day file bytes → AreReadOf standing rules audience day file bytes
  read_here file bytes is =
      let described : IsFound standing.kind standing.bytes file = told_here file is.described in
      let sound : IsSoundSlot standing.kind standing.bytes file.slot = sound_here file.slot is.sound in
      let inside : Contains like.slots file.slot =
      like.complete file (record { verdict = record { effect = Read; label = is.label }; described = described; decided = is.decided; read = refl }) in
      record {
        label = is.label;
        described = described;
        decided = is.decided;
        sound = sound;
        are = (same.bytes file.slot bytes inside sound).0 (at_standing (λ kind. AreBytesOf kind image.bytes file.slot bytes) is.are);
      }

  shown_there : (it : Shown) → IsShown standing rules audience day it → IsShown image rules audience day it
  shown_there (HasFile slot) is = at_image (λ kind. IsSlotOfFile kind image.bytes slot) ((same.file slot).1 is)
  shown_there (IsDenied slot label) is = record { file = is.file; at_slot = is.at_slot; described = told_there is.file is.described; decided = is.decided }
  shown_there (IsListed listed) is = record { line = is.line; described = line_there is.line is.described; shown = is.shown }
  shown_there (HasBytes file bytes) is = read_there file bytes is

  shown_here : (it : Shown) → IsShown image rules audience day it → IsShown standing rules audience day it
  shown_here (HasFile slot) is = (same.file slot).0 (at_standing (λ kind. IsSlotOfFile kind image.bytes slot) is)
  shown_here (IsDenied slot label) is = record { file = is.file; at_slot = is.at_slot; described = told_here is.file is.described; decided = is.decided }
  shown_here (IsListed listed) is = record { line = is.line; described = line_here is.line is.described; shown = is.shown }
  shown_here (HasBytes file bytes) is = read_here file bytes is

-- ---- desks that look alike

module _ (rules : List Rule) (audience : Audience) (day : ℤ) where
  given_alike : (found image : Option ImageRow) → LooksLikeAt rules audience day found image → option_map accession_of image ≡ option_map accession_of found
  given_alike None None like = refl
  given_alike (Some standing) (Some image) like = λ i. Some (record { kind = like.kind i; deed = like.deed i })
  given_alike None (Some image) like = absurd like
  given_alike (Some standing) None like = absurd like

  shown_alike : (found image : Option ImageRow) → LooksLikeAt rules audience day found image → (it : Shown)
      → IsSomeAnd found (λ row. IsShown row rules audience day it) ↔ IsSomeAnd image (λ row. IsShown row rules audience day it)
  shown_alike None None like it = (λ h. h, λ h. h)
  shown_alike (Some standing) (Some image) like it = (shown_there rules audience day standing image like it, shown_here rules audience day standing image like it)
  shown_alike None (Some image) like it = absurd like
  shown_alike (Some standing) None like it = absurd like

module _ (desk other : Desk) (audience : Audience) (day : ℤ) (alike : LooksAlike desk audience day other) where
  rules_along : (acc : ℕ) (rules : List Rule) (found image : Option ImageRow) → LooksLikeAt rules audience day found image → rules_with desk acc found ≡ rules_with other acc image
  rules_along acc rules None None like = refl
  rules_along acc rules (Some found) (Some image) like =
      ap (λ deed. rules_at desk Takedown acc ++ rules_at desk OfDeed deed) (sym like.deed)
      ∙ ap (λ places. rules_at (record desk { rules = places }) Takedown acc ++ rules_at (record desk { rules = places }) OfDeed image.deed) (sym alike.rules)
  rules_along acc rules None (Some image) like = absurd like
  rules_along acc rules (Some found) None like = absurd like

  same_rules : (acc : ℕ) → rules_for desk acc ≡ rules_for other acc
  same_rules acc = rules_along acc (rules_for desk acc) (get desk.images acc) (get other.images acc) (alike.images acc)

-- desks that look alike show the same
pub alike_shows : LooksAlikeShowsTheSame
alike_shows desk other audience day alike = record {
  keys = alike.keys;
  accessions = λ acc. given_alike (rules_for desk acc) audience day (get desk.images acc) (get other.images acc) (alike.images acc);
  images = λ acc it.
      subst (λ (rules : List Rule). IsShownAt desk audience day acc it ↔ IsSomeAnd (get other.images acc) (λ row. IsShown row rules audience day it))
      (same_rules desk other audience day alike acc)
      (shown_alike (rules_for desk acc) audience day (get desk.images acc) (get other.images acc) (alike.images acc) it);
}

-- what is replied is replied in each desk that looks alike to the caller
pub not_told : HiddenBytesDoNotShow
not_told desk other audience day request reply new open_to_him caller alike is =
    shown_decides desk other audience day request reply new open_to_him caller (alike_shows desk other audience day alike) is

-- and so each answer hides the rest
pub hides : (desk : Desk) (day : ℤ) (request : Request) (reply : Reply) (new : Desk) → Answers desk day request reply new → HidesTheRest desk day request reply
hides desk day request reply new answers open_to_him audience other caller alike =
    tells_what_is_shown desk day request reply new answers open_to_him audience other caller (alike_shows desk other audience day alike)
