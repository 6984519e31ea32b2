-- The lists of deeds, takedowns and keys leave nothing out.
use Rattle.std.specs.Prelude.{◌≡◌, ◌<◌, ◌^◌, ℕ, List, Some, length}
use Rattle.std.specs.FinMap.{entries, get}
use Rattle.hex.specs.Hex.{IsBytes}
use Rattle.rd_policy.specs.declared.audience.Audience.{Audience}
use Rattle.rd_holdings.specs.Lawful.{IsLawful}
use Rattle.rd_protocol.specs.StaffLists.{deed_lines, key_lines, takedown_lines}
use Rattle.rd_holdings.specs.State.{Desk}
use Rattle.rd_protocol.specs.Texts.{reply_of}
use Rattle.rd_protocol.specs.declared.response.Response.TheVariants as response

-- the digests of keys hold bytes, numbers below 256
abbrev pub HoldsDigests : Desk → Type 0
HoldsDigests desk = (digest : List ℕ) (audience : Audience) → get desk.keys digest ≡ Some audience → IsBytes digest

-- A desk whose accessions can be counted, and whose digests hold bytes.
pub record IsListable (desk : Desk) : Type 0 where
  pub lawful : IsLawful desk
  pub digests : HoldsDigests desk
  pub few : length (entries desk.images) < 2 ^ 64

-- Two desks give the same replies to the questions for deeds, takedowns and keys.
pub record ListTheSame (desk other : Desk) : Type 0 where
  pub deeds : reply_of (response.Deeds (deed_lines desk)) ≡ reply_of (response.Deeds (deed_lines other))
  pub takedowns : reply_of (response.Takedowns (takedown_lines desk)) ≡ reply_of (response.Takedowns (takedown_lines other))
  pub keys : reply_of (response.Keys (key_lines desk)) ≡ reply_of (response.Keys (key_lines other))

-- two desks with the same lists have the same deeds, rules and keys
abbrev pub StaffListsTellAll : Type 0
StaffListsTellAll = (desk other : Desk) → IsListable desk → IsListable other → ListTheSame desk other → (desk.deeds ≡ other.deeds) × (desk.rules ≡ other.rules) × (desk.keys ≡ other.keys)
