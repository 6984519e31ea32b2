-- What is true of each desk: its values are within their limits, what they refer to stands, and there is a
-- staff key.
use Rattle.std.specs.Prelude.{◌≡◌, ◌≢◌, ◌<◌, ◌≤◌, ℕ, List, All, length, Some, IsSome, IsUtf8}
use Rattle.std.specs.FinMap.{get}
use Rattle.rd_geometry.specs.Kinds.{size_of}
use Rattle.rd_policy.specs.Days.{IsDay}
use Rattle.rd_policy.specs.Rules.{IsScope, IsRule}
use Rattle.rd_policy.specs.declared.audience.Audience.{Audience}
use Rattle.rd_policy.specs.declared.audience.Audience.TheVariants.{Public}
use Rattle.rd_holdings.specs.declared.rows.DeedRow.{DeedRow}
use Rattle.rd_holdings.specs.declared.rows.ImageRow.{ImageRow}
use Rattle.rd_holdings.specs.declared.rows.Outcome.{Outcome}
use Rattle.rd_holdings.specs.State.{Desk, Place, Terms, Checkup, rule_of, Stands, IsStaff}

-- A donor's name: a text of 1 to 1,000 bytes, none below 20 hex.
pub record IsDonor (text : List ℕ) : Type 0 where
  pub utf8 : IsUtf8 text
  pub some : 0 < length text
  pub short : length text ≤ 1_000
  pub plain : All (λ byte. 32 ≤ byte) text

-- A deed has a number from 1 to 999,999, a donor, and the day on which it was signed.
pub record IsDeed (num : ℕ) (deed : DeedRow) : Type 0 where
  pub scope : IsScope num
  pub donor : IsDonor deed.donor
  pub signed : IsDay deed.signed

-- An image has its kind's length. Its digest may be another's: that is for a check to tell.
pub record IsImage (acc : ℕ) (image : ImageRow) : Type 0 where
  pub scope : IsScope acc
  pub digest : length image.digest ≡ 32
  pub bytes : length image.bytes ≡ size_of image.kind

-- A key has a digest of 32 bytes, the length of a SHA-256 (FIPS 180-4), and is for the room or the staff.
pub record IsKey (digest : List ℕ) (audience : Audience) : Type 0 where
  pub length_is : length digest ≡ 32
  pub not_public : audience ≢ Public

-- The desk is lawful: all that it holds is within its limits; the deed of each image stands, and so does what each
-- rule and each check is about; and there is a staff key.
pub record IsLawful (desk : Desk) : Type 0 where
  pub deeds : (num : ℕ) (deed : DeedRow) → get desk.deeds num ≡ Some deed → IsDeed num deed
  pub images : (acc : ℕ) (image : ImageRow) → get desk.images acc ≡ Some image → IsImage acc image × IsSome (get desk.deeds image.deed)
  pub rules : (place : Place) (terms : Terms) → get desk.rules place ≡ Some terms → IsRule (rule_of (place, terms)) × Stands desk place.band place.scope
  pub keys : (digest : List ℕ) (audience : Audience) → get desk.keys digest ≡ Some audience → IsKey digest audience
  pub staff : (digest : List ℕ) × IsStaff desk digest
  pub checks : (checkup : Checkup) (outcome : Outcome) → get desk.checks checkup ≡ Some outcome → IsDay checkup.day × IsSome (get desk.images checkup.acc)
