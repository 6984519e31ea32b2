-- The words of an entry, and the limits of its values: this project's.
use Rattle.std.specs.Prelude.{◌≡◌, ◌≢◌, ◌≤◌, ℕ, List, [], None, Option, codes, length, IfSome}
use Rattle.hex.specs.Hex.{IsBytes}
use Rattle.rd_policy.specs.Days.{HasDay}
use Rattle.rd_policy.specs.Rules.{IsPlainText, IsRank, IsRule, IsScope}
use Rattle.rd_policy.specs.declared.audience.Audience.TheVariants.{Public}
use Rattle.rd_holdings.specs.Lawful.{IsDeed}
use Rattle.rd_history.specs.declared.entry.TheConstants.{LAST_NUMBER}
use Rattle.rd_history.specs.declared.entry.Cause.{Cause}
use Rattle.rd_history.specs.declared.entry.Cause.TheVariants.{NoAccession, NoDeed, WrongSize, DigestDiffers, Conflict, Unavailable, Lost}
use Rattle.rd_history.specs.declared.entry.Change.{Change}
use Rattle.rd_history.specs.declared.entry.Change.TheVariants.{Begin, Deed, Image, Rule, DropRule, Key, DropKey, Void}
use Rattle.rd_history.specs.declared.entry.Entry.{Entry}

-- the word for why an entry was not carried out: the name of a refusal, or one of two more
abbrev pub cause_word : Cause → List ℕ
cause_word NoAccession = codes "no-accession"
cause_word NoDeed = codes "no-deed"
cause_word WrongSize = codes "wrong-size"
cause_word DigestDiffers = codes "digest-differs"
cause_word Conflict = codes "conflict"
cause_word Unavailable = codes "unavailable"
cause_word Lost = codes "lost"

-- each value is within its limits; a digest may be any
abbrev pub IsChange : Change → Type 0
IsChange (Begin count) = count ≤ LAST_NUMBER
IsChange (Deed num donor signed) = IsDeed num (record { donor = donor; signed = signed })
IsChange (Image acc kind deed digest) = IsScope acc × IsScope deed
IsChange (Rule rule) = IsRule rule
IsChange (DropRule band scope rank) = IsScope scope × IsRank rank
IsChange (Key digest audience) = audience ≢ Public
IsChange (DropKey digest) = Unit {0}
IsChange (Void cause) = Unit {0}

-- this badge, note and name may stand beside a change: no key beside one that no request asks, and no word of the staff
-- beside one that takes another back
abbrev pub MayBeSigned : Change → Option (List ℕ) → List ℕ → List ℕ → Type 0
MayBeSigned (Begin count) badge note staff = badge ≡ None
MayBeSigned (Void cause) badge note staff = (badge ≡ None) × (note ≡ []) × (staff ≡ [])
MayBeSigned other badge note staff = Unit {0}

-- the entry has a badge, a note and a name that may stand beside its change
abbrev pub IsSigned : Entry → Type 0
IsSigned entry = MayBeSigned entry.change entry.badge entry.note entry.staff

-- The values of an entry are within their limits.
pub record IsEntry (entry : Entry) : Type 0 where
  pub change : IsChange entry.change
  pub moment : HasDay entry.moment
  pub note : IsPlainText 1_000 entry.note
  pub number : (1 ≤ entry.number) × (entry.number ≤ LAST_NUMBER)
  pub staff : IsPlainText 1_000 entry.staff
  pub signed : IsSigned entry

-- the digest of a SHA-256: 32 bytes
abbrev pub IsDigest : List ℕ → Type 0
IsDigest digest = (length digest ≡ 32) × IsBytes digest

-- each digest of a change is one
abbrev pub TellsDigests : Change → Type 0
TellsDigests (Image acc kind deed digest) = IsDigest digest
TellsDigests (Key digest audience) = IsDigest digest
TellsDigests (DropKey digest) = IsDigest digest
TellsDigests other = Unit {0}

-- each digest of an entry is one
abbrev pub HasDigests : Entry → Type 0
HasDigests entry = IfSome entry.badge IsDigest × TellsDigests entry.change
