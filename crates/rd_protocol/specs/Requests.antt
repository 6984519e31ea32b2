-- What a caller may ask: the limits of its values, and what only the staff may ask. The limits are
-- this project's.
use Rattle.std.specs.Prelude.{◌≢◌, ◌≤◌}
use Rattle.rd_policy.specs.declared.limits.TheConstants.{LAST_SLOT}
use Rattle.rd_policy.specs.Days.{IsDay}
use Rattle.rd_policy.specs.Rules.{IsScope, IsRank, IsRule}
use Rattle.rd_policy.specs.declared.audience.Audience.TheVariants.{Public}
use Rattle.rd_holdings.specs.Lawful.{IsDeed}
use Rattle.rd_protocol.specs.declared.request.What.{What}
use Rattle.rd_protocol.specs.declared.request.What.TheVariants.{Images, Listing, Bytes, Catalogue, Survey, Check, Deeds, Takedowns, Keys, Checks, Today, Verdicts, VerdictsOf, RehearseRule, RehearseDrop, PutImage, PutDeed, PutRule, DropRule, PutKey, DropKey, Unread}

-- each value is within its limits; a digest and the bytes of an image may be any
abbrev pub IsRequest : What → Type 0
IsRequest Images = Unit {0}
IsRequest (Listing acc) = IsScope acc
IsRequest (Bytes acc slot) = IsScope acc × (slot ≤ LAST_SLOT)
IsRequest Catalogue = Unit {0}
IsRequest (Survey acc) = IsScope acc
IsRequest (Check acc) = IsScope acc
IsRequest Deeds = Unit {0}
IsRequest Takedowns = Unit {0}
IsRequest Keys = Unit {0}
IsRequest Checks = Unit {0}
IsRequest Today = Unit {0}
IsRequest (Verdicts on) = IsDay on
IsRequest (VerdictsOf on acc) = IsDay on × IsScope acc
IsRequest (RehearseRule on rule) = IsDay on × IsRule rule
IsRequest (RehearseDrop on band scope rank) = IsDay on × IsScope scope × IsRank rank
IsRequest (PutImage acc kind deed digest bytes) = IsScope acc × IsScope deed
IsRequest (PutDeed num donor signed) = IsDeed num (record { donor = donor; signed = signed })
IsRequest (PutRule rule) = IsRule rule
IsRequest (DropRule band scope rank) = IsScope scope × IsRank rank
IsRequest (PutKey digest audience) = audience ≢ Public
IsRequest (DropKey digest) = Unit {0}
IsRequest Unread = Unit {0}

-- to put something or to take it away, also when the body of the request cannot be read; the reply
-- says that it is done
abbrev pub IsPutOrDrop : What → Type 0
IsPutOrDrop (PutImage acc kind deed digest bytes) = Unit {0}
IsPutOrDrop (PutDeed num donor signed) = Unit {0}
IsPutOrDrop (PutRule rule) = Unit {0}
IsPutOrDrop (DropRule band scope rank) = Unit {0}
IsPutOrDrop (PutKey digest audience) = Unit {0}
IsPutOrDrop (DropKey digest) = Unit {0}
IsPutOrDrop Unread = Unit {0}
IsPutOrDrop other = ⊥

-- anyone may ask for the images, a listing, a file and the catalogue; all else is for the staff
abbrev pub IsForStaff : What → Type 0
IsForStaff Images = ⊥
IsForStaff (Listing acc) = ⊥
IsForStaff (Bytes acc slot) = ⊥
IsForStaff Catalogue = ⊥
IsForStaff other = Unit {0}

-- to put, to drop and to check; all other requests only read, and a body that cannot be read is refused
abbrev pub MayChange : What → Type 0
MayChange (Check acc) = Unit {0}
MayChange Unread = ⊥
MayChange other = IsPutOrDrop other
