-- Why the desk refuses a request: the number that orders the reasons, the name that the reply
-- gives, and its status.
use Rattle.std.specs.Prelude.{ℕ, List, codes}
use Rattle.rd_protocol.specs.declared.refusal.Refusal.{Refusal}
use Rattle.rd_protocol.specs.declared.refusal.Refusal.TheVariants.{UnknownKey, StaffOnly, BadBody, NoAccession, NoFile, NoDeed, Denied, ListedOnly, Faulty, WrongSize, DigestDiffers, Conflict}

-- if several reasons hold, the reply gives the one with the lowest number; 1 to 4 are for bytes
-- that are no request, which do not reach the desk
abbrev pub number_of : Refusal → ℕ
number_of UnknownKey = 5
number_of StaffOnly = 6
number_of BadBody = 7
number_of NoAccession = 8
number_of NoFile = 9
number_of NoDeed = 10
number_of (Denied label) = 11
number_of ListedOnly = 12
number_of (Faulty kind faults) = 13
number_of WrongSize = 14
number_of DigestDiffers = 15
number_of Conflict = 16

-- the name that the reply gives
abbrev pub name_of : Refusal → List ℕ
name_of UnknownKey = codes "unknown-key"
name_of StaffOnly = codes "staff-only"
name_of BadBody = codes "bad-body"
name_of NoAccession = codes "no-accession"
name_of NoFile = codes "no-file"
name_of NoDeed = codes "no-deed"
name_of (Denied label) = codes "denied"
name_of ListedOnly = codes "listed-only"
name_of (Faulty kind faults) = codes "faulty"
name_of WrongSize = codes "wrong-size"
name_of DigestDiffers = codes "digest-differs"
name_of Conflict = codes "conflict"

-- the HTTP status
abbrev pub status_of : Refusal → ℕ
status_of UnknownKey = 401
status_of StaffOnly = 403
status_of BadBody = 400
status_of NoAccession = 404
status_of NoFile = 404
status_of NoDeed = 404
status_of (Denied label) = 403
status_of ListedOnly = 422
status_of (Faulty kind faults) = 422
status_of WrongSize = 422
status_of DigestDiffers = 422
status_of Conflict = 409
