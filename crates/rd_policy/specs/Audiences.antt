-- Who may make a request, the word for each, and sets of them.
use Rattle.std.specs.Prelude.{ℕ, List, IsTrue, codes}
use Rattle.rd_policy.specs.declared.audience.Audience.{Audience}
use Rattle.rd_policy.specs.declared.audience.Audience.TheVariants.{Public, Room, Staff}
use Rattle.rd_policy.specs.declared.audience.Audiences.{Audiences}

-- the word for an audience
abbrev pub audience_word : Audience → List ℕ
audience_word Public = codes "public"
audience_word Room = codes "room"
audience_word Staff = codes "staff"

-- the audience is in the set
abbrev pub IsAmong : Audiences → Audience → Type 0
IsAmong set Public = IsTrue set.public
IsAmong set Room = IsTrue set.room
IsAmong set Staff = IsTrue set.staff

-- neither the public nor the room nor the staff is in the set
abbrev pub IsEmpty : Audiences → Type 0
IsEmpty set = (¬ IsAmong set Public) × (¬ IsAmong set Room) × (¬ IsAmong set Staff)
