-- The numbers and texts by which columns stand for values.
use Rattle.std.specs.Prelude.{ℕ, zero, suc, ◌+◌, ◌*◌, ◌/◌, ◌%◌, ◌==◌, ℤ, List, [], ◌∷◌, Bool, cond, flat_map, Option, Some, None}
use Rattle.sqlite.specs.declared.types.Value.{Value}
use Rattle.sqlite.specs.declared.types.Value.TheVariants.{Int}
use Rattle.rd_tables.specs.Spellings.{natural_of}
use Rattle.rd_geometry.specs.declared.kind.Kind.{Kind}
use Rattle.rd_geometry.specs.declared.kind.Kind.TheVariants.{Cpm8, D64, D64e}
use Rattle.rd_policy.specs.declared.audience.Audience.{Audience}
use Rattle.rd_policy.specs.declared.audience.Audience.TheVariants.{Public, Room, Staff}
use Rattle.rd_policy.specs.declared.audience.Audiences.{Audiences}
use Rattle.rd_policy.specs.declared.rule.Band.{Band}
use Rattle.rd_policy.specs.declared.rule.Band.TheVariants.{Takedown, Deed}
use Rattle.rd_policy.specs.declared.rule.Effect.{Effect}
use Rattle.rd_policy.specs.declared.rule.Effect.TheVariants.{Deny, List as Listed, Read}
use Rattle.rd_policy.specs.declared.select.Select.{Select}
use Rattle.rd_policy.specs.declared.select.Select.TheVariants.{All, Slot, Prefix, User, Kind as OfKind}
use Rattle.rd_holdings.specs.declared.rows.Outcome.{Outcome}
use Rattle.rd_holdings.specs.declared.rows.Outcome.TheVariants.{Sound, Changed}

-- a D64 with error bytes has the number of one without: they stand in a table of their own
abbrev pub kind_code : Kind → ℕ
kind_code Cpm8 = 0
kind_code D64 = 1
kind_code D64e = 1

-- the kind without error bytes that a number stands for
abbrev pub kind_in : ℕ → Kind
kind_in zero = Cpm8
kind_in (suc code) = D64

-- the band that a number stands for; the number of a band is `band_code` of State in rd_holdings
abbrev pub band_in : ℕ → Band
band_in zero = Takedown
band_in (suc code) = Deed

-- the number that stands for an effect
abbrev pub effect_code : Effect → ℕ
effect_code Deny = 0
effect_code Listed = 1
effect_code Read = 2

-- the effect for which a number stands
abbrev pub effect_in : ℕ → Effect
effect_in zero = Deny
effect_in (suc zero) = Listed
effect_in (suc (suc code)) = Read

-- the sum of 1 for the public, 2 for the room and 4 for the staff
abbrev pub audiences_code : Audiences → ℕ
audiences_code set = cond set.public 1 0 + (cond set.room 2 0 + cond set.staff 4 0)

-- the audiences for which a sum stands
abbrev pub audiences_in : ℕ → Audiences
audiences_in code = record { public = code % 2 == 1; room = code / 2 % 2 == 1; staff = code / 4 % 2 == 1 }

-- 0 stands for the public, in no lawful row
abbrev pub audience_code : Audience → ℕ
audience_code Public = 0
audience_code Room = 1
audience_code Staff = 2

-- the audience that a number stands for
abbrev pub audience_in : ℕ → Audience
audience_in zero = Public
audience_in (suc zero) = Room
audience_in (suc (suc code)) = Staff

-- the number that stands for the outcome of a check
abbrev pub outcome_code : Outcome → ℕ
outcome_code Sound = 0
outcome_code Changed = 1

-- the outcome of a check for which a number stands
abbrev pub outcome_in : ℕ → Outcome
outcome_in zero = Sound
outcome_in (suc code) = Changed

-- ---- a selector is three columns

-- the first is a number for the sort of the selector
abbrev pub how : Select → ℕ
how All = 0
how (Slot slot) = 1
how (Prefix text) = 2
how (User user) = 3
how (OfKind text) = 4

-- the second is the slot or the user, and 0 for a selector without one
abbrev pub number : Select → ℕ
number All = 0
number (Slot slot) = slot
number (Prefix text) = 0
number (User user) = user
number (OfKind text) = 0

-- the third is the prefix or the type, and empty for a selector without one
abbrev pub word : Select → List ℕ
word All = []
word (Slot slot) = []
word (Prefix text) = text
word (User user) = []
word (OfKind text) = text

-- the selector that three columns stand for
abbrev pub select_in : ℕ → ℕ → List ℕ → Select
select_in zero number word = All
select_in (suc zero) number word = Slot number
select_in (suc (suc zero)) number word = Prefix word
select_in (suc (suc (suc zero))) number word = User number
select_in (suc (suc (suc (suc how)))) number word = OfKind word

-- ---- a day that may be absent

-- a whole number is a day, and NULL, or any other value, is none
abbrev pub day_in : Value → Option ℤ
day_in (Int day) = Some day
day_in value = None

-- ---- a number that may be absent

-- a whole number is itself, and 0 where it is negative; NULL, or any other value, is none
abbrev pub number_in : Value → Option ℕ
number_in (Int number) = Some (natural_of number)
number_in value = None

-- ---- the units of a file are two bytes each, the high byte first

-- the bytes of units
abbrev pub units_code : List ℕ → List ℕ
units_code = flat_map (λ unit. unit / 256 ∷ unit % 256 ∷ [])

-- the units of bytes; of an odd number of bytes the last counts for nothing
abbrev pub units_in : List ℕ → List ℕ
units_in [] = []
units_in (high ∷ []) = []
units_in (high ∷ low ∷ more) = (256 * high + low) ∷ units_in more

-- 1 for a file of the class that is served
abbrev pub class_code : Bool → ℕ
class_code served = cond served 1 0

-- whether a number stands for a file of that class
abbrev pub class_in : ℕ → Bool
class_in code = code == 1
