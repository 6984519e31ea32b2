-- Names of files that every system takes as names of files.
use Rattle.std.specs.Prelude.{◌≡◌, ◌≢◌, ◌⊎◌, ◌<◌, ◌≤◌, ◌+◌, ◌-◌, ◌/◌, ◌%◌, ◌^◌, ◌==◌, ◌||◌, ℕ, Bool, List, [], ◌∷◌, ◌++◌, All, Contains, IsTrue, Some, codes, if◌then◌else◌, length, map, reverse, slice_get, slice_index, take}
use Rattle.std.specs.Char.{is_ascii_alphanumeric}
use Rattle.std.specs.Str.{str_to_ascii_lowercase}

-- the byte is of POSIX's portable filename character set: a letter or a digit of ASCII, a dot (46), an underscore (95)
-- or a hyphen (45)
abbrev pub is_portable : ℕ → Bool
is_portable byte = is_ascii_alphanumeric byte || (byte == 46) || (byte == 95) || (byte == 45)

-- the names that Windows keeps for devices, in small letters
abbrev pub device_names : List (List ℕ)
device_names = codes "con" ∷ codes "prn" ∷ codes "aux" ∷ codes "nul" ∷ codes "com1" ∷ codes "com2" ∷ codes "com3" ∷ codes "com4"
    ∷ codes "com5" ∷ codes "com6" ∷ codes "com7" ∷ codes "com8" ∷ codes "com9" ∷ codes "lpt1" ∷ codes "lpt2" ∷ codes "lpt3"
    ∷ codes "lpt4" ∷ codes "lpt5" ∷ codes "lpt6" ∷ codes "lpt7" ∷ codes "lpt8" ∷ codes "lpt9" ∷ []

-- Windows takes the name for that of a device: it is one, in any letters, alone or before a dot.
pub record IsDeviceName (name : List ℕ) : Type 0 where
  pub device : List ℕ
  pub kept : Contains device_names device
  pub rest : List ℕ
  pub begins : str_to_ascii_lowercase name ≡ device ++ rest
  pub ends : (rest ≡ []) ⊎ (slice_get rest 0 ≡ Some 46)

-- Each system takes the name for that of a plain file: it has 1 to 255 bytes, all of the portable set, of which the
-- first is a digit (so it is no dot and no hyphen) and the last is no dot, and it is the name of no device.
pub record IsSafeName (name : List ℕ) : Type 0 where
  pub some : 1 ≤ length name
  pub few : length name ≤ 255
  pub portable : All (λ byte. IsTrue (is_portable byte)) name
  pub from_digit : 48 ≤ slice_index name 0
  pub to_digit : slice_index name 0 ≤ 57
  pub last : slice_index name (length name - 1) ≢ 46
  pub no_device : ¬ IsDeviceName name

-- a byte of the portable set, and an underscore for any other
abbrev pub safe_byte : ℕ → ℕ
safe_byte byte = if is_portable byte then byte else 95

-- the bytes from the first that is no dot
abbrev pub skip_dots : List ℕ → List ℕ
skip_dots [] = []
skip_dots (byte ∷ bytes) = if byte == 46 then skip_dots bytes else byte ∷ bytes

-- the bytes without the dots at their end
abbrev pub without_dots : List ℕ → List ℕ
without_dots bytes = reverse (skip_dots (reverse bytes))

-- a slot in five digits, and a hyphen
abbrev pub slot_front : ℕ → List ℕ
slot_front slot =
    (48 + slot / 10 / 10 / 10 / 10) ∷ (48 + slot / 10 / 10 / 10 % 10) ∷ (48 + slot / 10 / 10 % 10) ∷ (48 + slot / 10 % 10)
    ∷ (48 + slot % 10) ∷ 45 ∷ []

-- the name for the file of a slot that has this name in its image
abbrev pub file_name : ℕ → List ℕ → List ℕ
file_name slot name = slot_front slot ++ map safe_byte (without_dots (take 249 name))

-- names for files that are the same, in small letters, are names for one slot
abbrev pub HasOneSlot : Type 0
HasOneSlot = (slot other : ℕ) (name its : List ℕ) → slot < 2 ^ 16 → other < 2 ^ 16
    → str_to_ascii_lowercase (file_name slot name) ≡ str_to_ascii_lowercase (file_name other its) → slot ≡ other
