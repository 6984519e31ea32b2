-- What is true of the names of files.
use Rattle.std.proofs.Common.{◌≡◌, ◌≢◌, ◌<◌, ◌≤◌, ◌+◌, ◌-◌, ◌/◌, ◌%◌, ◌^◌, ◌==◌, ℕ, Bool, true, false, List, [], ◌∷◌, ◌++◌, suc, refl, sym, ◌∙◌, ap, subst, true≢false, arith, get_or, length, map, reverse, take, if◌then◌else◌}
use Rattle.std.specs.Prelude.{All, Contains, IsTrue}
use Rattle.std.specs.Char.{to_ascii_lowercase}
use Rattle.std.proofs.lemmas.List.Sums.{AllPass-from_list_all}
use Rattle.std.specs.Prelude.{nat_le}
use Rattle.std.specs.Str.{str_to_ascii_lowercase}
use Rattle.std.proofs.lemmas.Bool.Decides.{nat_tests}
use Rattle.std.proofs.lemmas.List.{length-append, length-map, length-take, length-reverse, get_or-append-add, get_or-map, get_or-reverse}
use Rattle.std.proofs.lemmas.List.Elements.{All-cons, All-contains, All-map}
use Rattle.std.proofs.lemmas.List.Prefix.{front_reads}
use Rattle.std.proofs.lemmas.Str.Ascii.{lowercase_is}
use Rattle.rd_operands.specs.FileNames.{IsDeviceName, IsSafeName, device_names, file_name, is_portable, safe_byte, skip_dots, slot_front, without_dots}

-- a digit is of the portable set
digit_portable : (n : ℕ) → n < 10 → IsTrue (is_portable (48 + n))
digit_portable n small = grind (arith, nat_tests)

-- what is chosen is of the portable set
chosen_portable : (byte : ℕ) (test : Bool) → is_portable byte ≡ test → IsTrue (is_portable (if test then byte else 95))
chosen_portable byte true is = is
chosen_portable byte false is = refl

-- as is each byte that stands for another
safe_portable : (byte : ℕ) → IsTrue (is_portable (safe_byte byte))
safe_portable byte = chosen_portable byte (is_portable byte) refl

-- a byte that is no dot does not become one
chosen_apart : (byte : ℕ) (test : Bool) → byte ≢ 46 → (if test then byte else 95) ≢ 46
chosen_apart byte true apart = apart
chosen_apart byte false apart = λ same. omega (arith, same)

safe_apart : (byte : ℕ) → byte ≢ 46 → safe_byte byte ≢ 46
safe_apart byte apart = chosen_apart byte (is_portable byte) apart

-- the first byte after the dots is no dot
stays : (byte : ℕ) (bytes : List ℕ) (test : Bool) → (byte == 46) ≡ test → get_or (skip_dots bytes) 0 0 ≢ 46
    → get_or (if test then skip_dots bytes else byte ∷ bytes) 0 0 ≢ 46
stays byte bytes true is rest = rest
stays byte bytes false is rest = λ same. true≢false (subst (λ (b : ℕ). (b == 46) ≡ false) same is)

first_apart : (bytes : List ℕ) → get_or (skip_dots bytes) 0 0 ≢ 46
first_apart [] = λ same. omega (arith, same)
first_apart (byte ∷ bytes) = stays byte bytes (byte == 46) refl (first_apart bytes)

-- the last byte of a list is the first of the list from its end
last-reverse : (bytes : List ℕ) → 1 ≤ length bytes → get_or (reverse bytes) (length bytes - 1) 0 ≡ get_or bytes 0 0
last-reverse bytes some =
    let inside : length bytes - 1 < length bytes = omega (arith, some) in
    let place : length bytes - 1 - (length bytes - 1) ≡ 0 = omega arith in
    get_or-reverse bytes (length bytes - 1) 0 inside ∙ ap (λ (k : ℕ). get_or bytes k 0) place

last_of_reverse : (rest : List ℕ) → get_or rest 0 0 ≢ 46 → 1 ≤ length (reverse rest) → get_or (reverse rest) (length (reverse rest) - 1) 0 ≢ 46
last_of_reverse rest apart some = λ dot.
    let long : length (reverse rest) ≡ length rest = length-reverse rest in
    let at : get_or (reverse rest) (length rest - 1) 0 ≡ get_or rest 0 0 = last-reverse rest (omega (arith, long, some)) in
    let here : get_or (reverse rest) (length (reverse rest) - 1) 0 ≡ get_or (reverse rest) (length rest - 1) 0 =
    ap (λ (k : ℕ). get_or (reverse rest) (k - 1) 0) long in
    apart (sym at ∙ sym here ∙ dot)

-- the last of the bytes that stay is no dot
last_apart : (bytes : List ℕ) → 1 ≤ length (without_dots bytes) → get_or (without_dots bytes) (length (without_dots bytes) - 1) 0 ≢ 46
last_apart bytes some = last_of_reverse (skip_dots (reverse bytes)) (first_apart (reverse bytes)) some

-- there are no more bytes after the dots than before
no_more : (byte : ℕ) (bytes : List ℕ) (test : Bool) → length (skip_dots bytes) ≤ length bytes
    → length (if test then skip_dots bytes else byte ∷ bytes) ≤ suc (length bytes)
no_more byte bytes true less = omega (arith, less)
no_more byte bytes false less = omega arith

length-skip_dots : (bytes : List ℕ) → length (skip_dots bytes) ≤ length bytes
length-skip_dots [] = omega arith
length-skip_dots (byte ∷ bytes) = no_more byte bytes (byte == 46) (length-skip_dots bytes)

-- nor without the dots at the end
length-without_dots : (bytes : List ℕ) → length (without_dots bytes) ≤ length bytes
length-without_dots bytes =
    omega (arith, length-reverse (skip_dots (reverse bytes)), length-skip_dots (reverse bytes), length-reverse bytes)

-- each name of a device begins with a letter
device_letter : (device : List ℕ) → Contains device_names device → 97 ≤ get_or device 0 0
device_letter device within =
    let each = AllPass-from_list_all (λ (name : List ℕ). nat_le 97 (get_or name 0 0)) device_names refl in
    let letter : nat_le 97 (get_or device 0 0) ≡ true =
    All-contains (λ (name : List ℕ). nat_le 97 (get_or name 0 0) ≡ true) device_names device each within in
    grind (arith, nat_tests, letter)

-- a list with a first element is not empty
has_some : (bytes : List ℕ) → 97 ≤ get_or bytes 0 0 → 0 < length bytes
has_some [] letter = absurd (omega (arith, letter))
has_some (byte ∷ bytes) letter = omega arith

-- a digit is the same in small letters
first_in_small : (name : List ℕ) → get_or name 0 0 ≤ 57 → get_or (str_to_ascii_lowercase name) 0 0 ≡ get_or name 0 0
first_in_small [] low = refl
first_in_small (byte ∷ bytes) low = (lowercase_is byte).1 (omega (arith, low))

-- a name that begins with a digit is that of no device
no_device_name : (name : List ℕ) → get_or name 0 0 ≤ 57 → ¬ IsDeviceName name
no_device_name name low = λ is.
    let letter : 97 ≤ get_or is.device 0 0 = device_letter is.device is.kept in
    let same : get_or (str_to_ascii_lowercase name) 0 0 ≡ get_or is.device 0 0 =
    front_reads 0 (str_to_ascii_lowercase name) is.device is.rest is.begins 0 (has_some is.device letter) in
    omega (arith, letter, same, first_in_small name low, low)

-- the part that a name keeps
abbrev kept_of : List ℕ → List ℕ
kept_of name = without_dots (take 249 name)

-- a byte in front of bytes of the portable set
one_more : (byte : ℕ) (bytes : List ℕ) → IsTrue (is_portable byte) → All (λ byte. IsTrue (is_portable byte)) bytes
    → All (λ byte. IsTrue (is_portable byte)) (byte ∷ bytes)
one_more byte bytes first rest = All-cons (λ (b : ℕ). IsTrue (is_portable b)) byte bytes first rest

-- the bytes after the slot are of the portable set
rest_portable : (kept : List ℕ) → All (λ byte. IsTrue (is_portable byte)) (45 ∷ map safe_byte kept)
rest_portable kept = one_more 45 (map safe_byte kept) refl
    (All-map (λ (b : ℕ). IsTrue (is_portable b)) safe_byte kept (λ k d inside. safe_portable (get_or kept k d)))

-- all bytes of a name are of the portable set
all_portable : (a b c d e : ℕ) (rest : List ℕ) → a < 10 → b < 10 → c < 10 → d < 10 → e < 10
    → All (λ byte. IsTrue (is_portable byte)) rest
    → All (λ byte. IsTrue (is_portable byte)) ((48 + a) ∷ (48 + b) ∷ (48 + c) ∷ (48 + d) ∷ (48 + e) ∷ rest)
all_portable a b c d e rest la lb lc ld le after =
    one_more (48 + a) ((48 + b) ∷ (48 + c) ∷ (48 + d) ∷ (48 + e) ∷ rest) (digit_portable a la)
    (one_more (48 + b) ((48 + c) ∷ (48 + d) ∷ (48 + e) ∷ rest) (digit_portable b lb)
    (one_more (48 + c) ((48 + d) ∷ (48 + e) ∷ rest) (digit_portable c lc)
    (one_more (48 + d) ((48 + e) ∷ rest) (digit_portable d ld)
    (one_more (48 + e) rest (digit_portable e le) after))))

-- the last byte of bytes after others is no dot, where that of the part that is kept is none
last_of_some : (front kept : List ℕ) → 1 ≤ length kept → get_or kept (length kept - 1) 0 ≢ 46
    → get_or (front ++ map safe_byte kept) (length (front ++ map safe_byte kept) - 1) 0 ≢ 46
last_of_some front kept some apart = λ dot.
    let place : length (front ++ map safe_byte kept) - 1 ≡ length front + (length kept - 1) =
    omega (arith, length-append front (map safe_byte kept), length-map kept safe_byte, some) in
    let there : get_or (front ++ map safe_byte kept) (length front + (length kept - 1)) 0 ≡ get_or (map safe_byte kept) (length kept - 1) 0 =
    get_or-append-add front (map safe_byte kept) (length kept - 1) 0 in
    let inside : length kept - 1 < length kept = omega (arith, some) in
    let mapped : get_or (map safe_byte kept) (length kept - 1) 0 ≡ safe_byte (get_or kept (length kept - 1) 0) =
    get_or-map safe_byte kept (length kept - 1) 0 0 inside in
    safe_apart (get_or kept (length kept - 1) 0) apart
    (sym mapped ∙ sym there ∙ sym (ap (λ (k : ℕ). get_or (front ++ map safe_byte kept) k 0) place) ∙ dot)

-- the last byte of a name is no dot
last_of_name : (slot : ℕ) (kept : List ℕ) → (1 ≤ length kept → get_or kept (length kept - 1) 0 ≢ 46)
    → get_or (slot_front slot ++ map safe_byte kept) (length (slot_front slot ++ map safe_byte kept) - 1) 0 ≢ 46
last_of_name slot [] apart = λ dot. omega (arith, dot)
last_of_name slot (byte ∷ bytes) apart = last_of_some (slot_front slot) (byte ∷ bytes) (omega arith) (apart (omega arith))

-- a name has at most 255 bytes
few_bytes : (slot : ℕ) (name : List ℕ) → length (file_name slot name) ≤ 255
few_bytes slot name =
    omega (
      arith,
      length-append (slot_front slot) (map safe_byte (kept_of name)),
      length-map (kept_of name) safe_byte,
      length-without_dots (take 249 name),
      length-take 249 name,
    )

-- a name is one that each system takes for that of a plain file
pub safe_name : (slot : ℕ) (name : List ℕ) → slot < 2 ^ 16 → IsSafeName (file_name slot name)
safe_name slot name small =
    let high : slot / 10 / 10 / 10 / 10 < 10 = omega (arith, small) in
    record {
      some = omega arith;
      few = few_bytes slot name;
      portable = all_portable (slot / 10 / 10 / 10 / 10) (slot / 10 / 10 / 10 % 10) (slot / 10 / 10 % 10) (slot / 10 % 10) (slot % 10)
          (45 ∷ map safe_byte (kept_of name)) high (omega arith) (omega arith) (omega arith) (omega arith) (rest_portable (kept_of name));
      from_digit = omega arith;
      to_digit = omega (arith, high);
      last = last_of_name slot (kept_of name) (last_apart (take 249 name));
      no_device = no_device_name (file_name slot name) (omega (arith, high));
    }

-- two digits that are the same in small letters are of one number
one_digit : (m n : ℕ) → m < 10 → n < 10 → to_ascii_lowercase (48 + m) ≡ to_ascii_lowercase (48 + n) → m ≡ n
one_digit m n low small same =
    omega (arith, same, (lowercase_is (48 + m)).1 (omega (arith, low)), (lowercase_is (48 + n)).1 (omega (arith, small)))

-- a number is that of its tens and its last digit
from_digits : (m n : ℕ) → m / 10 ≡ n / 10 → m % 10 ≡ n % 10 → m ≡ n
from_digits m n tens digit = omega arith

-- names that are the same in small letters are names for one slot
pub one_slot_lem : (slot other : ℕ) (name its : List ℕ) → slot < 2 ^ 16 → other < 2 ^ 16
    → str_to_ascii_lowercase (file_name slot name) ≡ str_to_ascii_lowercase (file_name other its) → slot ≡ other
one_slot_lem slot other name its low small same =
    let at : (k : ℕ) → get_or (str_to_ascii_lowercase (file_name slot name)) k 0 ≡ get_or (str_to_ascii_lowercase (file_name other its)) k 0 =
    λ (k : ℕ). ap (λ (bytes : List ℕ). get_or bytes k 0) same in
    let fifth : slot / 10 / 10 / 10 / 10 ≡ other / 10 / 10 / 10 / 10 =
    one_digit (slot / 10 / 10 / 10 / 10) (other / 10 / 10 / 10 / 10) (omega (arith, low)) (omega (arith, small)) (at 0) in
    let fourth : slot / 10 / 10 / 10 % 10 ≡ other / 10 / 10 / 10 % 10 =
    one_digit (slot / 10 / 10 / 10 % 10) (other / 10 / 10 / 10 % 10) (omega arith) (omega arith) (at 1) in
    let third : slot / 10 / 10 % 10 ≡ other / 10 / 10 % 10 =
    one_digit (slot / 10 / 10 % 10) (other / 10 / 10 % 10) (omega arith) (omega arith) (at 2) in
    let second : slot / 10 % 10 ≡ other / 10 % 10 = one_digit (slot / 10 % 10) (other / 10 % 10) (omega arith) (omega arith) (at 3) in
    let first : slot % 10 ≡ other % 10 = one_digit (slot % 10) (other % 10) (omega arith) (omega arith) (at 4) in
    from_digits slot other (from_digits (slot / 10) (other / 10) (from_digits (slot / 10 / 10) (other / 10 / 10)
    (from_digits (slot / 10 / 10 / 10) (other / 10 / 10 / 10) fifth fourth) third) second) first
