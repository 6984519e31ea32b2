-- The pad at the end of a name, and the parts of a CP/M name joined.
use Rattle.std.proofs.Common.{◌≡◌, ◌∙◌, ◌+◌, ◌<◌, ◌≤◌, ◌==◌, ◌/◌, ◌%◌, ℕ, List, [], ◌∷◌, ◌++◌, ap, append_assoc, append-nil, arith, cond, drop, flat_map, length, refl, sym, take, true, false}
use Rattle.std.specs.List.{suffix_len}
use Rattle.std.proofs.lemmas.List.{nil_from_length}
use Rattle.rd_geometry.specs.declared.kind.Kind.TheVariants.{Cpm8}
use Rattle.rd_volume.specs.Printed.{cpm_name_of, dotted, hex_digit, is_plain, printed_byte, without_pad}

-- What stands from `end` on is pad.
pub record IsPadFrom (pad : ℕ) (bytes : List ℕ) (end : ℕ) : Type 0 where
  pub within : end ≤ length bytes
  pub passed : end + suffix_len (λ byte. byte == pad) bytes ≡ length bytes + suffix_len (λ byte. byte == pad) (take end bytes)

-- the printed bytes of a name
abbrev shown : List ℕ → List ℕ
shown bytes = flat_map (printed_byte Cpm8) bytes

-- a name with no type
pub name_alone : (name base extension start text : List ℕ) → base ≡ without_pad 0x20 (take 8 name) → extension ≡ without_pad 0x20 (drop 8 name)
    → start ≡ [] → text ≡ start ++ shown base → length extension ≡ 0 → text ≡ cpm_name_of name
name_alone name base extension start text base_is extension_is none text_is empty =
    let nothing : without_pad 0x20 (drop 8 name) ≡ [] = sym extension_is ∙ nil_from_length extension empty in
    text_is ∙ ap (λ l. l ++ shown base) none ∙ ap shown base_is ∙ sym (append-nil (shown (without_pad 0x20 (take 8 name))))
    ∙ ap (λ l. shown (without_pad 0x20 (take 8 name)) ++ dotted (shown l)) (sym nothing)

dotted_shown : (byte : ℕ) (bytes : List ℕ) → dotted (shown (byte ∷ bytes)) ≡ 46 ∷ shown (byte ∷ bytes)
dotted_shown byte bytes =
    elim (is_plain Cpm8 byte) as (λ b. dotted (cond b (byte ∷ []) (37 ∷ hex_digit (byte / 16) ∷ hex_digit (byte % 16) ∷ []) ++ shown bytes)
    ≡ 46 ∷ (cond b (byte ∷ []) (37 ∷ hex_digit (byte / 16) ∷ hex_digit (byte % 16) ∷ []) ++ shown bytes)) [ true ↦ refl | false ↦ refl ]

dotted_some : (bytes : List ℕ) → 0 < length bytes → dotted (shown bytes) ≡ 46 ∷ shown bytes
dotted_some [] some = absurd (omega arith)
dotted_some (byte ∷ bytes) some = dotted_shown byte bytes

-- a name with a dot and a type
pub name_with_type : (name base extension start front dot text : List ℕ) → base ≡ without_pad 0x20 (take 8 name)
    → extension ≡ without_pad 0x20 (drop 8 name) → start ≡ [] → front ≡ start ++ shown base → dot ≡ front ++ 46 ∷ [] → text ≡ dot ++ shown extension
    → 0 < length extension → text ≡ cpm_name_of name
name_with_type name base extension start front dot text base_is extension_is none front_is dot_is text_is some =
    let first : front ≡ shown (without_pad 0x20 (take 8 name)) = front_is ∙ ap (λ l. l ++ shown base) none ∙ ap shown base_is in
    text_is ∙ ap (λ l. l ++ shown extension) (dot_is ∙ ap (λ l. l ++ 46 ∷ []) first)
    ∙ append_assoc (shown (without_pad 0x20 (take 8 name))) (46 ∷ []) (shown extension)
    ∙ ap (λ l. shown (without_pad 0x20 (take 8 name)) ++ l) (sym (dotted_some extension some))
    ∙ ap (λ l. shown (without_pad 0x20 (take 8 name)) ++ dotted (shown l)) extension_is
