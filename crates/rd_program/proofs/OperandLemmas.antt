-- The operands that stand in files.
use Rattle.std.proofs.Common.{◌≡◌, ◌≢◌, ◌≤◌, ◌∙◌, ℕ, IfSome, List, None, Option, Some, ap, arith, codes, length, subst, take}
use Rattle.std.proofs.lemmas.List.{length-take, take_all}
use Rattle.rd_operands.specs.KeyFiles.{key_of}
use Rattle.rd_program.specs.Completing.{IsKeyAt, IsKeyIn}

-- the front of bytes that has not as many as were asked for is all of them
pub short_front : (all bytes : List ℕ) → bytes ≡ take 4097 all → length bytes ≤ 4096 → bytes ≡ all
short_front all bytes is few =
    let long : length bytes ≡ length (take 4097 all) = ap length is in
    is ∙ take_all 4097 all (omega (arith, long, length-take 4097 all, few))

-- what holds of a key's bytes holds of the key
known : (all : Option (List ℕ)) (bytes key : List ℕ) → length bytes ≤ 4096 → key ≡ key_of bytes → IfSome all (λ shown. bytes ≡ shown) → IfSome all (IsKeyIn key)
known (Some shown) bytes key few is same = record { is = is ∙ ap key_of same; few = subst (λ (b : List ℕ). length b ≤ 4096) same few }
known None bytes key few is same = tt

whole : (all : Option (List ℕ)) (bytes : List ℕ) → length bytes ≤ 4096 → IfSome all (λ shown. bytes ≡ take 4097 shown) → IfSome all (λ shown. bytes ≡ shown)
whole (Some shown) bytes few front = short_front shown bytes front few
whole None bytes few front = tt

-- the key in the bytes that were read is the one at the path
pub key_at : (files : List ℕ → Option (List ℕ)) (input : Option (List ℕ)) (path key bytes : List ℕ) → length bytes ≤ 4096 → key ≡ key_of bytes
    → (path ≡ codes "-" → IfSome input (λ all. bytes ≡ take 4097 all)) → (path ≢ codes "-" → IfSome (files path) (λ shown. bytes ≡ shown))
    → IsKeyAt files input path key
key_at files input path key bytes few is front file = record {
  on_input = λ dash. known input bytes key few is (whole input bytes few (front dash));
  in_file = λ other. known (files path) bytes key few is (file other);
}
