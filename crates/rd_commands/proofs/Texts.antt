-- The texts of a command's operands, as `clap` looks at them.
use Rattle.std.proofs.Common.{◌≡◌, ◌∙◌, ◌≢◌, inl, inr, ℕ, List, [], ◌∷◌, Some, Bool, true, false, refl, ap, sym, subst, arith, map, drop, length, slice_index_or, cond, eqb-true, ◌==◌}
use Rattle.std.specs.Prelude.{pos}
use Rattle.std.specs.List.{list_any}
use Rattle.std.specs.Str.Parse.{IsNumeral, without_leading_plus, digits_value, starts_with_minus}
use Rattle.std.proofs.lemmas.Bool.{ne_eqb}
use Rattle.std.proofs.lemmas.Int.{ints}
use Rattle.std.proofs.lemmas.Str.Parse.{digit_from_value}
use Rattle.clap.specs.Lexer.{without_minus}
use Rattle.clap.specs.Values.{IsSignedIn, same_text}
use Rattle.clap.specs.ValueTests.{accepts}
use Rattle.clap.specs.declared.builder.value_parser.ValueParser.TheVariants.{Names, Signed}
use Rattle.clap.proofs.ValueTestLemmas.{Accepts-accepts}
use Rattle.clap.proofs.WalkLemmas.{list_any-map}
use Rattle.rd_geometry.specs.declared.kind.Kind.{Kind}
use Rattle.rd_geometry.specs.declared.kind.Kind.TheVariants.{Cpm8, D64, D64e}
use Rattle.rd_geometry.specs.Kinds.{word_of}
use Rattle.rd_protocol.specs.Parts.{all_kinds}
use Rattle.rd_commands.specs.CommandLine.{AreKindNames, NameList}
use Rattle.rd_commands.specs.Words.{IsOperand, IsSlotText}
use Rattle.rd_commands.proofs.Operands.{IsPlainWord, cons_plain, empty_plain, hyphen_plain}

-- an operand is no flag
pub operand_plain : (word : List ℕ) → IsOperand word → IsPlainWord word
operand_plain word (inl hyphen) = subst IsPlainWord (sym hyphen) hyphen_plain
operand_plain [] (inr other) = empty_plain
operand_plain (c ∷ rest) (inr other) = cons_plain c rest (ne_eqb c 45 (λ same. other (ap Some same)))

-- the word of a kind is no flag
pub kind_plain : (kind : Kind) → IsPlainWord (word_of kind)
kind_plain Cpm8 = cons_plain _ _ refl
kind_plain _ = cons_plain _ _ refl

-- the word of a kind is among the names of the kinds
pub kind_accepted : (kinds : NameList) (kind : Kind) → AreKindNames kinds → accepts false (Names kinds) (word_of kind) ≡ true
kind_accepted kinds kind names =
    list_any-map (λ name. same_text false name (word_of kind)) (λ name. name.now) kinds.now
    ∙ ap (list_any (λ name. same_text false name (word_of kind))) names ∙ among kind
  where
    among : (k : Kind) → list_any (λ name. same_text false name (word_of k)) (map word_of all_kinds) ≡ true
    among Cpm8 = refl
    among _ = refl

-- no two kinds have one word
pub same_kind : (k l : Kind) → word_of k ≡ word_of l → k ≡ l
same_kind Cpm8 Cpm8 same = refl
same_kind Cpm8 D64 same = absurd (let lengths : 4 ≡ 3 = ap length same in omega arith)
same_kind Cpm8 D64e same = absurd (let first : 99 ≡ 100 = ap (λ word. slice_index_or word 0 0) same in omega arith)
same_kind D64 Cpm8 same = absurd (let lengths : 3 ≡ 4 = ap length same in omega arith)
same_kind D64 D64 same = refl
same_kind D64 D64e same = absurd (let lengths : 3 ≡ 4 = ap length same in omega arith)
same_kind D64e Cpm8 same = absurd (let first : 100 ≡ 99 = ap (λ word. slice_index_or word 0 0) same in omega arith)
same_kind D64e D64 same = absurd (let lengths : 4 ≡ 3 = ap length same in omega arith)
same_kind D64e D64e same = refl

not_hyphen : (c : ℕ) (rest : List ℕ) (b : Bool) → (c == 43) ≡ b → IsNumeral 10 (drop (cond b 1 0) (c ∷ rest)) → c ≢ 45
not_hyphen c rest true plus numeral = let is_plus : c ≡ 43 = eqb-true c 43 plus in λ hyphen. omega arith
not_hyphen c rest false plus numeral = λ hyphen. omega (arith, digit_from_value c numeral.1.0)

-- the text does not begin with a hyphen
pub record HasNoMinus (text : List ℕ) : Type 0 where
  pub plain : IsPlainWord text
  pub signless : starts_with_minus text ≡ false
  pub whole : without_minus text ≡ text

-- a number's text does not begin with a hyphen
pub no_minus : (text : List ℕ) → IsNumeral 10 (without_leading_plus text) → HasNoMinus text
no_minus [] numeral = absurd (omega (arith, numeral.0))
no_minus (c ∷ rest) numeral =
    let other : (c == 45) ≡ false = ne_eqb c 45 (not_hyphen c rest (c == 43) refl numeral) in
    record { plain = cons_plain c rest other; signless = other; whole = rw other refl }

-- a slot's text is no flag, and is read as it stands
pub slot_text : (text : List ℕ) (n : ℕ) → IsSlotText text n → HasNoMinus text
slot_text text n number = no_minus text number.reads.0.0

-- a slot's text passes the parser of slots
pub slot_accepted : (text : List ℕ) (n : ℕ) → IsSlotText text n → accepts false (Signed (pos 0) (pos 9999)) text ≡ true
slot_accepted text n number =
    let signless = (slot_text text n number).signless in
    let value : n ≡ digits_value 10 (without_leading_plus text) = number.reads.1 in
    let most = number.most in
    let reads : IsSignedIn (pos 0) (pos 9999) text = rw signless (number.reads.0.0, omega (arith, ints), omega (arith, ints), omega (arith, ints)) in
    Accepts-accepts false (Signed (pos 0) (pos 9999)) text reads
