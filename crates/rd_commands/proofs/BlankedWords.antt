-- Words that are written with a blank between each.
use Rattle.std.proofs.Common.{◌≡◌, ◌∙◌, ◌++◌, ℕ, List, [], ◌∷◌, ap, append-nil, append_assoc, sym}
use Rattle.std.proofs.Output.{has_written_append, has_written_of_eq, has_written_to_eq, writes_in_calls_nil}
use Rattle.std.specs.Fmt.{HasWritten, IsPlainFormatter}
use Rattle.std.specs.Prelude.{codes}
use Rattle.std.specs.declared.fmt.Formatter.{Formatter}
use Rattle.rd_commands.specs.Printed.{blanked, joined}

module _ {W : Type 0} (took : W → List ℕ → W → Type 0) where
  -- g is f after a text that, with the words that are left, is the whole
  pub record HasWrittenBefore (f : Formatter W) (whole : List ℕ) (left : List (List ℕ)) (g : Formatter W) : Type 0 where
    pub text : List ℕ
    pub spelled : text ++ blanked left ≡ whole
    pub written : IsPlainFormatter f → HasWritten took f text g

  -- where there is no word, nothing is written
  pub no_words : (f g : Formatter W) (words left : List (List ℕ)) → f ≡ g → words ≡ [] → left ≡ [] → HasWrittenBefore f (joined words) left g
  no_words f g words left same none rest = record {
    text = [];
    spelled = ap blanked rest ∙ ap joined (sym none);
    written = λ plain. has_written_to_eq took f [] f g (sym same) (record { wrote = writes_in_calls_nil took f.writer; plain = plain });
  }

  -- the first word is written as it is
  pub first_word : (f g : Formatter W) (words left : List (List ℕ)) (word : List ℕ) → words ≡ word ∷ left → (IsPlainFormatter f → HasWritten took f word g)
      → HasWrittenBefore f (joined words) left g
  first_word f g words left word steps wrote = record { text = word; spelled = ap joined (sym steps); written = wrote }

  -- each further word is written after a blank
  pub next_word : (f g h : Formatter W) (whole : List ℕ) (left rest : List (List ℕ)) (word : List ℕ) → HasWrittenBefore f whole left g → left ≡ word ∷ rest
      → (IsPlainFormatter g → HasWritten took g (codes " " ++ word) h) → HasWrittenBefore f whole rest h
  next_word f g h whole left rest word before steps wrote = record {
    text = before.text ++ (codes " " ++ word);
    spelled = append_assoc before.text (codes " " ++ word) (blanked rest) ∙ ap (λ l. before.text ++ blanked l) (sym steps) ∙ before.spelled;
    written = λ plain. has_written_append took f before.text g (codes " " ++ word) h (before.written plain) (wrote (before.written plain).plain);
  }

  -- where no word is left, the whole is written
  pub last_word : (f g : Formatter W) (whole : List ℕ) (left : List (List ℕ)) → HasWrittenBefore f whole left g → left ≡ [] → IsPlainFormatter f
      → HasWritten took f whole g
  last_word f g whole left before none plain =
      has_written_of_eq took f before.text whole g (sym (append-nil before.text) ∙ ap (λ l. before.text ++ blanked l) (sym none) ∙ before.spelled) (before.written plain)
