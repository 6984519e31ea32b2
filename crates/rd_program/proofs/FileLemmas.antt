-- What is given of a file of the machine, by the words.
use Rattle.std.proofs.Common.{◌≡◌, Bool, ℕ, List, Err, IsTrue, Ok, OnOk, Option, Result, IfSome, inr, subst, sym, ◌∙◌}
use Rattle.rd_commands.specs.Helps.{RefusesHelp}
use Rattle.rd_commands.specs.declared.refusal.Refusal.TheVariants.{Device}
use Rattle.rd_commands.specs.Output.{AppendsPart, IsFlushed}
use Rattle.rd_commands.specs.RefusalLines.{Tells}

-- what is so of the bytes that a machine gives is so of those that it shows
pub shown_as : (shown given : List ℕ → Option (List ℕ)) (path : List ℕ) (P : List ℕ → Type 0) → shown ≡ given → IfSome (given path) P → IfSome (shown path) P
shown_as shown given path P same fact = subst (λ (files : List ℕ → Option (List ℕ)). IfSome (files path) P) (sym same) fact

-- a help that a device cut off, under another name
pub help_refused : (status : ℕ) (out written errors reported : Option (List ℕ)) (help same : List ℕ) → help ≡ same
    → (status ≡ 3) × Tells (λ refusal. (refusal ≡ Device) × AppendsPart out written help) 3 errors reported
    → Tells (RefusesHelp same out written) status errors reported
help_refused status out written errors reported help same is due = record {
  refusal = due.1.refusal;
  why = subst (RefusesHelp same out written) (sym due.1.why.0) (subst (AppendsPart out written) is due.1.why.1);
  has_status = due.1.has_status ∙ sym due.0;
  line = due.1.line;
}

-- what was flushed at the end was flushed
pub flushed_once : {T E : Type 0} (flushed : Option (List ℕ) → Bool) (out written : Option (List ℕ)) (r : Result T E) → OnOk r (IsTrue (flushed written))
    → OnOk r (IsFlushed flushed out written)
flushed_once flushed out written (Ok value) is = inr is
flushed_once flushed out written (Err error) is = tt
