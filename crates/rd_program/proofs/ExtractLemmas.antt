-- The files of an image in a folder, by what is asked for.
use Rattle.std.proofs.Common.{◌≡◌, ◌≢◌, ◌⊎◌, IfErr, Result, Ok, Err, arith, inl, inr, subst, sym}
use Rattle.rd_commands.specs.Asks.{IsExtraction, TellsInRows}
use Rattle.rd_commands.specs.Refusals.{status_of}
use Rattle.rd_commands.specs.declared.refusal.Refusal.{Refusal}
use Rattle.rd_commands.specs.declared.words.Ask.{Ask}
use Rattle.rd_program.specs.Extracting.{IsFilesRefusal}

-- a refusal of it is no mistake in the words
pub files_never : (refusal : Refusal) → IsFilesRefusal refusal → status_of refusal ≢ 2
files_never refusal (inl size) = subst (λ r. status_of r ≢ 2) (sym size) (λ two. omega arith)
files_never refusal (inr (inl exists)) = subst (λ r. status_of r ≢ 2) (sym exists) (λ two. omega arith)
files_never refusal (inr (inr (inl device))) = subst (λ r. status_of r ≢ 2) (sym device) (λ two. omega arith)
files_never refusal (inr (inr (inr memory))) = subst (λ r. status_of r ≢ 2) (sym memory) (λ two. omega arith)

-- at 1 it may have written lines
pub files_kept : {T : Type 0} (ended : Result T Refusal) (Kept : Type 0) (ask : Ask) → IsExtraction ask
    → IfErr ended (λ refusal. status_of refusal ≡ 1 → Kept ⊎ (TellsInRows ask ⊎ IsExtraction ask))
files_kept (Ok value) Kept ask is = tt
files_kept (Err refusal) Kept ask is = λ one. inr (inr is)
