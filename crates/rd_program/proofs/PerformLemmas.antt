-- What a command does by how it ends, where its part says what is so where it is done, and what is so where it is refused.
use Rattle.std.proofs.Common.{◌≡◌, ℕ, Err, IfErr, IfOk, IfSome, List, None, Ok, OnOk, Option, Result, Some, arith, subst, sym}
use Rattle.std.specs.Prelude.{MatchResult}
use Rattle.sqlite.specs.Store.{Ghosts}
use Rattle.rd_messages.specs.DoorVisits.{Coming, VisitsSoFar}
use Rattle.rd_commands.specs.Asks.{most_read}
use Rattle.rd_commands.specs.RefusalLines.{whole}
use Rattle.rd_commands.specs.declared.done.Done.{Done}
use Rattle.rd_commands.specs.declared.refusal.Refusal.{Refusal}
use Rattle.rd_commands.specs.declared.words.Ask.{Ask}
use Rattle.rd_commands.specs.declared.words.Ask.TheVariants.{Copy, Extract, File, Files, Import, Init, OneQuestion, Serve, FlaggedImport, StaffKey}
use Rattle.rd_program.specs.Does.{Does}
use Rattle.rd_program.specs.World.{World}

-- of a command that is whole where it is done
pub at_both : {T : Type 0} (ended : Result T Refusal) (result : Result Done Refusal) (P : Type 0) (Q : Refusal → Type 0) → result ≡ whole ended → OnOk ended P → IfErr ended Q
    → MatchResult result (λ done. P) Q
at_both (Ok value) result P Q is done refused = subst (λ (e : Result Done Refusal). MatchResult e (λ done. P) Q) (sym is) done
at_both (Err refusal) result P Q is done refused = subst (λ (e : Result Done Refusal). MatchResult e (λ done. P) Q) (sym is) refused

-- of one that says how much is done
pub match_both : {T : Type 0} (result : Result T Refusal) (P : T → Type 0) (Q : Refusal → Type 0) → IfOk result P → IfErr result Q → MatchResult result P Q
match_both (Ok value) P Q done refused = done
match_both (Err refusal) P Q done refused = refused

-- of one on an image, if its bytes are known
pub at_image : {T : Type 0} (image : Option (List ℕ)) (ended : Result T Refusal) (result : Result Done Refusal) (P : List ℕ → Type 0) (Q : Refusal → List ℕ → Type 0)
    → result ≡ whole ended → OnOk ended (IfSome image P) → IfErr ended (λ refusal. IfSome image (Q refusal))
    → IfSome image (λ bytes. MatchResult result (λ done. P bytes) (λ refusal. Q refusal bytes))
at_image (Some bytes) ended result P Q is done refused = at_both ended result (P bytes) (λ refusal. Q refusal bytes) is done refused
at_image None ended result P Q is done refused = tt

-- what a command does that reads no image does not depend on the input
pub other_input : {S D : Type 0} (g : Ghosts S) (told : D → Option VisitsSoFar) (coming : D → Option (List Coming)) (before after : World S D) (one other out written : Option (List ℕ))
    (ask : Ask) (result : Result Done Refusal) → most_read ask ≡ 0 → Does g told coming before after (record { input = one; out = out; written = written }) ask result
    → Does g told coming before after (record { input = other; out = out; written = written }) ask result
other_input g told coming before after one other out written (File ask) result none does = absurd (omega (arith, none))
other_input g told coming before after one other out written (Files ask) result none does = absurd (omega (arith, none))
other_input g told coming before after one other out written (Extract ask) result none does = absurd (omega (arith, none))
other_input g told coming before after one other out written (Init ask) result none does = does
other_input g told coming before after one other out written (Serve ask) result none does = does
other_input g told coming before after one other out written (Import ask) result none does = does
other_input g told coming before after one other out written (FlaggedImport ask) result none does = does
other_input g told coming before after one other out written (OneQuestion ask) result none does = does
other_input g told coming before after one other out written (StaffKey ask) result none does = does
other_input g told coming before after one other out written (Copy ask) result none does = does
