-- How `init`, `staff-key` and `copy` end: the line that says that it is done is written at the end, and no other.
use Rattle.std.proofs.Common.{◌≡◌, ℕ, Err, IfErr, List, Ok, OnErr, OnOk, Option, Result, inl, inr, subst, sym}
use Rattle.std.proofs.KnownBytes.{Keeps-refl}
use Rattle.rd_commands.specs.declared.refusal.Refusal.{Refusal}
use Rattle.rd_commands.specs.declared.refusal.Refusal.TheVariants.{Device}
use Rattle.rd_program.specs.Inits.{IsInitRefusal, RefusesInit}

-- both hold at a success
pub on_both : {T E : Type 0} (r : Result T E) (P Q : Type 0) → OnOk r P → OnOk r Q → OnOk r (P × Q)
on_both (Ok value) P Q first second = (first, second)
on_both (Err error) P Q first second = tt

-- both hold of an error
pub at_err_both : {T E : Type 0} (r : Result T E) (P Q : E → Type 0) → IfErr r P → IfErr r Q → IfErr r (λ e. P e × Q e)
at_err_both (Ok value) P Q first second = tt
at_err_both (Err error) P Q first second = (first, second)

-- what holds of any success
pub on_ok : {T E : Type 0} (r : Result T E) (P : Type 0) → P → OnOk r P
on_ok (Ok value) P holds = holds
on_ok (Err error) P holds = tt

-- only the device fails
pub of_device : {T : Type 0} (r : Result T Refusal) (P : Refusal → Type 0) → IfErr r (λ refusal. refusal ≡ Device) → OnErr r (P Device) → IfErr r P
of_device (Ok value) P is holds = tt
of_device (Err refusal) P is holds = subst P (sym is) holds

-- no desk is made, and nothing written
pub not_inited : (refusal : Refusal) (out : Option (List ℕ)) → IsInitRefusal refusal → RefusesInit refusal out out
not_inited Device out (inl is) = cc is
not_inited Device out (inr (inl is)) = cc is
not_inited Device out (inr (inr is)) = cc is
not_inited refusal out why = (Keeps-refl out, why)
