-- What a run keeps of its words and of its refusal.
use Rattle.std.proofs.Common.{◌≡◌, ◌≢◌, ◌≤◌, ℕ, IfSome, List, None, Ok, Option, Some, arith, refl, subst, suc, sym, zero}
use Rattle.std.proofs.KnownBytes.{Keeps-refl}
use Rattle.rd_commands.specs.declared.common_options.Parsed.{Parsed}
use Rattle.rd_commands.specs.declared.done.Done.{Done}
use Rattle.rd_commands.specs.declared.done.Done.TheVariants.{InPart, Whole}
use Rattle.rd_program.specs.Does.{EndsSo}

-- of nothing all holds
pub none_so : {A : Type 0} (P : A → Type 0) (kept : Option A) → kept ≡ None → IfSome kept P
none_so P (Some it) none = absurd (cc none)
none_so P None none = tt

-- what holds of what is kept
pub some_so : {A : Type 0} (P : A → Type 0) (kept : Option A) (it : A) → kept ≡ Some it → P it → IfSome kept P
some_so P kept it is holds = subst (λ o. IfSome o P) (sym is) holds

-- what was parsed is not nothing
pub is_parsed : (parsed : Parsed) (kept : Option Parsed) → kept ≡ Some parsed → kept ≡ None → ⊥
is_parsed parsed kept some none = cc (some, none)

-- the status of what was done is that of its end, and nothing is written of it
pub ends_by : (done : Done) (status : ℕ) (errors : Option (List ℕ)) → status ≤ 1 → (status ≡ 0 → done ≡ Whole) → (status ≢ 0 → done ≡ InPart) → EndsSo (Ok done) status errors errors
ends_by Whole zero errors most whole in_part = (refl, Keeps-refl errors)
ends_by Whole (suc n) errors most whole in_part = absurd (cc (in_part (λ none. omega (arith, none))))
ends_by InPart zero errors most whole in_part = absurd (cc (whole refl))
ends_by InPart (suc n) errors most whole in_part = (omega (arith, most), Keeps-refl errors)
