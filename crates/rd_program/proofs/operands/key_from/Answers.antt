use Rattle.std.proofs.Common.{◌≡◌, ◌∙◌, IfSome, refl, subst, sym, take}
use Rattle.rd_program.proofs.OperandLemmas.{key_at}
use Rattle.rd_program.proofs.operands.key_from.Goals as goal

pub returns-in-Some-clause-key : goal.returns-in-Some-clause-key
returns-in-Some-clause-key g c =
    key_at (g.M.Machine.seen c.args.machine.now).files (g.R.Read.remaining c.args.input.now) c.args.path.now _ c.as_slice.result.now
    (c.in-Some.ensures.taken.0 refl)
    (c.in_ok-to_vec-in-Some.ensures.items_if_clones_equal (λ x y same. same) ∙ c.in-Some.ensures.key)
    (λ dash. subst (λ b. IfSome (g.R.Read.remaining c.args.input.now) (λ all. b ≡ take 4097 all)) (sym c.as_slice.ensures.value) (c.in_ok-bytes.ensures.front dash))
    (λ other. subst (λ b. IfSome ((g.M.Machine.seen c.args.machine.now).files c.args.path.now) (λ shown. b ≡ shown)) (sym c.as_slice.ensures.value) (c.in_ok-bytes.ensures.file other))
