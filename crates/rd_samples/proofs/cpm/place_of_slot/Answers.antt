use Rattle.std.proofs.Common.{◌≡◌, ◌%◌, ◌/◌, ℕ, ◌<◌, List, [], ◌∷◌, slice_index_or, arith, true, refl, eqb, eqb-true}
use Rattle.std.proofs.lemmas.Bool.{agree_below_at}
use Rattle.rd_geometry.specs.Places.{skewed}
use Rattle.rd_samples.proofs.cpm.place_of_slot.Goals as goal

abbrev table : List ℕ
table = 0 ∷ 6 ∷ 12 ∷ 18 ∷ 24 ∷ 4 ∷ 10 ∷ 16 ∷ 22 ∷ 2 ∷ 8 ∷ 14 ∷ 20 ∷ 1 ∷ 7 ∷ 13 ∷ []

-- the table has the sector of each of the directory's units
table-skewed : (n : ℕ) → n < 16 → slice_index_or table n 0 ≡ skewed (n % 26)
table-skewed n low =
    eqb-true _ _ (agree_below_at (λ n. eqb (slice_index_or table n 0) (skewed (n % 26))) (λ _. true) 16 n refl low)

pub returns : goal.returns
returns c =
    let sector = table-skewed (c.args.slot / 4) (omega (arith, c.requires)) in omega (arith, sector, c.requires)
