use Rattle.std.proofs.Common.{◌≡◌, ◌+◌, ◌*◌, ◌%◌, ◌/◌, ℕ, ◌<◌, List, [], ◌∷◌, slice_index_or, ap, arith, true, refl, eqb, eqb-true}
use Rattle.std.proofs.lemmas.Bool.{agree_below_at}
use Rattle.rd_geometry.specs.Places.{skewed}
use Rattle.rd_geometry.proofs.cpm_disk.place_of.Goals as goal

abbrev table : List ℕ
table = 0 ∷ 6 ∷ 12 ∷ 18 ∷ 24 ∷ 4 ∷ 10 ∷ 16 ∷ 22 ∷ 2 ∷ 8 ∷ 14 ∷ 20 ∷ 1 ∷ 7 ∷ 13 ∷ 19 ∷ 25 ∷ 5 ∷ 11 ∷ 17 ∷ 23 ∷ 3 ∷ 9 ∷ 15 ∷ 21 ∷ []

-- the table has the sector at each place
table-skewed : (s : ℕ) → s < 26 → slice_index_or table s 0 ≡ skewed s
table-skewed s low =
    eqb-true _ _ (agree_below_at (λ s. eqb (slice_index_or table s 0) (skewed s)) (λ _. true) 26 s refl low)

pub returns : goal.returns
returns c = ap (λ s. 128 * (26 * (2 + c.args.n / 26) + s)) (table-skewed (c.args.n % 26) (omega arith))
