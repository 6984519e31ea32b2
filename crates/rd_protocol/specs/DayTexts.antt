-- The date of a day, as a text.
use Rattle.std.specs.Prelude.{ℤ, ℕ, List, [], pos, neg_ℤ}
use Rattle.std.specs.Int.Signed.{clash_ℤ}
use Rattle.std.proofs.lemmas.Int.{by_lt_z}
use Rattle.rd_policy.proofs.Existence.{date_of}
use Rattle.rd_policy.specs.Dates.{IsDateOf}
use Rattle.rd_policy.specs.Days.{IsDay}

-- a text that is the date of the day, if the day has one
abbrev pub Dated : ℤ → Type 0
Dated day = (text : List ℕ) × (IsDay day → IsDateOf day text)

-- each day from 0001-01-01 to 9999-12-31 has a date; of any other this is the empty text
pub dated : (day : ℤ) → Dated day
dated day =
    by_lt_z {P = Dated day} day (neg_ℤ (pos 719_162))
    (λ below. ([], λ is. clash_ℤ below is.0))
    (λ above. by_lt_z {P = Dated day} (pos 2_932_896) day (λ beyond. ([], λ is. clash_ℤ beyond is.1))
    (λ within. let found = date_of day (above, within) in (found.0, λ is. found.1)))

-- the date of a day, as in 2030-01-01
abbrev pub day_text : ℤ → List ℕ
day_text day = (dated day).0
