-- What is written of an explanation.
use Rattle.std.proofs.Common.{◌≡◌, ◌∙◌, ◌++◌, ◌∷◌, [], ℕ, List, OnErr, OnOk, Option, Result, refl, subst, sym}
use Rattle.std.specs.Io.KnownBytes.{Appends, Keeps}
use Rattle.std.proofs.KnownBytes.{Keeps-refl}
use Rattle.rd_explanations.proofs.LineLemmas.{are_lines}
use Rattle.rd_explanations.specs.Explained.{AreLines}
use Rattle.rd_commands.specs.Explaining.{GainsLines}
use Rattle.rd_commands.specs.Output.{AppendsPart}
use Rattle.rd_commands.proofs.WriterLemmas.{keeps_by_nothing, none_written, part_either}

-- nothing is no line
pub gains_none : (old new : Option (List ℕ)) → Keeps old new → GainsLines old new
gains_none old new kept = ([], are_lines [] [] refl, none_written old new [] kept)

-- whether a write failed or not, lines are written
pub gains_lines : {T E : Type 0} (r : Result T E) (old new : Option (List ℕ)) (bytes : List ℕ) → AreLines bytes → OnOk r (Appends old new bytes)
    → OnErr r (AppendsPart old new bytes) → GainsLines old new
gains_lines r old new bytes are done cut = (bytes, are, part_either r old new bytes done cut)

-- of no bytes nothing is written
pub nothing_written : (old new : Option (List ℕ)) (bytes : List ℕ) → bytes ≡ [] → AppendsPart old new bytes → Keeps old new
nothing_written old new bytes none part =
    keeps_by_nothing old old new (Keeps-refl old) (subst (Appends old new) (no_front part.part part.rest (sym none ∙ part.whole)) part.gained)
  where
    no_front : (front rest : List ℕ) → [] ≡ front ++ rest → front ≡ []
    no_front [] rest is = refl
    no_front (byte ∷ front) rest is = absurd (cc is)
