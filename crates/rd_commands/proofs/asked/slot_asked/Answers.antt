use Rattle.clap.specs.Words.{found_of}
use Rattle.std.proofs.Common.{◌≡◌, ◌∙◌, IfSome, Ok, Option, Some, codes, subst, ℕ, List}
use Rattle.std.specs.Str.Parse.{ParsesUnsigned}
use Rattle.std.specs.declared.num.ParseIntError.{ParseIntError}
use Rattle.clap.proofs.WalkLemmas.{one_text-rows}
use Rattle.rd_commands.proofs.GetterLemmas.{slot_is}
use Rattle.rd_commands.proofs.Places.{slot_given}
use Rattle.rd_commands.proofs.asked.slot_asked.Goals as goal

pub returns-clause-asked : goal.returns-clause-asked
returns-clause-asked c = λ text slot there number.
    slot_is text slot c.get_one.result (c.get_one.ensures.value text (one_text-rows (found_of c.args.found.now) (codes "SLOT") ∙ there)) number

pub returns-clause-from : goal.returns-clause-from
returns-clause-from c =
    subst (λ (told : Option (List ℕ)). IfSome c.get_one.result (λ slot. (text : List ℕ) × (told ≡ Some text) × ParsesUnsigned {E = ParseIntError} 16 10 text (Ok slot)))
    (one_text-rows (found_of c.args.found.now) (codes "SLOT")) (slot_given _ c.get_one.result c.get_one.ensures.none c.get_one.ensures.value)
