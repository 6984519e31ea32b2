-- What a list of entries tells.
use Rattle.std.proofs.Common.{◌≡◌, ◌∙◌, List, [], ◌∷◌, ◌++◌, ap, refl}
use Rattle.rd_history.specs.Histories.{IsAsked}
use Rattle.rd_history.specs.Laws.{BasesForget, VoidsTakeBack}
use Rattle.rd_history.specs.Standings.{NOTHING, Standing, step, told, told_after}
use Rattle.rd_history.specs.declared.entry.Change.{Change}
use Rattle.rd_history.specs.declared.entry.Change.TheVariants.{Begin, Deed, Image, Rule, DropRule, Key, DropKey, Void}
use Rattle.rd_history.specs.declared.entry.Entry.{Entry}

-- entries tell on what those before them told
pub told_append : (at : Standing × Standing) (entries others : List Entry) → told_after at (entries ++ others) ≡ told_after (told_after at entries) others
told_append at [] others = refl
told_append at (entry ∷ entries) others = told_append (step entry.change at) entries others

-- before a change, and what stands after it
was : (change : Change) (at : Standing × Standing) → IsAsked change → (step change at).0 ≡ at.1
was (Begin count) at may = absurd may
was (Void cause) at may = absurd may
was (Deed num donor signed) at may = refl
was (Image acc kind deed digest) at may = refl
was (Rule rule) at may = refl
was (DropRule band scope rank) at may = refl
was (Key digest audience) at may = refl
was (DropKey digest) at may = refl

pub voids_take_back : VoidsTakeBack
voids_take_back entries entry void cause may is =
    ap (λ told. told.1) (told_append (NOTHING, NOTHING) entries (entry ∷ void ∷ []))
    ∙ ap (λ change. (step change (step entry.change (told entries))).1) is
    ∙ was entry.change (told entries) may

pub bases_forget : BasesForget
bases_forget before after entry count is =
    ap (λ told. told.1) (told_append (NOTHING, NOTHING) before (entry ∷ after))
    ∙ ap (λ change. (told_after (step change (told before)) after).1) is
