-- Answers to the staff that only read.
use Rattle.std.proofs.Common.{◌≡◌, ◌∙◌, ◌==◌, ◌+◌, ◌<◌, ◌++◌, ℕ, suc, ℤ, inl, List, [], ◌∷◌, Bool, true, false, None, Option, Result, ap, ap₂, cond, get_or, length, map, refl, sym, take}
use Rattle.std.specs.List.{count_by, filter, flat_map}
use Rattle.std.proofs.lemmas.List.{append-nil, flat_map_more, map-append, take_more}
use Rattle.std.proofs.lemmas.List.Sums.{length-filter}
use Rattle.sqlite.specs.Store.{Ghosts}
use Rattle.sqlite.specs.Held.{Held}
use Rattle.rd_policy.specs.declared.audience.Audience.TheVariants.{Staff}
use Rattle.rd_store.specs.Held.{IsOpen, Keeps, LeavesOpen, desk}
use Rattle.std.specs.FinMap.{entries}
use Rattle.rd_policy.specs.declared.rule.Band.TheVariants.{Deed, Takedown}
use Rattle.rd_protocol.specs.StaffLists.{deed_line, has_rules, takedown_line}
use Rattle.rd_holdings.specs.Findings.{latest}
use Rattle.rd_holdings.specs.State.{Desk, registered, rules_at}
use Rattle.rd_policy.specs.declared.rule.Rule.{Rule}
use Rattle.rd_protocol.specs.declared.response.CheckLine.{CheckLine}
use Rattle.rd_holdings.specs.declared.rows.Finding.{Finding}
use Rattle.rd_protocol.specs.declared.response.TakedownLine.{TakedownLine}
use Rattle.rd_holdings.specs.declared.rows.DeedRow.{DeedRow}
use Rattle.rd_protocol.specs.Judged.{IsAccepted}
use Rattle.rd_protocol.specs.declared.request.What.{What}
use Rattle.rd_protocol.specs.declared.request.What.TheVariants.{Deeds, Keys, Today}
use Rattle.rd_protocol.specs.declared.response.Response.{Response}
use Rattle.rd_holdings.specs.declared.rows.Accession.{Accession}
use Rattle.rd_holdings.specs.declared.rows.ImageRow.{ImageRow}
use Rattle.rd_protocol.proofs.StaffRefusals.{command_accepted}
use Rattle.rd_desk.specs.Calls.{Carries, ForEachCaller, IsCarriedOut}
use Rattle.rd_desk.specs.StaffLists.{accessions_in, check_line, deed_line_of, takedown_lines_at}

-- what only reads carries out what asks for no change
pub carries_read : {S X : Type 0} (g : Ghosts S) (a b : Held S) (day : ℤ) (what : What) (result : Result Response X) → Keeps g a b → LeavesOpen g b result
    → (IsOpen g b → IsCarriedOut (desk g a) day what result (desk g b)) → Carries g a b day what result
carries_read g a b day what result keeps ends judged = record {
  lasts = keeps.lasts;
  judged = judged;
  stays_open = λ _. ends;
  crash = λ o clean left here. inl (keeps.crash o clean left here);
  durable = keeps.durable;
}

pub keys_accepted : (d : Desk) → ForEachCaller d Staff Keys (λ request. IsAccepted d request None)
keys_accepted d badge known = command_accepted d (record { badge = badge; what = Keys }) tt (λ e. cc) known (λ h. h) (λ h. h) (λ h. h) (λ h. h) (λ h. h)

pub deeds_accepted : (d : Desk) → ForEachCaller d Staff Deeds (λ request. IsAccepted d request None)
deeds_accepted d badge known = command_accepted d (record { badge = badge; what = Deeds }) tt (λ e. cc) known (λ h. h) (λ h. h) (λ h. h) (λ h. h) (λ h. h)

pub today_accepted : (d : Desk) → ForEachCaller d Staff Today (λ request. IsAccepted d request None)
today_accepted d badge known = command_accepted d (record { badge = badge; what = Today }) tt (λ e. cc) known (λ h. h) (λ h. h) (λ h. h) (λ h. h) (λ h. h)

pass_alike : (num : ℕ) (es : List (ℕ × ImageRow)) → length (filter (λ (e : ℕ × Accession). e.1.deed == num) (map registered es)) ≡ length (filter (λ (e : ℕ × ImageRow). e.1.deed == num) es)
pass_alike num [] = refl
pass_alike num (e ∷ es) = go (e.1.deed == num) (pass_alike num es)
  where
    go : (b : Bool) → length (filter (λ (e : ℕ × Accession). e.1.deed == num) (map registered es)) ≡ length (filter (λ (e : ℕ × ImageRow). e.1.deed == num) es)
        → length (cond b (registered e ∷ filter (λ (e : ℕ × Accession). e.1.deed == num) (map registered es)) (filter (λ (e : ℕ × Accession). e.1.deed == num) (map registered es)))
        ≡ length (cond b (e ∷ filter (λ (e : ℕ × ImageRow). e.1.deed == num) es) (filter (λ (e : ℕ × ImageRow). e.1.deed == num) es))
    go true is = ap (λ n. suc n) is
    go false is = is

-- the register counts as the images do
pub counts_alike : (num : ℕ) (es : List (ℕ × ImageRow)) → accessions_in num (map registered es) ≡ count_by (λ e. e.1.deed == num) es
counts_alike num es = sym (length-filter (λ (e : ℕ × Accession). e.1.deed == num) (map registered es)) ∙ pass_alike num es ∙ length-filter (λ (e : ℕ × ImageRow). e.1.deed == num) es

-- lines with accessions from the register are the lines of the deeds
pub lines_alike : (d : Desk) (register : List (ℕ × Accession)) → register ≡ map registered (entries d.images) → (es : List (ℕ × DeedRow)) → map (deed_line_of d register) es ≡ map (deed_line d) es
lines_alike d register is [] = refl
lines_alike d register is (e ∷ es) =
    ap₂ (λ n more. record { deed = e.0; donor = e.1.donor; signed = e.1.signed; accessions = n; rules = rules_at d Deed e.0 } ∷ more)
    (ap (accessions_in e.0) is ∙ counts_alike e.0 (entries d.images)) (lines_alike d register is es)

-- ---- lists that a loop makes

-- one item more of a list whose items each give a list, or an item
pub gathered_at : {X A : Type 0} (f : X → List A) (xs : List X) (k : ℕ) (d : X) → k < length xs → flat_map f (take k xs) ++ f (get_or xs k d) ≡ flat_map f (take (k + 1) xs)
gathered_at f xs k d below = flat_map_more f [] (take k xs) (get_or xs k d) ∙ ap (flat_map f) (sym (take_more xs k d below))

pub mapped_at : {X A : Type 0} (f : X → A) (xs : List X) (k : ℕ) (d : X) → k < length xs → map f (take k xs) ++ f (get_or xs k d) ∷ [] ≡ map f (take (k + 1) xs)
mapped_at f xs k d below = sym (map-append f (take k xs) (get_or xs k d ∷ [])) ∙ ap (map f) (sym (take_more xs k d below))

-- ---- takedowns and checks

-- the lines of the register's accessions that have takedowns are those of the desk
pub takedowns_alike : (d : Desk) (es : List (ℕ × ImageRow)) → flat_map (λ (entry : ℕ × Accession). takedown_lines_at d entry.0) (map registered es) ≡ filter (λ line. has_rules line.rules) (map (takedown_line d) es)
takedowns_alike d [] = refl
takedowns_alike d (e ∷ es) = go (has_rules (rules_at d Takedown e.0)) (takedowns_alike d es)
  where
    go : (b : Bool) → flat_map (λ (entry : ℕ × Accession). takedown_lines_at d entry.0) (map registered es) ≡ filter (λ line. has_rules line.rules) (map (takedown_line d) es)
        → cond b (takedown_line d e ∷ []) [] ++ flat_map (λ (entry : ℕ × Accession). takedown_lines_at d entry.0) (map registered es)
        ≡ cond b (takedown_line d e ∷ filter (λ line. has_rules line.rules) (map (takedown_line d) es)) (filter (λ line. has_rules line.rules) (map (takedown_line d) es))
    go true is = ap (λ more. takedown_line d e ∷ more) is
    go false is = is

-- the lines of the register's accessions with their latest checks are those of the desk
pub checks_alike : (d : Desk) (es : List (ℕ × ImageRow)) → map (λ (entry : ℕ × Accession). check_line d entry.0) (map registered es) ≡ map (λ (e : ℕ × ImageRow). check_line d e.0) es
checks_alike d [] = refl
checks_alike d (e ∷ es) = ap (λ more. check_line d e.0 ∷ more) (checks_alike d es)

-- an accession without takedowns adds no line, and one with takedowns adds its own
pub no_takedowns : (d : Desk) (acc : ℕ) (lines : List TakedownLine) → has_rules (rules_at d Takedown acc) ≡ false → lines ≡ lines ++ takedown_lines_at d acc
no_takedowns d acc lines none = sym (ap (λ b. lines ++ cond b (record { accession = acc; rules = rules_at d Takedown acc } ∷ []) []) none ∙ append-nil lines)

pub some_takedowns : (d : Desk) (acc : ℕ) (lines : List TakedownLine) (rules : List Rule) → has_rules (rules_at d Takedown acc) ≡ true → rules ≡ rules_at d Takedown acc
    → lines ++ (record { accession = acc; rules = rules }) ∷ [] ≡ lines ++ takedown_lines_at d acc
some_takedowns d acc lines rules some are =
    ap (λ rs. lines ++ (record { accession = acc; rules = rs }) ∷ []) are ∙ sym (ap (λ b. lines ++ cond b (record { accession = acc; rules = rules_at d Takedown acc } ∷ []) []) some)

-- ---- one accession of the register more

-- the takedowns of one accession more
pub takedowns_more : (d e : Desk) (xs : List (ℕ × Accession)) (k : ℕ) (at : ℕ × Accession) (old new : List TakedownLine) → new ≡ old ++ takedown_lines_at e (get_or xs k at).0 → e ≡ d → k < length xs
    → old ≡ flat_map (λ (entry : ℕ × Accession). takedown_lines_at d entry.0) (take k xs) → new ≡ flat_map (λ (entry : ℕ × Accession). takedown_lines_at d entry.0) (take (k + 1) xs)
takedowns_more d e xs k at old new adds same below before =
    adds ∙ ap₂ (λ (lines : List TakedownLine) (f : Desk). lines ++ takedown_lines_at f (get_or xs k at).0) before same ∙ gathered_at (λ (entry : ℕ × Accession). takedown_lines_at d entry.0) xs k at below

-- the check of one accession more
pub checks_more : (d e : Desk) (xs : List (ℕ × Accession)) (k : ℕ) (at : ℕ × Accession) (last : Option Finding) (old new : List CheckLine) → new ≡ old ++ (record { accession = (get_or xs k at).0; last = last }) ∷ []
    → last ≡ latest e (get_or xs k at).0 → e ≡ d → k < length xs → old ≡ map (λ (entry : ℕ × Accession). check_line d entry.0) (take k xs)
    → new ≡ map (λ (entry : ℕ × Accession). check_line d entry.0) (take (k + 1) xs)
checks_more d e xs k at last old new adds found same below before =
    adds ∙ ap₂ (λ (lines : List CheckLine) (finding : Option Finding). lines ++ (record { accession = (get_or xs k at).0; last = finding }) ∷ []) before (found ∙ ap (λ (f : Desk). latest f (get_or xs k at).0) same)
    ∙ mapped_at (λ (entry : ℕ × Accession). check_line d entry.0) xs k at below
