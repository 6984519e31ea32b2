-- Accessions in batches: each stands as it is told, and their numbers are those of the desk in turn.
use Rattle.std.proofs.Common.{◌≡◌, ◌∙◌, ◌+◌, ◌≤◌, ℕ, ℤ, List, [], ◌∷◌, ◌++◌, All, Some, ap, ap₂, append_assoc, arith, drop, length, map, refl, sym, take, take-add, take_all}
use Rattle.std.specs.FinMap.{entries, entries_sorted, get, get-entries, keys}
use Rattle.std.specs.FinMap.Entries.{find}
use Rattle.std.specs.List.{AllZip}
use Rattle.std.specs.Ordering.{nat_cmp}
use Rattle.std.proofs.lemmas.List.{length-map, map-append}
use Rattle.std.proofs.lemmas.List.Elements.{All-cons, All-drop, All-head, All-tail, All-take}
use Rattle.rd_store.specs.Batched.{IsIndexed}
use Rattle.rd_holdings.specs.State.{Desk}
use Rattle.rd_holdings.specs.declared.rows.ImageRow.{ImageRow}
use Rattle.rd_holdings.specs.declared.rows.Indexed.{Indexed}
use Rattle.rd_protocol.specs.Verdicts.{IsVerdictsOf}
use Rattle.rd_protocol.specs.declared.response.Verdicts.{Verdicts}
use Rattle.rd_desk.specs.Calls.{StandsAs}
use Rattle.rd_protocol.proofs.Numbers.{each_found}

abbrev Entries : Type 0
Entries = List (ℕ × ImageRow)

-- the numbers of a batch
abbrev pub numbers_of : List Indexed → List ℕ
numbers_of batch = map (λ one. one.acc) batch

abbrev accs_of : Entries → List ℕ
accs_of es = map (λ e. e.0) es

numbers : (es : Entries) (batch : List Indexed) → AllZip IsIndexed es batch → numbers_of batch ≡ accs_of es
numbers [] [] zip = refl
numbers [] (one ∷ batch) zip = absurd zip
numbers (e ∷ es) [] zip = absurd zip
numbers (e ∷ es) (one ∷ batch) zip = ap₂ (λ n ns. n ∷ ns) zip.0.acc (numbers es batch zip.1)

module _ (desk : Desk) where
  abbrev Got : ℕ × ImageRow → Type 0
  Got e = find nat_cmp e.0 (entries desk.images) ≡ Some e.1

  stand : (es : Entries) (batch : List Indexed) → All Got es → AllZip IsIndexed es batch → All (StandsAs desk) batch
  stand [] [] all zip = λ k d within. absurd (omega (arith, within))
  stand [] (one ∷ batch) all zip = absurd zip
  stand (e ∷ es) [] all zip = absurd zip
  stand (e ∷ es) (one ∷ batch) all zip =
      let is = zip.0 in
      let there : get desk.images one.acc ≡ Some e.1 = ap (get desk.images) is.acc ∙ get-entries desk.images e.0 ∙ All-head Got e es all in
      All-cons (StandsAs desk) one batch (e.1, there, record { acc = refl; kind = is.kind; deed = is.deed; files = is.files }) (stand es batch (All-tail Got e es all) zip.1)

  -- each accession of a batch stands
  pub batch_stands : (from most : ℕ) (batch : List Indexed) → AllZip IsIndexed (take most (drop from (entries desk.images))) batch → All (StandsAs desk) batch
  batch_stands from most batch zip =
      stand (take most (drop from (entries desk.images))) batch (All-take Got most (drop from (entries desk.images)) (All-drop Got from (entries desk.images) (each_found (entries desk.images) (entries_sorted desk.images)))) zip

  -- the numbers of the accessions before a place
  abbrev pub accs_before : ℕ → List ℕ
  accs_before n = accs_of (take n (entries desk.images))

  -- a batch goes on where those before it end
  pub batch_next : (from most : ℕ) (batch : List Indexed) → AllZip IsIndexed (take most (drop from (entries desk.images))) batch → accs_before from ++ numbers_of batch ≡ accs_before (from + most)
  batch_next from most batch zip =
      let es = entries desk.images in
      ap (λ more. accs_before from ++ more) (numbers (take most (drop from es)) batch zip)
      ∙ sym (map-append (λ (e : ℕ × ImageRow). e.0) (take from es) (take most (drop from es)))
      ∙ ap accs_of (sym (take-add from most es))

  -- and the last batch ends with all accessions
  pub batches_end : (n : ℕ) → length (keys desk.images) ≤ n → accs_before n ≡ keys desk.images
  batches_end n whole = ap accs_of (take_all n (entries desk.images) (omega (arith, whole, length-map (entries desk.images) (λ (e : ℕ × ImageRow). e.0))))

-- ---- one accession more

-- the last of some accessions stands, and so do those before it
pub all_before : (P : Indexed → Type 0) (batch : List Indexed) (one : Indexed) → All P (batch ++ one ∷ []) → All P batch
all_before P [] one all = λ k d within. absurd (omega (arith, within))
all_before P (first ∷ batch) one all = All-cons P first batch (All-head P first (batch ++ one ∷ []) all) (all_before P batch one (All-tail P first (batch ++ one ∷ []) all))

pub all_last : (P : Indexed → Type 0) (batch : List Indexed) (one : Indexed) → All P (batch ++ one ∷ []) → P one
all_last P [] one all = All-head P one [] all
all_last P (first ∷ batch) one all = all_last P batch one (All-tail P first (batch ++ one ∷ []) all)

-- its number comes last
pub numbers_more : (accs : List ℕ) (batch : List Indexed) (one : Indexed) → accs ++ numbers_of (batch ++ one ∷ []) ≡ (accs ++ numbers_of batch) ++ one.acc ∷ []
numbers_more accs batch one = ap (λ more. accs ++ more) (map-append (λ (o : Indexed). o.acc) batch (one ∷ [])) ∙ sym (append_assoc accs (numbers_of batch) (one.acc ∷ []))

-- ---- verdicts

-- the verdicts on one accession more
pub verdicts_more : (desk : Desk) (day : ℤ) (accs : List ℕ) (all : List Verdicts) (acc : ℕ) (verdicts : Verdicts) → AllZip (IsVerdictsOf desk day) accs all → IsVerdictsOf desk day acc verdicts
    → AllZip (IsVerdictsOf desk day) (accs ++ acc ∷ []) (all ++ verdicts ∷ [])
verdicts_more desk day [] [] acc verdicts none is = (is, tt)
verdicts_more desk day [] (first ∷ all) acc verdicts none is = absurd none
verdicts_more desk day (first ∷ accs) [] acc verdicts none is = absurd none
verdicts_more desk day (first ∷ accs) (one ∷ all) acc verdicts (here, more) is = (here, verdicts_more desk day accs all acc verdicts more is)
