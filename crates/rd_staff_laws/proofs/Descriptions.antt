-- Desks that are described alike answer the staff's questions alike.
use Rattle.std.proofs.Common.{◌≡◌, ◌∙◌, ◌+◌, ◌++◌, ◌&&◌, ◌==◌, ℕ, ℤ, List, [], ◌∷◌, All, Bool, true, false, cond, T, Option, None, Some, ap, ap₂, is_lt, map, nat_cmp, option_map, refl, slice_index_or, subst, sym}
use Rattle.std.specs.FinMap.{FinMap, entries, entries_sorted, get, get-entries, insert, keys, nat_cmp-IsAntisymmetric, remove}
use Rattle.std.specs.FinMap.Entries.{below_all, find, is_sorted, same_entries}
use Rattle.std.specs.List.{AllZip, filter, fold}
use Rattle.std.specs.Ordering.{eq_by_cmp}
use Rattle.std.proofs.lemmas.Cmp.{nat_cmp_total}
use Rattle.rd_policy.specs.declared.audience.Audience.TheVariants.{Staff}
use Rattle.rd_policy.specs.declared.rule.Band.{Band}
use Rattle.rd_policy.specs.declared.rule.Band.TheVariants.{Deed as OfDeed, Takedown}
use Rattle.rd_policy.specs.declared.rule.Rule.{Rule}
use Rattle.rd_volume.specs.NeededLaw.{tell_the_same}
use Rattle.rd_volume.specs.Volumes.{AreFounds, IsSlotOfFile}
use Rattle.rd_volume.specs.declared.found.Found.{Found}
use Rattle.rd_volume.proofs.Existence.{file_at}
use Rattle.rd_volume.proofs.FoundFile.{described_slot}
use Rattle.rd_protocol.specs.Rehearsals.{IsRehearsal}
use Rattle.rd_protocol.specs.Replies.{Tells}
use Rattle.rd_protocol.specs.StaffLists.{accessions_under, check_lines, deed_line, deed_lines, has_rules, key_lines, takedown_lines}
use Rattle.rd_holdings.specs.Findings.{latest}
use Rattle.rd_holdings.specs.State.{Desk, Place, Terms, accession_of, place_cmp, place_of, registered, rules_at, rules_for, rules_with, terms_of, with_rule, without_rule}
use Rattle.rd_protocol.specs.Verdicts.{AreVerdicts, IsDecided, IsVerdictsOf}
use Rattle.rd_protocol.specs.declared.request.What.{What}
use Rattle.rd_protocol.specs.declared.request.What.TheVariants as question
use Rattle.rd_protocol.specs.declared.response.DeedLine.{DeedLine}
use Rattle.rd_protocol.specs.declared.response.Difference.{Difference}
use Rattle.rd_protocol.specs.declared.response.Response.{Response}
use Rattle.rd_protocol.specs.declared.response.Response.TheVariants as response
use Rattle.rd_protocol.specs.declared.response.TakedownLine.{TakedownLine}
use Rattle.rd_protocol.specs.declared.response.Verdicts.{Verdicts}
use Rattle.rd_holdings.specs.declared.rows.Accession.{Accession}
use Rattle.rd_holdings.specs.declared.rows.DeedRow.{DeedRow}
use Rattle.rd_holdings.specs.declared.rows.ImageRow.{ImageRow}
use Rattle.rd_staff_laws.specs.Descriptions.{AreDescribedAlike, DescriptionsDecide, DescriptionsSuffice, IsDescribedAs, IsDescribedLike, IsStaffQuestion, NeededBytesDescribe}

-- ---- the entries of images, without bytes and digests

below_registered : (n : ℕ) (es : List (ℕ × ImageRow)) → below_all nat_cmp n (map registered es) ≡ below_all nat_cmp n es
below_registered n [] = refl
below_registered n (e ∷ es) = ap (λ b. is_lt (nat_cmp n e.0) && b) (below_registered n es)

sorted_registered : (es : List (ℕ × ImageRow)) → is_sorted nat_cmp (map registered es) ≡ is_sorted nat_cmp es
sorted_registered [] = refl
sorted_registered (e ∷ es) = ap₂ (λ a b. a && b) (below_registered e.0 es) (sorted_registered es)

find_registered : (acc : ℕ) (es : List (ℕ × ImageRow)) → find nat_cmp acc (map registered es) ≡ option_map accession_of (find nat_cmp acc es)
find_registered acc [] = refl
find_registered acc (e ∷ es) = go (eq_by_cmp nat_cmp acc e.0) (find_registered acc es)
  where
    go : (b : Bool) → find nat_cmp acc (map registered es) ≡ option_map accession_of (find nat_cmp acc es)
        → cond b (Some (accession_of e.1)) (find nat_cmp acc (map registered es)) ≡ option_map accession_of (cond b (Some e.1) (find nat_cmp acc es))
    go true rest = refl
    go false rest = rest

same_registered : (one other : FinMap nat_cmp ImageRow) → ((acc : ℕ) → option_map accession_of (get one acc) ≡ option_map accession_of (get other acc))
    → map registered (entries one) ≡ map registered (entries other)
same_registered one other same =
    same_entries nat_cmp nat_cmp_total nat_cmp-IsAntisymmetric (map registered (entries one)) (map registered (entries other))
    (subst T (sym (sorted_registered (entries one))) (entries_sorted one)) (subst T (sym (sorted_registered (entries other))) (entries_sorted other))
    (λ acc.
    find_registered acc (entries one) ∙ ap (option_map accession_of) (sym (get-entries one acc)) ∙ same acc
    ∙ ap (option_map accession_of) (get-entries other acc) ∙ sym (find_registered acc (entries other)))

-- their numbers
numbers : (es : List (ℕ × ImageRow)) → map (λ e. e.0) es ≡ map (λ (a : ℕ × Accession). a.0) (map registered es)
numbers [] = refl
numbers (e ∷ es) = ap (λ more. e.0 ∷ more) (numbers es)

-- lines by their numbers alone
lines_by : {B : Type 0} (line : ℕ → B) (es : List (ℕ × ImageRow)) → map (λ e. line e.0) es ≡ map line (map (λ e. e.0) es)
lines_by line [] = refl
lines_by line (e ∷ es) = ap (λ more. line e.0 ∷ more) (lines_by line es)

-- how many came by a deed
abbrev more_under : ℕ → ℕ → ℕ × Accession → ℕ
more_under num n a = n + cond (a.1.deed == num) 1 0

counted : (num n : ℕ) (es : List (ℕ × ImageRow)) → fold (λ (m : ℕ) (e : ℕ × ImageRow). m + cond (e.1.deed == num) 1 0) n es ≡ fold (more_under num) n (map registered es)
counted num n [] = refl
counted num n (e ∷ es) = counted num (n + cond (e.1.deed == num) 1 0) es

-- ---- images that are described alike

given_alike : (one other : Option ImageRow) → AreDescribedAlike one other → option_map accession_of one ≡ option_map accession_of other
given_alike None None alike = refl
given_alike (Some one) (Some image) alike = λ i. Some (record { kind = (sym alike.kind) i; deed = (sym alike.deed) i })
given_alike None (Some image) alike = absurd alike
given_alike (Some one) None alike = absurd alike

founds_there : (one image : ImageRow) → IsDescribedAs one image → (files : List Found) → AreFounds one.kind one.bytes files → AreFounds image.kind image.bytes files
founds_there one image alike files are = subst (λ kind. AreFounds kind image.bytes files) (sym alike.kind) (record {
  each = λ k d within. (alike.files.files (slice_index_or files k d)).0 (are.each k d within);
  ascending = are.ascending;
  complete = λ k there. are.complete k ((alike.files.slots k).1 there);
})

-- ---- desks that are described alike

module _ (desk other : Desk) (like : IsDescribedLike desk other) where
  rules_same : (band : Band) (scope : ℕ) → rules_at desk band scope ≡ rules_at other band scope
  rules_same band scope = ap (λ (rules : FinMap place_cmp Terms). rules_at (record desk { rules = rules }) band scope) like.rules

  registered_same : map registered (entries desk.images) ≡ map registered (entries other.images)
  registered_same = same_registered desk.images other.images (λ acc. given_alike (get desk.images acc) (get other.images acc) (like.images acc))

  numbers_same : keys desk.images ≡ keys other.images
  numbers_same = numbers (entries desk.images) ∙ ap (map (λ (a : ℕ × Accession). a.0)) registered_same ∙ sym (numbers (entries other.images))

  -- lines that are the same at each number
  lines_same : {B : Type 0} (line another : ℕ → B) → ((n : ℕ) → line n ≡ another n) → map (λ e. line e.0) (entries desk.images) ≡ map (λ e. another e.0) (entries other.images)
  lines_same {B} line another same =
      let lines : line ≡ another = λ i n. same n i in
      lines_by line (entries desk.images) ∙ ap₂ (λ (f : ℕ → B) ns. map f ns) lines numbers_same ∙ sym (lines_by another (entries other.images))

  accessions_same : (num : ℕ) → accessions_under desk num ≡ accessions_under other num
  accessions_same num = counted num 0 (entries desk.images) ∙ ap (fold (more_under num) 0) registered_same ∙ sym (counted num 0 (entries other.images))

  deeds_same : deed_lines desk ≡ deed_lines other
  deeds_same =
      let line : (e : ℕ × DeedRow) → deed_line desk e ≡ deed_line other e =
      λ e i. record { deed = e.0; donor = e.1.donor; signed = e.1.signed; accessions = accessions_same e.0 i; rules = rules_same OfDeed e.0 i } in
      let lines : ◌≡◌ {A = ℕ × DeedRow → DeedLine} (deed_line desk) (deed_line other) = λ i e. line e i in
      ap₂ (λ (f : ℕ × DeedRow → DeedLine) es. map f es) lines (ap entries like.deeds)

  takedowns_same : takedown_lines desk ≡ takedown_lines other
  takedowns_same = ap (filter (λ (line : TakedownLine). has_rules line.rules))
      (lines_same (λ n. record { accession = n; rules = rules_at desk Takedown n }) (λ n. record { accession = n; rules = rules_at other Takedown n })
      (λ n i. record { accession = n; rules = rules_same Takedown n i }))

  keys_same : key_lines desk ≡ key_lines other
  keys_same = ap (λ keys. key_lines (record desk { keys = keys })) like.keys

  latest_same : (acc : ℕ) → latest desk acc ≡ latest other acc
  latest_same acc = ap (λ checks. latest (record desk { checks = checks }) acc) like.checks

  checks_same : check_lines desk ≡ check_lines other
  checks_same = lines_same (λ n. record { accession = n; last = latest desk n }) (λ n. record { accession = n; last = latest other n })
      (λ n i. record { accession = n; last = latest_same n i })

  -- the rules for an accession
  rules_with_same : (acc : ℕ) (one two : Option ImageRow) → AreDescribedAlike one two → rules_with desk acc one ≡ rules_with other acc two
  rules_with_same acc None None alike = refl
  rules_with_same acc (Some one) (Some image) alike =
      ap₂ (λ xs ys. xs ++ ys) (rules_same Takedown acc) (rules_same OfDeed one.deed ∙ ap (rules_at other OfDeed) (sym alike.deed))
  rules_with_same acc None (Some image) alike = absurd alike
  rules_with_same acc (Some one) None alike = absurd alike

  rules_for_same : (acc : ℕ) → rules_for desk acc ≡ rules_for other acc
  rules_for_same acc = rules_with_same acc (get desk.images acc) (get other.images acc) (like.images acc)

  -- the verdicts
  verdicts_of : (on : ℤ) (acc : ℕ) (one : Verdicts) → IsVerdictsOf desk on acc one → IsVerdictsOf other on acc one
  verdicts_of on acc one is = go (get other.images acc) refl (subst (λ (found : Option ImageRow). AreDescribedAlike found (get other.images acc)) is.standing (like.images acc))
    where
      go : (found : Option ImageRow) → get other.images acc ≡ found → AreDescribedAlike (Some is.image) found → IsVerdictsOf other on acc one
      go None stands alike = absurd alike
      go (Some image) stands alike = record {
        image = image;
        standing = stands;
        accession = is.accession;
        deed = is.deed ∙ sym alike.deed;
        kind = is.kind ∙ sym alike.kind;
        files = record {
          all = founds_there is.image image alike (map (λ file. file.file) one.files) is.files.all;
          decided = subst (λ rules. All (IsDecided rules on) one.files) (rules_for_same acc) is.files.decided;
        };
      }

  verdicts_each : (on : ℤ) (accs : List ℕ) (all : List Verdicts) → AllZip (IsVerdictsOf desk on) accs all → AllZip (IsVerdictsOf other on) accs all
  verdicts_each on [] [] zip = tt
  verdicts_each on [] (one ∷ all) zip = absurd zip
  verdicts_each on (acc ∷ accs) [] zip = absurd zip
  verdicts_each on (acc ∷ accs) (one ∷ all) zip = (verdicts_of on acc one zip.0, verdicts_each on accs all zip.1)

  verdicts_same : (on : ℤ) (all : List Verdicts) → AreVerdicts desk on all → AreVerdicts other on all
  verdicts_same on all are = subst (λ accs. AllZip (IsVerdictsOf other on) accs all) numbers_same (verdicts_each on (keys desk.images) all are)

  -- desks that are described alike are so after a command on a rule
  like_with : (place : Place) (terms : Terms) → IsDescribedLike (with_rule place terms desk) (with_rule place terms other)
  like_with place terms = record {
    deeds = like.deeds;
    rules = ap (λ (rules : FinMap place_cmp Terms). insert rules place terms) like.rules;
    keys = like.keys;
    checks = like.checks;
    images = like.images;
  }

  like_without : (place : Place) → IsDescribedLike (without_rule place desk) (without_rule place other)
  like_without place = record {
    deeds = like.deeds;
    rules = ap (λ (rules : FinMap place_cmp Terms). remove rules place) like.rules;
    keys = like.keys;
    checks = like.checks;
    images = like.images;
  }

rehearsal_same : (desk other after later : Desk) → IsDescribedLike desk other → IsDescribedLike after later → (on : ℤ) (differences : List Difference)
    → IsRehearsal desk after on differences → IsRehearsal other later on differences
rehearsal_same desk other after later like like_after on differences is = record {
  verdicts = is.verdicts;
  others = is.others;
  here = verdicts_same desk other like on is.verdicts is.here;
  there = verdicts_same after later like_after on is.others is.there;
  are = is.are;
}

-- ---- the answers

module _ (desk other : Desk) (like : IsDescribedLike desk other) (day : ℤ) where
  abbrev Same : What → Response → Type 0
  Same what answer = Tells desk Staff day None answer what → Tells other Staff day None answer what

  same_deeds : (answer : Response) → Same question.Deeds answer
  same_deeds (response.Deeds lines) is = is ∙ deeds_same desk other like
  same_deeds answer is = absurd is

  same_takedowns : (answer : Response) → Same question.Takedowns answer
  same_takedowns (response.Takedowns lines) is = is ∙ takedowns_same desk other like
  same_takedowns answer is = absurd is

  same_keys : (answer : Response) → Same question.Keys answer
  same_keys (response.Keys lines) is = is ∙ keys_same desk other like
  same_keys answer is = absurd is

  same_checks : (answer : Response) → Same question.Checks answer
  same_checks (response.Checks lines) is = is ∙ checks_same desk other like
  same_checks answer is = absurd is

  same_today : (answer : Response) → Same question.Today answer
  same_today (response.Today told) is = is
  same_today answer is = absurd is

  same_verdicts : (on : ℤ) (answer : Response) → Same (question.Verdicts on) answer
  same_verdicts on (response.Verdicts verdicts) is = verdicts_same desk other like on verdicts is
  same_verdicts on answer is = absurd is

  same_verdicts_of : (on : ℤ) (acc : ℕ) (answer : Response) → Same (question.VerdictsOf on acc) answer
  same_verdicts_of on acc (response.Verdicts verdicts) is = verdicts_each desk other like on (acc ∷ []) verdicts is
  same_verdicts_of on acc answer is = absurd is

  same_rehearsed_rule : (on : ℤ) (rule : Rule) (answer : Response) → Same (question.RehearseRule on rule) answer
  same_rehearsed_rule on rule (response.Rehearsed differences) is =
      rehearsal_same desk other (with_rule (place_of rule) (terms_of rule) desk) (with_rule (place_of rule) (terms_of rule) other) like
      (like_with desk other like (place_of rule) (terms_of rule)) on differences is
  same_rehearsed_rule on rule answer is = absurd is

  same_rehearsed_drop : (on : ℤ) (band : Band) (scope rank : ℕ) (answer : Response) → Same (question.RehearseDrop on band scope rank) answer
  same_rehearsed_drop on band scope rank (response.Rehearsed differences) is =
      let place : Place = record { band = band; scope = scope; rank = rank } in
      rehearsal_same desk other (without_rule place desk) (without_rule place other) like (like_without desk other like place) on differences is
  same_rehearsed_drop on band scope rank answer is = absurd is

  same_answer : (what : What) → IsStaffQuestion what → (answer : Response) → Same what answer
  same_answer question.Deeds asked answer = same_deeds answer
  same_answer question.Takedowns asked answer = same_takedowns answer
  same_answer question.Keys asked answer = same_keys answer
  same_answer question.Checks asked answer = same_checks answer
  same_answer question.Today asked answer = same_today answer
  same_answer (question.Verdicts on) asked answer = same_verdicts on answer
  same_answer (question.VerdictsOf on acc) asked answer = same_verdicts_of on acc answer
  same_answer (question.RehearseRule on rule) asked answer = same_rehearsed_rule on rule answer
  same_answer (question.RehearseDrop on band scope rank) asked answer = same_rehearsed_drop on band scope rank answer
  same_answer what asked answer = absurd asked

pub descriptions_decide : DescriptionsDecide
descriptions_decide desk other like what asked day answer is = same_answer desk other like day what asked answer is

-- ---- which images have the same files

pub needed_bytes_describe : NeededBytesDescribe
needed_bytes_describe kind bytes others agrees =
    let same = tell_the_same kind bytes others [] agrees in
    record { slots = same.file; files = same.found }

pub descriptions_suffice : DescriptionsSuffice
descriptions_suffice kind bytes others first second same = record {
  slots = λ slot. (
    λ is. let it = file_at kind bytes first slot is in subst (IsSlotOfFile kind others) it.2 (described_slot kind others it.0 ((same it.0).0 it.1)),
    λ is. let it = file_at kind others second slot is in subst (IsSlotOfFile kind bytes) it.2 (described_slot kind bytes it.0 ((same it.0).1 it.1)),
  );
  files = same;
}
