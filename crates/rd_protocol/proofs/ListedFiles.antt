-- The files that are listed, one after the other, and as a whole.
use Rattle.std.proofs.Common.{◌≡◌, ◌≢◌, inl, inr, ◌<◌, ℤ, ℕ, zero, suc, List, [], ◌∷◌, ◌++◌, All, AllPairs, Contains, map, length, refl, Some, ap, ap₂, arith, ◌∙◌, slice_index_or, subst, sym}
use Rattle.std.proofs.lemmas.List.{get_or-map, length-map}
use Rattle.std.proofs.lemmas.List.Elements.{All-cons, All-head, All-tail}
use Rattle.std.proofs.lemmas.List.Kept.{AllPairs-cons}
use Rattle.std.specs.FinMap.{get, keys}
use Rattle.rd_geometry.specs.declared.kind.Kind.{Kind}
use Rattle.rd_policy.specs.Verdicts.{AreInOrder, IsVerdict}
use Rattle.rd_policy.proofs.OrderLemmas.{one_verdict}
use Rattle.rd_policy.specs.declared.audience.Audience.{Audience}
use Rattle.rd_policy.specs.declared.rule.Effect.TheVariants.{Deny}
use Rattle.rd_policy.specs.declared.rule.Rule.{Rule}
use Rattle.rd_policy.specs.declared.verdict.Verdict.{Verdict}
use Rattle.rd_volume.specs.Volumes.{AreFounds, IsFound}
use Rattle.rd_volume.specs.declared.found.Found.{Found}
use Rattle.rd_volume.proofs.OneFound.{one_found}
use Rattle.rd_volume.proofs.FoundFile.{described_slot}
use Rattle.rd_holdings.specs.declared.rows.ImageRow.{ImageRow}
use Rattle.rd_holdings.specs.State.{Desk, rules_for}
use Rattle.rd_protocol.specs.Queries.{AreLinesOf, AreLinesOfEach, IsCounted}
use Rattle.rd_protocol.specs.Replies.{AreImageLines, AreLines, IsImageLine}
use Rattle.rd_protocol.specs.declared.response.ImageLine.{ImageLine}
use Rattle.rd_protocol.proofs.Numbers.{among_keys, keys_ascend}
use Rattle.rd_protocol.proofs.OneAnswer.{one_lines}
use Rattle.rd_protocol.specs.declared.response.Line.{Line}

module _ (rules : List Rule) (audience : Audience) (day : ℤ) where
  abbrev line_of : Found → Verdict → Line
  line_of file verdict = record { file = file; verdict = verdict }

  abbrev Of : List Found → List Line → Type 0
  Of = AreLinesOf rules audience day

  -- after the files so far comes one that is listed
  pub one_more : (files : List Found) (lines : List Line) (file : Found) (verdict : Verdict) → Of files lines
      → IsVerdict (Contains rules) audience day file verdict → verdict.effect ≢ Deny
      → Of (files ++ file ∷ []) (lines ++ line_of file verdict ∷ [])
  one_more [] lines file verdict none decided shown = (verdict, [], decided, refl, inl (shown, ap (λ l. l ++ line_of file verdict ∷ []) none))
  one_more (first ∷ files) lines file verdict (before, rest, of_first, more, inl (listed, is)) decided shown = (
    before,
    rest ++ line_of file verdict ∷ [],
    of_first,
    one_more files rest file verdict more decided shown,
    inl (listed, ap (λ l. l ++ line_of file verdict ∷ []) is),
  )
  one_more (first ∷ files) lines file verdict (before, rest, of_first, more, inr (denied, is)) decided shown = (
    before,
    rest ++ line_of file verdict ∷ [],
    of_first,
    one_more files rest file verdict more decided shown,
    inr (denied, ap (λ l. l ++ line_of file verdict ∷ []) is),
  )

  -- or one that is denied
  pub none_more : (files : List Found) (lines : List Line) (file : Found) (verdict : Verdict) → Of files lines
      → IsVerdict (Contains rules) audience day file verdict → verdict.effect ≡ Deny
      → Of (files ++ file ∷ []) lines
  none_more [] lines file verdict none decided denied = (verdict, [], decided, refl, inr (denied, none))
  none_more (first ∷ files) lines file verdict (before, rest, of_first, more, is) decided denied =
      (before, rest, of_first, none_more files rest file verdict more decided denied, is)

-- what holds of each of the files holds of each of the lines
each_line : (rules : List Rule) (audience : Audience) (day : ℤ) (P : Found → Type 0) (files : List Found) (lines : List Line) → All P files → AreLinesOf rules audience day files lines
    → All (λ line. P line.file × IsVerdict (Contains rules) audience day line.file line.verdict × (line.verdict.effect ≢ Deny)) lines
each_line rules audience day P [] lines all none = rw none (λ k d within. absurd (omega (arith, within)))
each_line rules audience day P (file ∷ files) lines all (verdict, rest, decided, more, inl (shown, is)) =
    let Q : Line → Type 0 = λ line. P line.file × IsVerdict (Contains rules) audience day line.file line.verdict × (line.verdict.effect ≢ Deny) in
    subst (All Q) (sym is)
    (All-cons Q (record { file = file; verdict = verdict }) rest (All-head P file files all, decided, shown)
    (each_line rules audience day P files rest (All-tail P file files all) more))
each_line rules audience day P (file ∷ files) lines all (verdict, rest, decided, more, inr (denied, is)) =
    let Q : Line → Type 0 = λ line. P line.file × IsVerdict (Contains rules) audience day line.file line.verdict × (line.verdict.effect ≢ Deny) in
    subst (All Q) (sym is) (each_line rules audience day P files rest (All-tail P file files all) more)

-- the lines ascend as the files do
lines_ascend : (rules : List Rule) (audience : Audience) (day : ℤ) (files : List Found) (lines : List Line) → AllPairs (λ f g. f.slot < g.slot) files
    → AreLinesOf rules audience day files lines → AllPairs (λ one other. one.file.slot < other.file.slot) lines
lines_ascend rules audience day [] lines ascend none = rw none (λ k j d before within. absurd (omega (arith, within)))
lines_ascend rules audience day (file ∷ files) lines ascend (verdict, rest, decided, more, is) =
    let after : AllPairs (λ f g. f.slot < g.slot) files = λ k j d before within. ascend (suc k) (suc j) d (omega (arith, before)) (omega (arith, within)) in
    let above : All (λ (f : Found). file.slot < f.slot) files = λ k d within. ascend 0 (suc k) d (omega arith) (omega (arith, within)) in
    let later : AllPairs (λ one other. one.file.slot < other.file.slot) rest = lines_ascend rules audience day files rest after more in
    let all : All (λ line. (file.slot < line.file.slot) × IsVerdict (Contains rules) audience day line.file line.verdict × (line.verdict.effect ≢ Deny)) rest =
    each_line rules audience day (λ f. file.slot < f.slot) files rest above more in
    elim is [
      | inl shown ↦ subst (AllPairs (λ one other. one.file.slot < other.file.slot)) (sym shown.1)
          (AllPairs-cons (λ (one other : Line). one.file.slot < other.file.slot) (record { file = file; verdict = verdict }) rest (λ k d within. (all k d within).0) later)
      | inr denied ↦ subst (AllPairs (λ one other. one.file.slot < other.file.slot)) (sym denied.1) later
    ]

-- a file that is among the files and is not denied is among the lines
lines_have : (rules : List Rule) (audience : Audience) (day : ℤ) (files : List Found) (lines : List Line) (line : Line) → AreInOrder rules → AreLinesOf rules audience day files lines
    → Contains files line.file → IsVerdict (Contains rules) audience day line.file line.verdict → line.verdict.effect ≢ Deny → Contains lines line
lines_have rules audience day [] lines line order of (k, within, is) decided shown = absurd (let low : k < 0 = within in omega (arith, low))
lines_have rules audience day (file ∷ files) lines line order (verdict, rest, on_file, more, inl (kept, is)) (zero, within, same) decided shown =
    let judged : verdict ≡ line.verdict = one_verdict rules audience day line.file verdict line.verdict order (subst (λ f. IsVerdict (Contains rules) audience day f verdict) same on_file) decided in
    subst (λ all. Contains all line) (sym is) (zero, omega arith, ap₂ (λ f v. record { file = f; verdict = v }) same judged)
lines_have rules audience day (file ∷ files) lines line order (verdict, rest, on_file, more, inr (denied, is)) (zero, within, same) decided shown =
    let judged : verdict ≡ line.verdict = one_verdict rules audience day line.file verdict line.verdict order (subst (λ f. IsVerdict (Contains rules) audience day f verdict) same on_file) decided in
    absurd (shown (ap (λ (v : Verdict). v.effect) (sym judged) ∙ denied))
lines_have rules audience day (file ∷ files) lines line order (verdict, rest, on_file, more, is) (suc k, within, same) decided shown =
    let there : Contains rest line = lines_have rules audience day files rest line order more (k, omega (arith, within), same) decided shown in
    elim is [
      | inl kept ↦ subst (λ all. Contains all line) (sym kept.1) (suc there.0, (let low : there.0 < length rest = there.1 in omega (arith, low)), there.2)
      | inr denied ↦ subst (λ all. Contains all line) (sym denied.1) there
    ]

-- a file that is told is among the files of its image
pub among_founds : (kind : Kind) (bytes : List ℕ) (files : List Found) (file : Found) → AreFounds kind bytes files → IsFound kind bytes file → Contains files file
among_founds kind bytes files file are described =
    let there : Contains (map (λ (f : Found). f.slot) files) file.slot = are.complete file.slot (described_slot kind bytes file described) in
    let within : there.0 < length files = simp length-map at there.1 in
    let slot : (slice_index_or files there.0 file).slot ≡ file.slot = sym (get_or-map (λ (f : Found). f.slot) files there.0 file file.slot within) ∙ there.2 in
    (there.0, within, one_found kind bytes (slice_index_or files there.0 file) file (are.each there.0 file within) described slot)

-- the files of an image that are listed
pub lines_are : (image : ImageRow) (rules : List Rule) (audience : Audience) (day : ℤ) (files : List Found) (lines : List Line) → AreInOrder rules
    → AreFounds image.kind image.bytes files → AreLinesOf rules audience day files lines → AreLines image rules audience day lines
lines_are image rules audience day files lines order founds of =
    let all : All (λ line. IsFound image.kind image.bytes line.file × IsVerdict (Contains rules) audience day line.file line.verdict × (line.verdict.effect ≢ Deny)) lines =
    each_line rules audience day (IsFound image.kind image.bytes) files lines founds.each of in
    record {
      each = λ k d within. let it = all k d within in record { described = it.0; decided = it.1; shown = it.2 };
      ascending = lines_ascend rules audience day files lines founds.ascending of;
      complete = λ line is. lines_have rules audience day files lines line order of (among_founds image.kind image.bytes files line.file founds is.described) is.decided is.shown;
    }

module _ (desk : Desk) (audience : Audience) (day : ℤ) where
  -- one accession more, of which a file is listed
  pub image_more : (accs : List ℕ) (lines : List ImageLine) (acc : ℕ) (line : ImageLine) → AreLinesOfEach desk audience day accs lines
      → IsCounted desk audience day acc line → line.files ≢ 0 → AreLinesOfEach desk audience day (accs ++ acc ∷ []) (lines ++ line ∷ [])
  image_more [] lines acc line none counted some = (line, [], counted, refl, inl (some, ap (λ l. l ++ line ∷ []) none))
  image_more (first ∷ accs) lines acc line (before, rest, of_first, more, inl (kept, is)) counted some =
      (before, rest ++ line ∷ [], of_first, image_more accs rest acc line more counted some, inl (kept, ap (λ l. l ++ line ∷ []) is))
  image_more (first ∷ accs) lines acc line (before, rest, of_first, more, inr (none, is)) counted some =
      (before, rest ++ line ∷ [], of_first, image_more accs rest acc line more counted some, inr (none, ap (λ l. l ++ line ∷ []) is))

  -- one accession more, of which nothing is listed
  pub nothing_more : (accs : List ℕ) (lines : List ImageLine) (acc : ℕ) (line : ImageLine) → AreLinesOfEach desk audience day accs lines
      → IsCounted desk audience day acc line → line.files ≡ 0 → AreLinesOfEach desk audience day (accs ++ acc ∷ []) lines
  nothing_more [] lines acc line none counted nothing = (line, [], counted, refl, inr (nothing, none))
  nothing_more (first ∷ accs) lines acc line (before, rest, of_first, more, is) counted nothing =
      (before, rest, of_first, nothing_more accs rest acc line more counted nothing, is)

  abbrev Shown : ImageLine → Type 0
  Shown = IsImageLine desk audience day

  -- an accession that is counted is told as it is
  is_image_line : (acc : ℕ) (line : ImageLine) → IsCounted desk audience day acc line → line.files ≢ 0 → Shown line
  is_image_line acc line counted some =
      let here : line.accession ≡ acc = ap (λ (l : ImageLine). l.accession) counted.is in
      record {
        image = counted.image;
        lines = counted.lines;
        standing = subst (λ n. get desk.images n ≡ Some counted.image) (sym here) counted.standing;
        deed = ap (λ (l : ImageLine). l.deed) counted.is;
        kind = ap (λ (l : ImageLine). l.kind) counted.is;
        listed = subst (λ n. AreLines counted.image (rules_for desk n) audience day counted.lines) (sym here) counted.listed;
        count = ap (λ (l : ImageLine). l.files) counted.is;
        some = some;
      }

  -- what is told of an accession is told in one way
  one_counted : (acc : ℕ) (line other : ImageLine) → IsCounted desk audience day acc line → Shown other → acc ≡ other.accession → line ≡ other
  one_counted acc line other counted shown here =
      let standing : get desk.images acc ≡ Some shown.image = subst (λ n. get desk.images n ≡ Some shown.image) (sym here) shown.standing in
      let image : counted.image ≡ shown.image = same_image counted.image shown.image counted.standing standing in
      let listed : AreLines counted.image (rules_for desk acc) audience day shown.lines =
      subst (λ i. AreLines i (rules_for desk acc) audience day shown.lines) (sym image) (subst (λ n. AreLines shown.image (rules_for desk n) audience day shown.lines) (sym here) shown.listed) in
      let lines : counted.lines ≡ shown.lines = one_lines audience day counted.image (rules_for desk acc) counted.lines shown.lines counted.listed listed in
      counted.is
      ∙ rw (here, image, lines) (sym (rw (shown.deed, shown.kind, shown.count) refl))
    where
      same_image : (one two : ImageRow) → get desk.images acc ≡ Some one → get desk.images acc ≡ Some two → one ≡ two
      same_image one two a b = cc

  images_each : (accs : List ℕ) (lines : List ImageLine) → AreLinesOfEach desk audience day accs lines → All Shown lines
  images_each [] lines none = rw none (λ k d within. absurd (omega (arith, within)))
  images_each (acc ∷ accs) lines (line, rest, counted, more, inl (some, is)) =
      subst (All Shown) (sym is) (All-cons Shown line rest (is_image_line acc line counted some) (images_each accs rest more))
  images_each (acc ∷ accs) lines (line, rest, counted, more, inr (nothing, is)) = subst (All Shown) (sym is) (images_each accs rest more)

  images_above : (low : ℕ) (accs : List ℕ) (lines : List ImageLine) → All (λ n. low < n) accs → AreLinesOfEach desk audience day accs lines → All (λ line. low < line.accession) lines
  images_above low [] lines above none = rw none (λ k d within. absurd (omega (arith, within)))
  images_above low (acc ∷ accs) lines above (line, rest, counted, more, inl (some, is)) =
      subst (All (λ (l : ImageLine). low < l.accession)) (sym is)
      (All-cons (λ (l : ImageLine). low < l.accession) line rest (subst (λ n. low < n) (sym (ap (λ (l : ImageLine). l.accession) counted.is)) (All-head (λ n. low < n) acc accs above))
      (images_above low accs rest (All-tail (λ n. low < n) acc accs above) more))
  images_above low (acc ∷ accs) lines above (line, rest, counted, more, inr (nothing, is)) =
      subst (All (λ (l : ImageLine). low < l.accession)) (sym is) (images_above low accs rest (All-tail (λ n. low < n) acc accs above) more)

  images_ascend : (accs : List ℕ) (lines : List ImageLine) → AllPairs (λ m n. m < n) accs → AreLinesOfEach desk audience day accs lines
      → AllPairs (λ one other. one.accession < other.accession) lines
  images_ascend [] lines ascend none = rw none (λ k j d before within. absurd (omega (arith, within)))
  images_ascend (acc ∷ accs) lines ascend (line, rest, counted, more, is) =
      let after : AllPairs (λ m n. m < n) accs = λ k j d before within. ascend (suc k) (suc j) d (omega (arith, before)) (omega (arith, within)) in
      let above : All (λ n. acc < n) accs = λ k d within. ascend 0 (suc k) d (omega arith) (omega (arith, within)) in
      let later : AllPairs (λ one other. one.accession < other.accession) rest = images_ascend accs rest after more in
      let here : line.accession ≡ acc = ap (λ (l : ImageLine). l.accession) counted.is in
      let all : All (λ (l : ImageLine). line.accession < l.accession) rest = subst (λ n. All (λ (l : ImageLine). n < l.accession) rest) (sym here) (images_above acc accs rest above more) in
      elim is [
        | inl shown ↦ subst (AllPairs (λ one other. one.accession < other.accession)) (sym shown.1)
            (AllPairs-cons (λ (one other : ImageLine). one.accession < other.accession) line rest all later)
        | inr nothing ↦ subst (AllPairs (λ one other. one.accession < other.accession)) (sym nothing.1) later
      ]

  images_have : (accs : List ℕ) (lines : List ImageLine) (line : ImageLine) → AreLinesOfEach desk audience day accs lines → Contains accs line.accession → Shown line → Contains lines line
  images_have [] lines line of (k, within, is) shown = absurd (let low : k < 0 = within in omega (arith, low))
  images_have (acc ∷ accs) lines line (first, rest, counted, more, inl (some, is)) (zero, within, same) shown =
      subst (λ all. Contains all line) (sym is) (zero, omega arith, one_counted acc first line counted shown same)
  images_have (acc ∷ accs) lines line (first, rest, counted, more, inr (nothing, is)) (zero, within, same) shown =
      absurd (shown.some (ap (λ (l : ImageLine). l.files) (sym (one_counted acc first line counted shown same)) ∙ nothing))
  images_have (acc ∷ accs) lines line (first, rest, counted, more, is) (suc k, within, same) shown =
      let there : Contains rest line = images_have accs rest line more (k, omega (arith, within), same) shown in
      elim is [
        | inl kept ↦ subst (λ all. Contains all line) (sym kept.1) (suc there.0, (let low : there.0 < length rest = there.1 in omega (arith, low)), there.2)
        | inr nothing ↦ subst (λ all. Contains all line) (sym nothing.1) there
      ]

  -- the accessions of which a file is listed
  pub image_lines_are : (lines : List ImageLine) → AreLinesOfEach desk audience day (keys desk.images) lines → AreImageLines desk audience day lines
  image_lines_are lines of = record {
    each = images_each (keys desk.images) lines of;
    ascending = images_ascend (keys desk.images) lines (keys_ascend desk.images) of;
    complete = λ line shown. images_have (keys desk.images) lines line of (among_keys desk.images line.accession shown.image shown.standing) shown;
  }
