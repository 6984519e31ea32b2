-- The catalogue is read off the verdicts, and so is which files are served.
use Rattle.std.proofs.Common.{◌≡◌, ◌≢◌, ◌⊎◌, ◌∙◌, ◌<◌, inl, inr, ℕ, zero, suc, ℤ, List, [], ◌∷◌, All, cond, Contains, IsSomeAnd, Option, Some, None, ap, arith, length, map, refl, subst, sym}
use Rattle.std.specs.FinMap.{get, keys}
use Rattle.std.specs.List.{AllZip}
use Rattle.std.proofs.lemmas.List.Elements.{All-head, All-tail}
use Rattle.rd_policy.specs.Verdicts.{IsVerdict}
use Rattle.rd_policy.specs.declared.audience.Audience.{Audience}
use Rattle.rd_policy.specs.declared.rule.Effect.{Effect}
use Rattle.rd_policy.specs.declared.rule.Effect.TheVariants.{Deny, Read}
use Rattle.rd_policy.specs.declared.rule.Rule.{Rule}
use Rattle.rd_policy.specs.declared.verdict.Verdict.{Verdict}
use Rattle.rd_policy.proofs.Existence.{verdict_on}
use Rattle.rd_policy.proofs.OrderLemmas.{one_verdict}
use Rattle.rd_volume.specs.Founds.{IsSoundFile}
use Rattle.rd_volume.specs.Volumes.{IsFound, IsSlotOfFile}
use Rattle.rd_volume.specs.declared.found.Found.{Found}
use Rattle.rd_volume.proofs.Existence.{file_at}
use Rattle.rd_holdings.specs.State.{Desk, rules_for}
use Rattle.rd_holdings.specs.declared.rows.ImageRow.{ImageRow}
use Rattle.rd_protocol.specs.Judged.{IsAccepted, IsAcceptedOn, IsAsked, IsJudgedFile, JudgedFile, audience_of}
use Rattle.rd_protocol.specs.Laws.{HoldsBytes}
use Rattle.rd_protocol.specs.Queries.{AreLinesOf, Standing}
use Rattle.rd_protocol.specs.Replies.{AreListings, IsListing}
use Rattle.rd_protocol.specs.VerdictLaws.{CatalogueIsThatOfVerdicts, LetsRead, OneAccessionIsThatOfAll, ServedWhereRead, line_for, lines_for, listing_for, lists}
use Rattle.rd_protocol.specs.Verdicts.{AreVerdicts, IsDecided, IsVerdictsOf, verdict_for}
use Rattle.rd_protocol.specs.declared.refusal.Refusal.TheVariants.{Denied, NoAccession, NoFile}
use Rattle.rd_protocol.specs.declared.request.Request.{Request}
use Rattle.rd_protocol.specs.declared.request.What.TheVariants.{Bytes}
use Rattle.rd_protocol.specs.declared.response.FileVerdicts.{FileVerdicts}
use Rattle.rd_protocol.specs.declared.response.Line.{Line}
use Rattle.rd_protocol.specs.declared.response.Response.TheVariants.{File}
use Rattle.rd_protocol.specs.declared.response.Verdicts.{Verdicts}
use Rattle.rd_protocol.proofs.VerdictLemmas.{one_of}
use Rattle.rd_protocol.proofs.CatalogueLemmas.{listings_are}
use Rattle.rd_protocol.proofs.Numbers.{among_keys}
use Rattle.rd_protocol.proofs.OneAnswer.{named, one_listings, sound_file}
use Rattle.rd_protocol.proofs.FileReplies.{read_answered}
use Rattle.rd_holdings.proofs.RulesFor.{for_in_order}
use Rattle.rd_protocol.proofs.ListedFiles.{among_founds, lines_are}

-- ---- the catalogue

module _ (audience : Audience) (day : ℤ) where
  -- a line is kept, or it is denied
  kept : (effect : Effect) (line : Line) (rest : List Line)
      → ((effect ≢ Deny) × (cond (lists effect) (line ∷ rest) rest ≡ line ∷ rest)) ⊎ ((effect ≡ Deny) × (cond (lists effect) (line ∷ rest) rest ≡ rest))
  kept Deny line rest = inr (refl, refl)
  kept other line rest = inl (λ is. cc, refl)

  lines_in : (rules : List Rule) (files : List FileVerdicts) → All (IsDecided rules day) files
      → AreLinesOf rules audience day (map (λ file. file.file) files) (lines_for audience files)
  lines_in rules [] all = refl
  lines_in rules (file ∷ files) all = (
    verdict_for audience file,
    lines_for audience files,
    All-head (IsDecided rules day) file files all audience,
    lines_in rules files (All-tail (IsDecided rules day) file files all),
    kept (verdict_for audience file).effect (line_for audience file) (lines_for audience files),
  )

  module _ (desk : Desk) where
    listing_in : (acc : ℕ) (one : Verdicts) → IsVerdictsOf desk day acc one → IsListing desk audience day acc (listing_for audience one)
    listing_in acc one is = record {
      image = is.image;
      standing = is.standing;
      accession = is.accession;
      deed = is.deed;
      kind = is.kind;
      listed = lines_are is.image (rules_for desk acc) audience day (map (λ file. file.file) one.files) (lines_for audience one.files) (for_in_order desk acc)
          is.files.all (lines_in (rules_for desk acc) one.files is.files.decided);
    }

    listings_in : (accs : List ℕ) (all : List Verdicts) → AllZip (IsVerdictsOf desk day) accs all
        → AllZip (IsListing desk audience day) accs (map (listing_for audience) all)
    listings_in [] [] zip = tt
    listings_in [] (one ∷ all) zip = absurd zip
    listings_in (acc ∷ accs) [] zip = absurd zip
    listings_in (acc ∷ accs) (one ∷ all) zip = (listing_in acc one zip.0, listings_in accs all zip.1)

    are_listings : (all : List Verdicts) → AreVerdicts desk day all → AreListings desk audience day (map (listing_for audience) all)
    are_listings all are = listings_are desk audience day (map (listing_for audience) all) (listings_in (keys desk.images) all are)

-- the catalogue is read off the verdicts
pub catalogue_of_verdicts : CatalogueIsThatOfVerdicts
catalogue_of_verdicts desk audience day all are listings = (
  λ listed. one_listings audience day desk listings (map (listing_for audience) all) listed (are_listings audience day desk all are),
  λ same. subst (AreListings desk audience day) (sym same) (are_listings audience day desk all are),
)

-- ---- which files are served

module _ (desk : Desk) (day : ℤ) where
  -- an accession that stands is among them
  found_in : (accs : List ℕ) (all : List Verdicts) (acc : ℕ) → AllZip (IsVerdictsOf desk day) accs all → Contains accs acc
      → (one : Verdicts) × Contains all one × IsVerdictsOf desk day acc one
  found_in [] all acc zip (k, within, is) = absurd (let low : k < 0 = within in omega (arith, low))
  found_in (first ∷ accs) [] acc zip there = absurd zip
  found_in (first ∷ accs) (one ∷ all) acc zip (zero, within, is) = (one, (zero, omega arith, refl), subst (λ n. IsVerdictsOf desk day n one) is zip.0)
  found_in (first ∷ accs) (one ∷ all) acc zip (suc k, within, is) =
      let there = found_in accs all acc zip.1 (k, omega (arith, within), is) in
      (there.0, (suc there.1.0, (let low : there.1.0 < length all = there.1.1 in omega (arith, low)), there.1.2), there.2)

  -- each of the verdicts is of an accession
  each_of : (accs : List ℕ) (all : List Verdicts) (one : Verdicts) → AllZip (IsVerdictsOf desk day) accs all → Contains all one → IsVerdictsOf desk day one.accession one
  each_of accs [] one zip (k, within, is) = absurd (let low : k < 0 = within in omega (arith, low))
  each_of [] (first ∷ all) one zip there = absurd zip
  each_of (acc ∷ accs) (first ∷ all) one zip (zero, within, is) =
      subst (λ (it : Verdicts). IsVerdictsOf desk day it.accession it) is (subst (λ n. IsVerdictsOf desk day n first) (sym zip.0.accession) zip.0)
  each_of (acc ∷ accs) (first ∷ all) one zip (suc k, within, is) = each_of accs all one zip.1 (k, omega (arith, within), is)

-- the verdicts of one accession are those that stand for it among all of the day
pub one_accession : OneAccessionIsThatOfAll
one_accession desk day all are acc one = (
  λ alone.
      let is : IsVerdictsOf desk day acc one = alone.0 in
      let there = found_in desk day (keys desk.images) all acc are (among_keys desk.images acc is.image is.standing) in
      (subst (Contains all) (one_of desk day acc there.0 one there.2 is) there.1, is.accession),
  λ among. (subst (λ n. IsVerdictsOf desk day n one) among.1 (each_of desk day (keys desk.images) all one are among.0), tt),
)

-- a file among the files has its verdicts
file_among : (rules : List Rule) (day : ℤ) (files : List FileVerdicts) (file : Found) → All (IsDecided rules day) files → Contains (map (λ file. file.file) files) file
    → (one : FileVerdicts) × Contains files one × (one.file ≡ file) × IsDecided rules day one
file_among rules day [] file all (k, within, is) = absurd (let low : k < 0 = within in omega (arith, low))
file_among rules day (first ∷ files) file all (zero, within, is) = (first, (zero, omega arith, refl), is, All-head (IsDecided rules day) first files all)
file_among rules day (first ∷ files) file all (suc k, within, is) =
    let there = file_among rules day files file (All-tail (IsDecided rules day) first files all) (k, omega (arith, within), is) in
    (there.0, (suc there.1.0, (let low : there.1.0 < length files = there.1.1 in omega (arith, low)), there.1.2), there.2, there.3)

decided_at : (rules : List Rule) (day : ℤ) (files : List FileVerdicts) (one : FileVerdicts) → All (IsDecided rules day) files → Contains files one → IsDecided rules day one
decided_at rules day files one all there = subst (IsDecided rules day) there.2 (all there.0 one there.1)

described_at : (P : Found → Type 0) (files : List FileVerdicts) (one : FileVerdicts) → All P (map (λ file. file.file) files) → Contains files one → P one.file
described_at P [] one all (k, within, is) = absurd (let low : k < 0 = within in omega (arith, low))
described_at P (first ∷ files) one all (zero, within, is) = subst (λ (it : FileVerdicts). P it.file) is (All-head P first.file (map (λ file. file.file) files) all)
described_at P (first ∷ files) one all (suc k, within, is) = described_at P files one (All-tail P first.file (map (λ file. file.file) files) all) (k, omega (arith, within), is)

module _ (desk : Desk) (badge : Option (List ℕ)) (audience : Audience) (day : ℤ) (all : List Verdicts) (bytes : HoldsBytes desk)
    (caller : audience_of desk badge ≡ Some audience) (are : AreVerdicts desk day all) (acc slot : ℕ) where
  abbrev request : Request
  request = record { badge = badge; what = Bytes acc slot }

  -- a file that is asked for, and not refused, is read
  of_judged : (judged : JudgedFile) → IsJudgedFile desk day request judged → IsAccepted desk request (Some judged) → LetsRead all audience acc slot
  of_judged judged is accepted =
      let at : (acc, slot) ≡ (is.accession, judged.file.slot) = ap named is.asked in
      let accession : is.accession ≡ acc = sym (ap (λ (p : ℕ × ℕ). p.0) at) in
      let there = found_in desk day (keys desk.images) all is.accession are (among_keys desk.images is.accession is.image is.standing) in
      let image : there.2.image ≡ is.image = let one = there.2.standing in let other = is.standing in cc in
      let described : IsFound there.2.image.kind there.2.image.bytes judged.file = subst (λ (row : ImageRow). IsFound row.kind row.bytes judged.file) (sym image) is.described in
      let file = file_among (rules_for desk is.accession) day there.0.files judged.file there.2.files.decided
      (among_founds there.2.image.kind there.2.image.bytes (map (λ file. file.file) there.0.files) judged.file there.2.files.all described) in
      let who : is.audience ≡ audience = let one = is.caller in cc in
      let mine : IsVerdict (Contains (rules_for desk is.accession)) audience day judged.file judged.verdict =
      subst (λ who. IsVerdict (Contains (rules_for desk is.accession)) who day judged.file judged.verdict) who is.decided in
      let theirs : IsVerdict (Contains (rules_for desk is.accession)) audience day judged.file (verdict_for audience file.0) =
      subst (λ f. IsVerdict (Contains (rules_for desk is.accession)) audience day f (verdict_for audience file.0)) file.2 (file.3 audience) in
      let verdict : judged.verdict ≡ verdict_for audience file.0 =
      one_verdict (rules_for desk is.accession) audience day judged.file judged.verdict (verdict_for audience file.0) (for_in_order desk is.accession) mine theirs in
      let read : judged.verdict.effect ≡ Read = reads judged.verdict.effect (λ other. accepted (Denied judged.verdict.label) (other, refl)) in
      record {
        one = there.0;
        file = file.0;
        among = there.1;
        accession = there.2.accession ∙ accession;
        inside = file.1;
        at_slot = ap (λ (f : Found). f.slot) file.2 ∙ sym (ap (λ (p : ℕ × ℕ). p.1) at);
        read = ap (λ (v : Verdict). v.effect) (sym verdict) ∙ read;
        sound = subst IsSoundFile (sym file.2) (sound_file desk day badge acc slot judged accepted);
      }
    where
      reads : (effect : Effect) → (effect ≢ Read → ⊥) → effect ≡ Read
      reads Read not_other = refl
      reads other not_other = absurd (not_other (λ is. cc))

  -- a request that asks for no file is refused
  of_none : IsAsked desk day request None → IsAccepted desk request None → LetsRead all audience acc slot
  of_none none accepted = by_image (get desk.images acc) refl
    where
      by_image : (found : Option ImageRow) → get desk.images acc ≡ found → LetsRead all audience acc slot
      by_image None lacks = absurd (accepted NoAccession lacks)
      by_image (Some image) stands = absurd (accepted NoFile (subst (λ o. IsSomeAnd o (λ row. IsSlotOfFile row.kind row.bytes slot → ⊥)) (sym stands) (λ is.
          let found = file_at image.kind image.bytes (bytes acc image stands) slot is in
          let verdict = verdict_on (rules_for desk acc) audience day found.0 (for_in_order desk acc) in
          none (record { kind = image.kind; file = found.0; verdict = verdict.0 }) (record {
            accession = acc;
            image = image;
            audience = audience;
            asked = ap (λ k. Some (acc, k)) (sym found.2);
            caller = caller;
            standing = stands;
            of_kind = refl;
            described = found.1;
            decided = verdict.1;
          }))))

  of_asked : (file : Option JudgedFile) → IsAsked desk day request file → IsAccepted desk request file → LetsRead all audience acc slot
  of_asked None asked accepted = of_none asked accepted
  of_asked (Some judged) asked accepted = of_judged judged asked accepted

  -- a file that they let the caller read is served
  served : LetsRead all audience acc slot → IsAcceptedOn desk day request
  served lets =
      let of_it : IsVerdictsOf desk day acc lets.one = subst (λ n. IsVerdictsOf desk day n lets.one) lets.accession (each_of desk day (keys desk.images) all lets.one are lets.among) in
      let holding : Standing = record { image = of_it.image; rules = rules_for desk acc } in
      let described : IsFound of_it.image.kind of_it.image.bytes lets.file.file =
      described_at (IsFound of_it.image.kind of_it.image.bytes) lets.one.files lets.file of_it.files.all.each lets.inside in
      let decided = decided_at (rules_for desk acc) day lets.one.files lets.file of_it.files.decided lets.inside audience in
      let done = read_answered desk day badge audience acc slot holding caller of_it.standing refl
      (File (record { kind = of_it.image.kind; image = of_it.image.bytes; file = lets.file.file }))
      (lets.file.file, verdict_for audience lets.file, record { described = described; at_slot = lets.at_slot; decided = decided }, (lets.read, lets.sound, refl)) in
      record { file = done.file; asked = done.asked; accepted = done.accepted }

-- a file is served exactly where the verdicts let the caller read it
pub served_where_read : ServedWhereRead
served_where_read desk badge audience day all bytes caller are acc slot = (
  λ accepted. of_asked desk badge audience day all bytes caller are acc slot accepted.file accepted.asked accepted.accepted,
  served desk badge audience day all bytes caller are acc slot,
)
