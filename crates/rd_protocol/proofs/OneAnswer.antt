-- A request on a day has one answer.
use Rattle.std.proofs.Common.{◌≡◌, inl, inr, ℕ, ℤ, ◌-◌, ◌<◌, List, [], ◌∷◌, Contains, Option, Some, None, IsSomeAnd, arith, ap, get_or, refl, subst, sym, ◌∙◌}
use Rattle.std.specs.FinMap.{get}
use Rattle.std.proofs.lemmas.Bool.{cases_Bool, cases_eq}
use Rattle.rd_geometry.specs.declared.kind.Kind.{Kind}
use Rattle.rd_geometry.specs.declared.kind.Kind.TheVariants.{Cpm8}
use Rattle.rd_policy.specs.Verdicts.{IsVerdict}
use Rattle.rd_policy.specs.declared.audience.Audience.{Audience}
use Rattle.rd_policy.specs.declared.rule.Rule.{Rule}
use Rattle.rd_policy.specs.declared.verdict.Label.{Label}
use Rattle.rd_policy.specs.declared.verdict.Label.TheVariants.{Default}
use Rattle.rd_policy.proofs.OrderLemmas.{one_verdict}
use Rattle.rd_volume.specs.Founds.{IsSoundFile}
use Rattle.rd_volume.specs.Reports.{IsSoundSlot}
use Rattle.rd_volume.specs.Volumes.{IsFound}
use Rattle.rd_volume.proofs.OneFound.{one_found}
use Rattle.rd_volume.proofs.FoundFile.{told_sound}
use Rattle.rd_holdings.specs.State.{Desk, rules_for}
use Rattle.rd_holdings.specs.declared.rows.ImageRow.{ImageRow}
use Rattle.rd_holdings.specs.declared.rows.Outcome.{Outcome}
use Rattle.rd_holdings.proofs.RulesFor.{for_in_order}
use Rattle.rd_protocol.specs.Checks.{outcome_of}
use Rattle.rd_protocol.specs.Judged.{Holds, IsAccepted, IsAsked, IsJudgedFile, IsRefused, IsRefusedOn, JudgedFile}
use Rattle.rd_protocol.specs.Laws.{OneReply}
use Rattle.rd_protocol.specs.Lent.{Lent}
use Rattle.rd_protocol.specs.Refusals.{number_of}
use Rattle.rd_protocol.specs.Replies.{AreImageLines, AreLines, AreListings, IsAnswered, IsDone, IsImageLine, IsLine, IsListing, LendsFile, Tells, carried_out}
use Rattle.rd_protocol.specs.Texts.{reply_of}
use Rattle.rd_protocol.specs.declared.refusal.Refusal.{Refusal}
use Rattle.rd_protocol.specs.declared.refusal.Refusal.TheVariants.{UnknownKey, StaffOnly, BadBody, NoAccession, NoFile, NoDeed, Denied, ListedOnly, Faulty, WrongSize, DigestDiffers, Conflict}
use Rattle.rd_protocol.specs.declared.request.Request.{Request}
use Rattle.rd_protocol.specs.declared.request.What.{What}
use Rattle.rd_protocol.specs.declared.request.What.TheVariants.{Images, Listing, Bytes, Catalogue, Survey, Check, Deeds, Takedowns, Keys, Checks, Today, Verdicts, VerdictsOf, RehearseRule, RehearseDrop, PutRule, DropRule}
use Rattle.rd_protocol.specs.declared.response.ImageLine.{ImageLine}
use Rattle.rd_protocol.specs.declared.response.Line.{Line}
use Rattle.rd_protocol.specs.declared.response.Listing.{Listing as Lines}
use Rattle.rd_protocol.specs.declared.response.Response.{Response}
use Rattle.rd_protocol.specs.declared.response.Response.TheVariants as response
use Rattle.rd_protocol.proofs.AscendingLists.{one_list}
use Rattle.rd_protocol.proofs.OneReport.{one_survey}
use Rattle.rd_protocol.proofs.VerdictLemmas.{one_each, one_rehearsal, one_verdicts}
use Rattle.rd_protocol.proofs.ReplyBodies.{told_bytes, told_catalogue, told_check, told_checks, told_deeds, told_done, told_images, told_keys, told_takedowns, told_today, told_verdicts, told_verdicts_of, rehearsed_rule, rehearsed_drop, told_listing, told_survey}

-- ---- the file that is asked for

abbrev pub named : Option (ℕ × ℕ) → ℕ × ℕ
named None = (0, 0)
named (Some at) = at

same_number : (a b : ℕ) → (a < b → ⊥) → (b < a → ⊥) → a ≡ b
same_number a b above below = omega arith

module _ (desk : Desk) (day : ℤ) where
  same_verdict : (a b : ℕ) (one other : Audience) (file : JudgedFile) (found : JudgedFile) → a ≡ b → one ≡ other → file.file ≡ found.file
      → IsVerdict (Contains (rules_for desk a)) one day file.file file.verdict
      → IsVerdict (Contains (rules_for desk b)) other day found.file found.verdict → file.verdict ≡ found.verdict
  same_verdict a b one other file found accession audience same first second =
      one_verdict (rules_for desk a) one day file.file file.verdict found.verdict (for_in_order desk a) first
      (subst (λ n. IsVerdict (Contains (rules_for desk n)) one day file.file found.verdict) (sym accession)
      (subst (λ who. IsVerdict (Contains (rules_for desk b)) who day file.file found.verdict) (sym audience)
      (subst (λ f. IsVerdict (Contains (rules_for desk b)) other day f found.verdict) (sym same) second)))

module _ (desk : Desk) (day : ℤ) (request : Request) where
  one_file : (one other : JudgedFile) → IsJudgedFile desk day request one → IsJudgedFile desk day request other → one ≡ other
  one_file one other first second =
      let at : named (Some (first.accession, one.file.slot)) ≡ named (Some (second.accession, other.file.slot)) = ap named (sym first.asked ∙ second.asked) in
      let accession : first.accession ≡ second.accession = ap (λ (p : ℕ × ℕ). p.0) at in
      let slot : one.file.slot ≡ other.file.slot = ap (λ (p : ℕ × ℕ). p.1) at in
      let standing = ap (get desk.images) accession in
      let image : first.image ≡ second.image = cc (standing, first.standing, second.standing) in
      let audience : first.audience ≡ second.audience = cc (first.caller, second.caller) in
      let kind : one.kind ≡ other.kind = first.of_kind ∙ ap (λ (row : ImageRow). row.kind) image ∙ sym second.of_kind in
      let file = one_found first.image.kind first.image.bytes one.file other.file first.described
      (subst (λ (row : ImageRow). IsFound row.kind row.bytes other.file) (sym image) second.described) slot in
      let verdict = same_verdict desk day first.accession second.accession first.audience second.audience one other accession audience file first.decided second.decided in
      λ i. record { kind = kind i; file = file i; verdict = verdict i }

  one_asked : (one other : Option JudgedFile) → IsAsked desk day request one → IsAsked desk day request other → one ≡ other
  one_asked None None first second = refl
  one_asked None (Some file) none is = absurd (none file is)
  one_asked (Some file) None is none = absurd (none file is)
  one_asked (Some one) (Some other) first second = ap Some (one_file one other first second)

-- ---- the refusal

abbrev label_in : Option JudgedFile → Label
label_in None = Default
label_in (Some judged) = judged.verdict.label

abbrev kind_in : Option JudgedFile → Kind
kind_in None = Cpm8
kind_in (Some judged) = judged.kind

abbrev faults_in : Option JudgedFile → ℕ
faults_in None = 0
faults_in (Some judged) = judged.file.faults

-- the refusals by their numbers
abbrev numbered : Option JudgedFile → ℕ → Refusal
numbered asked number =
    get_or (UnknownKey ∷ StaffOnly ∷ BadBody ∷ NoAccession ∷ NoFile ∷ NoDeed ∷ Denied (label_in asked) ∷ ListedOnly
    ∷ Faulty (kind_in asked) (faults_in asked) ∷ WrongSize ∷ DigestDiffers ∷ Conflict ∷ []) (number - 5) Conflict

module _ (desk : Desk) (request : Request) where
  is_numbered : (asked : Option JudgedFile) (refusal : Refusal) → Holds desk request asked refusal → refusal ≡ numbered asked (number_of refusal)
  is_numbered (Some judged) (Denied label) h = ap Denied (sym h.1)
  is_numbered (Some judged) (Faulty kind faults) h = λ i. Faulty (sym h.1 i) (sym h.2 i)
  is_numbered None (Denied label) h = absurd h
  is_numbered None (Faulty kind faults) h = absurd h
  is_numbered asked refusal h = refl

  one_refusal : (asked : Option JudgedFile) (one other : Refusal) → IsRefused desk request asked one → IsRefused desk request asked other → one ≡ other
  one_refusal asked one other first second =
      let same : number_of one ≡ number_of other = same_number (number_of one) (number_of other)
      (λ below. second.lowest one below first.holds) (λ below. first.lowest other below second.holds) in
      is_numbered asked one first.holds ∙ ap (numbered asked) same ∙ sym (is_numbered asked other second.holds)

-- ---- what is listed

module _ (audience : Audience) (day : ℤ) where
  pub one_lines : (image : ImageRow) (rules : List Rule) (xs ys : List Line) → AreLines image rules audience day xs → AreLines image rules audience day ys → xs ≡ ys
  one_lines image rules xs ys one other =
      one_list (λ (line : Line). line.file.slot) (IsLine image rules audience day) xs ys one.each other.each one.ascending other.ascending one.complete other.complete

  one_images : (desk : Desk) (xs ys : List ImageLine) → AreImageLines desk audience day xs → AreImageLines desk audience day ys → xs ≡ ys
  one_images desk xs ys one other =
      one_list (λ (line : ImageLine). line.accession) (IsImageLine desk audience day) xs ys one.each other.each one.ascending other.ascending one.complete other.complete

  pub one_listing : (desk : Desk) (acc : ℕ) (one other : Lines) → IsListing desk audience day acc one → IsListing desk audience day acc other → one ≡ other
  one_listing desk acc one other first second =
      let image : first.image ≡ second.image = cc (first.standing, second.standing) in
      let accession : one.accession ≡ other.accession = first.accession ∙ sym second.accession in
      let deed : one.deed ≡ other.deed = first.deed ∙ ap (λ (row : ImageRow). row.deed) image ∙ sym second.deed in
      let kind : one.kind ≡ other.kind = first.kind ∙ ap (λ (row : ImageRow). row.kind) image ∙ sym second.kind in
      let files = one_lines first.image (rules_for desk acc) one.files other.files first.listed
      (subst (λ row. AreLines row (rules_for desk acc) audience day other.files) (sym image) second.listed) in
      λ i. record { accession = accession i; deed = deed i; kind = kind i; files = files i }

  pub one_listings : (desk : Desk) (xs ys : List Lines) → AreListings desk audience day xs → AreListings desk audience day ys → xs ≡ ys
  one_listings desk xs ys one other =
      one_list (λ (listing : Lines). listing.accession) (λ listing. IsListing desk audience day listing.accession listing) xs ys
      one.each other.each one.ascending other.ascending one.complete other.complete

-- ---- what a check finds

one_outcome : (found : Option ImageRow) (one other : Outcome) → IsSomeAnd found (λ image. one ≡ outcome_of image.bytes image.digest)
    → IsSomeAnd found (λ image. other ≡ outcome_of image.bytes image.digest) → one ≡ other
one_outcome None one other first second = absurd first
one_outcome (Some image) one other first second = first ∙ sym second

-- ---- the bytes of a file

module _ (desk : Desk) (day : ℤ) (badge : Option (List ℕ)) where
  module _ (acc slot : ℕ) where
    abbrev asking : Request
    asking = record { badge = badge; what = Bytes acc slot }

    -- a file that is asked for, of a request that is accepted, is sound
    pub sound_file : (judged : JudgedFile) → IsAccepted desk asking (Some judged) → IsSoundFile judged.file
    sound_file judged accepted = record {
      class = elim (cases_Bool judged.file.served_class) [ inl served ↦ served | inr other ↦ absurd (accepted ListedOnly other) ];
      sound = elim (cases_eq judged.file.faults 0) [ inl none ↦ none | inr some ↦ absurd (accepted (Faulty judged.kind judged.file.faults) (some, refl, refl)) ];
    }

    pub sound_slot : (judged : JudgedFile) (image : ImageRow) → IsJudgedFile desk day asking judged → IsAccepted desk asking (Some judged)
        → get desk.images acc ≡ Some image → IsSoundSlot image.kind image.bytes slot
    sound_slot judged image is accepted standing =
        let at : named (Some (acc, slot)) ≡ named (Some (is.accession, judged.file.slot)) = ap named is.asked in
        let accession : acc ≡ is.accession = ap (λ (p : ℕ × ℕ). p.0) at in
        let there = ap (get desk.images) accession in
        let same : is.image ≡ image = cc (there, standing, is.standing) in
        let sound = (told_sound is.image.kind is.image.bytes judged.file is.described).0 (sound_file judged accepted) in
        subst (λ (row : ImageRow). IsSoundSlot row.kind row.bytes slot) same
        (subst (IsSoundSlot is.image.kind is.image.bytes) (sym (ap (λ (p : ℕ × ℕ). p.1) at)) sound)

    one_lent : (one other : Lent) → LendsFile desk acc slot one → LendsFile desk acc slot other → one ≡ other
    one_lent one other first second =
        let image : first.image ≡ second.image = cc (first.standing, second.standing) in
        let kind : one.kind ≡ other.kind = first.kind ∙ ap (λ (row : ImageRow). row.kind) image ∙ sym second.kind in
        let bytes : one.image ≡ other.image = first.from_image ∙ ap (λ (row : ImageRow). row.bytes) image ∙ sym second.from_image in
        let file : one.file ≡ other.file = one_found first.image.kind first.image.bytes one.file other.file first.described
        (subst (λ (row : ImageRow). IsFound row.kind row.bytes other.file) (sym image) second.described) (first.at_slot ∙ sym second.at_slot) in
        λ i. record { kind = kind i; image = bytes i; file = file i }

  -- ---- what is told

  module _ (audience : Audience) (file : Option JudgedFile) (one other : Response) where
    abbrev Asks : What → Request
    Asks what = record { badge = badge; what = what }

    one_told : (what : What) → IsAsked desk day (Asks what) file → IsAccepted desk (Asks what) file
        → Tells desk audience day file one what → Tells desk audience day file other what → one ≡ other
    one_told Images asked accepted first second =
        let a = told_images desk audience day file one first in
        let b = told_images desk audience day file other second in
        a.1 ∙ ap response.Images (one_images audience day desk a.0 b.0 a.2 b.2) ∙ sym b.1
    one_told (Listing acc) asked accepted first second =
        let a = told_listing desk audience day file acc one first in
        let b = told_listing desk audience day file acc other second in
        a.1 ∙ ap response.Listed (one_listing audience day desk acc a.0 b.0 a.2 b.2) ∙ sym b.1
    one_told (Bytes acc slot) asked accepted first second =
        let a = told_bytes desk audience day file acc slot one first in
        let b = told_bytes desk audience day file acc slot other second in
        a.1 ∙ ap response.File (one_lent acc slot a.0 b.0 a.3 b.3) ∙ sym b.1
    one_told Catalogue asked accepted first second =
        let a = told_catalogue desk audience day file one first in
        let b = told_catalogue desk audience day file other second in
        a.1 ∙ ap response.Catalogue (one_listings audience day desk a.0 b.0 a.2 b.2) ∙ sym b.1
    one_told (Survey acc) asked accepted first second =
        let a = told_survey desk audience day file acc one first in
        let b = told_survey desk audience day file acc other second in
        a.1 ∙ ap response.Surveyed (one_survey desk acc a.0 b.0 a.2 b.2) ∙ sym b.1
    one_told (Check acc) asked accepted first second =
        let a = told_check desk audience day file acc one first in
        let b = told_check desk audience day file acc other second in
        a.1 ∙ ap response.Checked (one_outcome (get desk.images acc) a.0 b.0 a.2 b.2) ∙ sym b.1
    one_told Deeds asked accepted first second = told_deeds desk audience day file one first ∙ sym (told_deeds desk audience day file other second)
    one_told Takedowns asked accepted first second = told_takedowns desk audience day file one first ∙ sym (told_takedowns desk audience day file other second)
    one_told Keys asked accepted first second = told_keys desk audience day file one first ∙ sym (told_keys desk audience day file other second)
    one_told Checks asked accepted first second = told_checks desk audience day file one first ∙ sym (told_checks desk audience day file other second)
    one_told Today asked accepted first second = told_today desk audience day file one first ∙ sym (told_today desk audience day file other second)
    one_told (Verdicts on) asked accepted first second =
        let a = told_verdicts desk audience day file on one first in
        let b = told_verdicts desk audience day file on other second in
        a.1 ∙ ap response.Verdicts (one_verdicts desk on a.0 b.0 a.2 b.2) ∙ sym b.1
    one_told (VerdictsOf on acc) asked accepted first second =
        let a = told_verdicts_of desk audience day file on acc one first in
        let b = told_verdicts_of desk audience day file on acc other second in
        a.1 ∙ ap response.Verdicts (one_each desk on (acc ∷ []) a.0 b.0 a.2 b.2) ∙ sym b.1
    one_told (RehearseRule on rule) asked accepted first second =
        let a = rehearsed_rule desk audience day file on rule one first in
        let b = rehearsed_rule desk audience day file on rule other second in
        a.1 ∙ ap response.Rehearsed (one_rehearsal desk (carried_out day (PutRule rule) desk) on a.0 b.0 a.2 b.2) ∙ sym b.1
    one_told (RehearseDrop on band scope rank) asked accepted first second =
        let a = rehearsed_drop desk audience day file on band scope rank one first in
        let b = rehearsed_drop desk audience day file on band scope rank other second in
        a.1 ∙ ap response.Rehearsed (one_rehearsal desk (carried_out day (DropRule band scope rank) desk) on a.0 b.0 a.2 b.2) ∙ sym b.1
    one_told what asked accepted first second = told_done desk audience day file one what tt first ∙ sym (told_done desk audience day file other what tt second)

-- ---- the reply

module _ (desk : Desk) (day : ℤ) (request : Request) where
  both_refused : (one other : Refusal) → IsRefusedOn desk day request one → IsRefusedOn desk day request other → one ≡ other
  both_refused one other first second =
      let file = one_asked desk day request first.file second.file first.asked second.asked in
      one_refusal desk request second.file one other (subst (λ f. IsRefused desk request f one) file first.refused) second.refused

  refused_or_done : (refusal : Refusal) (answer : Response) (after : Desk) → IsRefusedOn desk day request refusal → ¬ IsDone desk day request answer after
  refused_or_done refusal answer after refused done =
      let file = one_asked desk day request refused.file done.file refused.asked done.asked in
      done.accepted refusal (subst (λ f. IsRefused desk request f refusal) file refused.refused).holds

  both_done : (one other : Response) (after later : Desk) → IsDone desk day request one after → IsDone desk day request other later → (one ≡ other) × (after ≡ later)
  both_done one other after later first second =
      let file = one_asked desk day request first.file second.file first.asked second.asked in
      let audience : first.audience ≡ second.audience = cc (first.caller, second.caller) in
      let described = subst (λ who. Tells desk who day first.file other request.what) (sym audience)
      (subst (λ f. Tells desk second.audience day f other request.what) (sym file) second.tells) in
      (one_told desk day request.badge first.audience first.file one other request.what first.asked first.accepted first.tells described, first.after ∙ sym second.after)

  one_answer : (one other : Response) (after later : Desk) → IsAnswered desk day request one after → IsAnswered desk day request other later
      → (one ≡ other) × (after ≡ later)
  one_answer (response.Refused one) (response.Refused other) after later first second =
      (ap response.Refused (both_refused one other first.0 second.0), first.1 ∙ sym second.1)
  one_answer (response.Refused refusal) answer after later refused done = absurd (refused_or_done refusal answer later refused.0 done)
  one_answer answer (response.Refused refusal) after later done refused = absurd (refused_or_done refusal answer after refused.0 done)
  one_answer one other after later first second = both_done one other after later first second

-- a request on a day has one reply and one desk after it
pub one_reply : OneReply
one_reply desk day request one other after later first second =
    let same = one_answer desk day request first.answer second.answer after later first.answered second.answered in
    (first.written ∙ ap reply_of same.0 ∙ sym second.written, same.1)
