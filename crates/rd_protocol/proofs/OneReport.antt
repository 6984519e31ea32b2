-- An image has one report, and an accession one survey.
use Rattle.std.proofs.Common.{◌≡◌, ◌∙◌, ℕ, List, Some, subst, sym}
use Rattle.std.specs.FinMap.{get}
use Rattle.rd_geometry.specs.Blocks.{index_of}
use Rattle.rd_geometry.specs.declared.kind.Kind.{Kind}
use Rattle.rd_geometry.specs.declared.kind.Kind.TheVariants.{Cpm8}
use Rattle.rd_cbm.specs.BlockMap.{HasWrongCount, IsClaimedFree, IsUnclaimedUsed}
use Rattle.rd_cbm.specs.Counts.{IsCount}
use Rattle.rd_cbm.specs.Links.{link_of}
use Rattle.rd_cbm.specs.declared.chains.End.{End}
use Rattle.rd_cbm.specs.declared.report.MapReport.{MapReport}
use Rattle.rd_cbm.proofs.Existence.{ends_once}
use Rattle.rd_cbm.proofs.BlockBounds.{links_inside, start_inside}
use Rattle.rd_cbm.proofs.MapLemmas.{count_once}
use Rattle.rd_cbm.proofs.OneChain.{one_chain}
use Rattle.rd_policy.proofs.DateLemmas.{one_text}
use Rattle.rd_volume.specs.Reports.{DiffersInSize, IsDirectoryEnd, IsFaultySlot, IsMapReport, IsReport, IsSoundSlot}
use Rattle.rd_volume.specs.Volumes.{IsSlotOfFile}
use Rattle.rd_volume.specs.declared.reports.Report.{Report}
use Rattle.rd_holdings.specs.State.{Desk}
use Rattle.rd_holdings.specs.declared.rows.DeedRow.{DeedRow}
use Rattle.rd_holdings.specs.declared.rows.ImageRow.{ImageRow}
use Rattle.rd_protocol.specs.Replies.{IsSurvey, IsSurveyOf}
use Rattle.rd_protocol.specs.declared.response.Survey.{Survey}

one_map : (kind : Kind) (image : List ℕ) (one other : MapReport) → IsMapReport kind image one → IsMapReport kind image other → one ≡ other
one_map Cpm8 image one other first second = first ∙ sym second
one_map _ image one other first second =
    let blocks = one_chain (link_of image) (index_of 18 1) first.blocks second.blocks first.directory second.directory in
    let wrong = count_once (HasWrongCount image) one.wrong_counts other.wrong_counts first.wrong_counts second.wrong_counts in
    let free = count_once (IsClaimedFree image second.blocks) one.claimed_free other.claimed_free
    (subst (λ b. IsCount (IsClaimedFree image b) one.claimed_free) blocks first.claimed_free) second.claimed_free in
    let used = count_once (IsUnclaimedUsed image second.blocks) one.unclaimed_used other.unclaimed_used
    (subst (λ b. IsCount (IsUnclaimedUsed image b) one.unclaimed_used) blocks first.unclaimed_used) second.unclaimed_used in
    λ i. record { wrong_counts = wrong i; claimed_free = free i; unclaimed_used = used i }

one_end : (kind : Kind) (image : List ℕ) (one other : End) → IsDirectoryEnd kind image one → IsDirectoryEnd kind image other → one ≡ other
one_end Cpm8 image one other first second = first ∙ sym second
one_end _ image one other first second =
    let once = ends_once (link_of image) (index_of 18 1) (links_inside image) (start_inside 18 1) in
    once.only one first ∙ sym (once.only other second)

one_report : (kind : Kind) (image : List ℕ) (one other : Report) → IsReport kind image one → IsReport kind image other → one ≡ other
one_report kind image one other first second =
    let files = count_once (IsSlotOfFile kind image) one.files other.files first.files second.files in
    let served = count_once (IsSoundSlot kind image) one.served other.served first.served second.served in
    let faulty = count_once (IsFaultySlot kind image) one.faulty other.faulty first.faulty second.faulty in
    let differs = count_once (DiffersInSize kind image) one.size_differs other.size_differs first.size_differs second.size_differs in
    let map = one_map kind image one.map other.map first.map second.map in
    let directory = one_end kind image one.directory other.directory first.directory second.directory in
    let label = first.label ∙ sym second.label in
    λ i. record { files = files i; served = served i; faulty = faulty i; size_differs = differs i; map = map i; directory = directory i; label = label i }

one_survey_of : (acc : ℕ) (image : ImageRow) (deed : DeedRow) (one other : Survey) → IsSurveyOf acc image deed one → IsSurveyOf acc image deed other → one ≡ other
one_survey_of acc image deed one other first second =
    let accession = first.accession ∙ sym second.accession in
    let number = first.number ∙ sym second.number in
    let donor = first.donor ∙ sym second.donor in
    let signed = one_text deed.signed one.signed other.signed first.signed second.signed in
    let kind = first.kind ∙ sym second.kind in
    let report = one_report image.kind image.bytes one.report other.report first.report second.report in
    λ i. record { accession = accession i; deed = number i; donor = donor i; signed = signed i; kind = kind i; report = report i }

-- an accession has one survey
pub one_survey : (desk : Desk) (acc : ℕ) (one other : Survey) → IsSurvey desk acc one → IsSurvey desk acc other → one ≡ other
one_survey desk acc one other first second =
    let image : first.image ≡ second.image = cc (first.standing, second.standing) in
    let given : get desk.deeds first.image.deed ≡ Some second.deed = subst (λ (row : ImageRow). get desk.deeds row.deed ≡ Some second.deed) (sym image) second.given in
    let deed : first.deed ≡ second.deed = cc (first.given, given) in
    one_survey_of acc first.image first.deed one other first.described
    (subst (λ d. IsSurveyOf acc first.image d other) (sym deed) (subst (λ (row : ImageRow). IsSurveyOf acc row second.deed other) (sym image) second.described))
