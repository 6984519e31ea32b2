-- What is said to each request.
use Rattle.std.proofs.Common.{◌≡◌, ℕ, ℤ, List, [], ◌∷◌, Option, IsSomeAnd, ap, refl}
use Rattle.std.specs.FinMap.{get}
use Rattle.rd_policy.specs.declared.audience.Audience.{Audience}
use Rattle.rd_policy.specs.declared.rule.Effect.TheVariants.{Read}
use Rattle.rd_holdings.specs.State.{Desk}
use Rattle.rd_holdings.specs.declared.rows.Outcome.{Outcome}
use Rattle.rd_protocol.specs.Checks.{outcome_of}
use Rattle.rd_protocol.specs.Judged.{JudgedFile}
use Rattle.rd_protocol.specs.Lent.{Lent}
use Rattle.rd_protocol.specs.Replies.{AreImageLines, AreListings, IsListing, IsSurvey, LendsFile, Tells, carried_out}
use Rattle.rd_policy.specs.declared.rule.Band.{Band}
use Rattle.rd_policy.specs.declared.rule.Rule.{Rule}
use Rattle.rd_protocol.specs.Rehearsals.{IsRehearsal}
use Rattle.rd_protocol.specs.Requests.{IsPutOrDrop}
use Rattle.rd_protocol.specs.Verdicts.{AreVerdicts, AreVerdictsOf}
use Rattle.rd_protocol.specs.declared.response.Difference.{Difference}
use Rattle.rd_protocol.specs.declared.response.Verdicts.{Verdicts as Each}
use Rattle.rd_protocol.specs.StaffLists.{check_lines, deed_lines, key_lines, takedown_lines}
use Rattle.rd_protocol.specs.declared.request.What.{What}
use Rattle.rd_protocol.specs.declared.request.What.TheVariants.{Images, Listing, Bytes, Catalogue, Survey, Check, Deeds, Takedowns, Keys, Checks, Today, Verdicts, VerdictsOf, RehearseRule, RehearseDrop, PutRule, DropRule}
use Rattle.rd_protocol.specs.declared.response.ImageLine.{ImageLine}
use Rattle.rd_protocol.specs.declared.response.Listing.{Listing as Lines}
use Rattle.rd_protocol.specs.declared.response.Response.{Response}
use Rattle.rd_protocol.specs.declared.response.Response.TheVariants as response
use Rattle.rd_protocol.specs.declared.response.Survey.{Survey as Surveyed}

module _ (desk : Desk) (audience : Audience) (day : ℤ) (file : Option JudgedFile) where
  abbrev Told : Response → What → Type 0
  Told answer what = Tells desk audience day file answer what

  pub told_done : (answer : Response) (what : What) → IsPutOrDrop what → Told answer what → answer ≡ response.Done
  told_done response.Done what command described = refl
  told_done (response.Images lines) Images command described = absurd command
  told_done (response.Listed listing) (Listing acc) command described = absurd command
  told_done (response.File contents) (Bytes acc slot) command described = absurd command
  told_done (response.Catalogue listings) Catalogue command described = absurd command
  told_done (response.Surveyed survey) (Survey acc) command described = absurd command
  told_done (response.Checked outcome) (Check acc) command described = absurd command
  told_done (response.Deeds lines) Deeds command described = absurd command
  told_done (response.Takedowns lines) Takedowns command described = absurd command
  told_done (response.Keys lines) Keys command described = absurd command
  told_done (response.Checks lines) Checks command described = absurd command
  told_done (response.Today told) Today command described = absurd command
  told_done (response.Verdicts all) (Verdicts on) command described = absurd command
  told_done (response.Verdicts all) (VerdictsOf on acc) command described = absurd command
  told_done (response.Rehearsed differences) (RehearseRule on rule) command described = absurd command
  told_done (response.Rehearsed differences) (RehearseDrop on band scope rank) command described = absurd command
  told_done other what command described = absurd described

  pub told_images : (answer : Response) → Told answer Images → (lines : List ImageLine) × (answer ≡ response.Images lines) × AreImageLines desk audience day lines
  told_images (response.Images lines) described = (lines, refl, described)
  told_images other described = absurd described

  pub told_listing : (acc : ℕ) (answer : Response) → Told answer (Listing acc) → (listing : Lines) × (answer ≡ response.Listed listing) × IsListing desk audience day acc listing
  told_listing acc (response.Listed listing) described = (listing, refl, described)
  told_listing acc other described = absurd described

  pub told_bytes : (acc slot : ℕ) (answer : Response) → Told answer (Bytes acc slot)
      → (contents : Lent) × (answer ≡ response.File contents) × IsSomeAnd file (λ judged. judged.verdict.effect ≡ Read) × LendsFile desk acc slot contents
  told_bytes acc slot (response.File contents) described = (contents, refl, described.0, described.1)
  told_bytes acc slot other described = absurd described

  pub told_catalogue : (answer : Response) → Told answer Catalogue → (listings : List Lines) × (answer ≡ response.Catalogue listings) × AreListings desk audience day listings
  told_catalogue (response.Catalogue listings) described = (listings, refl, described)
  told_catalogue other described = absurd described

  pub told_survey : (acc : ℕ) (answer : Response) → Told answer (Survey acc) → (survey : Surveyed) × (answer ≡ response.Surveyed survey) × IsSurvey desk acc survey
  told_survey acc (response.Surveyed survey) described = (survey, refl, described)
  told_survey acc other described = absurd described

  pub told_check : (acc : ℕ) (answer : Response) → Told answer (Check acc)
      → (outcome : Outcome) × (answer ≡ response.Checked outcome) × IsSomeAnd (get desk.images acc) (λ image. outcome ≡ outcome_of image.bytes image.digest)
  told_check acc (response.Checked outcome) described = (outcome, refl, described)
  told_check acc other described = absurd described

  pub told_deeds : (answer : Response) → Told answer Deeds → answer ≡ response.Deeds (deed_lines desk)
  told_deeds (response.Deeds lines) described = ap response.Deeds described
  told_deeds other described = absurd described

  pub told_takedowns : (answer : Response) → Told answer Takedowns → answer ≡ response.Takedowns (takedown_lines desk)
  told_takedowns (response.Takedowns lines) described = ap response.Takedowns described
  told_takedowns other described = absurd described

  pub told_keys : (answer : Response) → Told answer Keys → answer ≡ response.Keys (key_lines desk)
  told_keys (response.Keys lines) described = ap response.Keys described
  told_keys other described = absurd described

  pub told_checks : (answer : Response) → Told answer Checks → answer ≡ response.Checks (check_lines desk)
  told_checks (response.Checks lines) described = ap response.Checks described
  told_checks other described = absurd described

  pub told_today : (answer : Response) → Told answer Today → answer ≡ response.Today day
  told_today (response.Today told) described = ap response.Today described
  told_today other described = absurd described

  pub told_verdicts : (on : ℤ) (answer : Response) → Told answer (Verdicts on) → (all : List Each) × (answer ≡ response.Verdicts all) × AreVerdicts desk on all
  told_verdicts on (response.Verdicts all) described = (all, refl, described)
  told_verdicts on other described = absurd described

  pub told_verdicts_of : (on : ℤ) (acc : ℕ) (answer : Response) → Told answer (VerdictsOf on acc)
      → (all : List Each) × (answer ≡ response.Verdicts all) × AreVerdictsOf desk on (acc ∷ []) all
  told_verdicts_of on acc (response.Verdicts all) described = (all, refl, described)
  told_verdicts_of on acc other described = absurd described

  pub rehearsed_rule : (on : ℤ) (rule : Rule) (answer : Response) → Told answer (RehearseRule on rule)
      → (differences : List Difference) × (answer ≡ response.Rehearsed differences) × IsRehearsal desk (carried_out day (PutRule rule) desk) on differences
  rehearsed_rule on rule (response.Rehearsed differences) described = (differences, refl, described)
  rehearsed_rule on rule other described = absurd described

  pub rehearsed_drop : (on : ℤ) (band : Band) (scope rank : ℕ) (answer : Response) → Told answer (RehearseDrop on band scope rank)
      → (differences : List Difference) × (answer ≡ response.Rehearsed differences) × IsRehearsal desk (carried_out day (DropRule band scope rank) desk) on differences
  rehearsed_drop on band scope rank (response.Rehearsed differences) described = (differences, refl, described)
  rehearsed_drop on band scope rank other described = absurd described
