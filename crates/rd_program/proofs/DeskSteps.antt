-- The desk after what it was asked by a command.
use Rattle.std.proofs.Common.{◌≡◌, ◌⊎◌, ◌++◌, ℕ, ℤ, List, [], ◌∷◌, Option, Some, Result, Ok, Err, inl, inr, refl, subst, sym}
use Rattle.sqlite.specs.Held.{Held}
use Rattle.sqlite.specs.Store.{Ghosts}
use Rattle.rd_store.specs.Held.{desk}
use Rattle.rd_holdings.specs.State.{Desk}
use Rattle.rd_protocol.specs.Replies.{IsAnswered, IsStep}
use Rattle.rd_desk.specs.Calls.{IsResponse}
use Rattle.rd_desk.specs.Served.{Responds}
use Rattle.rd_protocol.specs.declared.request.Request.{Request}
use Rattle.rd_protocol.specs.declared.request.What.{What}
use Rattle.rd_protocol.specs.declared.request.What.TheVariants as request
use Rattle.rd_protocol.specs.declared.response.Response.{Response}
use Rattle.rd_protocol.specs.declared.response.Response.TheVariants as response
use Rattle.rd_program.specs.Leaves.{Checks, IsPutImage, LeavesDesk, StepsOf, TakesFields, TakesIn, TakesInTurn, TakesRow}
use Rattle.rd_commands.specs.declared.sheet.SheetRow.{SheetRow}
use Rattle.rd_commands.specs.declared.words.Question.{Question}
use Rattle.rd_commands.specs.declared.words.Question.TheVariants as question
use Rattle.rd_program.proofs.LeftStores.{desk_then}

-- ---- after an answer

answered_step : (old : Desk) (day : ℤ) (request : Request) (answer : Response) (new : Desk) → IsAnswered old day request answer new → IsStep old day request new
answered_step old day request (response.Refused refusal) new is = inr ((refusal, is.0), is.1)
answered_step old day request answer new is = inl (record { file = is.file; asked = is.asked; accepted = is.accepted }, is.after)

pub response_step : {X : Type 0} (old : Desk) (day : ℤ) (request : Request) (result : Result Response X) (new : Desk) → IsResponse old day request result new
    → (new ≡ old) ⊎ IsStep old day request new
response_step old day request (Ok answer) new is = inr (answered_step old day request answer new is)
response_step old day request (Err fault) new same = inl same

row_step : (badge : List ℕ) (day : ℤ) (row : SheetRow) (bytes : List ℕ) (old new : Desk)
    → (new ≡ old) ⊎ IsStep old day (record { badge = Some badge; what = request.PutImage row.acc row.kind row.deed row.digest bytes }) new
    → TakesRow badge day row old new
row_step badge day row bytes old new (inl same) = inl same
row_step badge day row bytes old new (inr step) = inr (bytes, step)

check_step : (badge : Option (List ℕ)) (acc : ℕ) (day : ℤ) (old new : Desk)
    → (new ≡ old) ⊎ IsStep old day (record { badge = badge; what = request.Check acc }) new → Checks badge acc (λ d. d ≡ day) old new
check_step badge acc day old new (inl same) = inl same
check_step badge acc day old new (inr step) = inr (day, refl, step)

module _ {S X : Type 0} (g : Ghosts S) (old new : Held S) (day : ℤ) (result : Result Response X) where
  pub row_taken : (badge : List ℕ) (row : SheetRow) (bytes : List ℕ)
      → Responds g old new day (record { badge = Some badge; what = request.PutImage row.acc row.kind row.deed row.digest bytes }) result
      → LeavesDesk g (TakesRow badge day row) old new
  row_taken badge row bytes responds =
      let asked : Request = record { badge = Some badge; what = request.PutImage row.acc row.kind row.deed row.digest bytes } in
      record {
        lasts = responds.lasts;
        reached = λ is_open. row_step badge day row bytes (desk g old) (desk g new)
            (response_step (desk g old) day asked result (desk g new) (responds.answers is_open));
      }

  pub check_made : (badge : Option (List ℕ)) (acc : ℕ) → Responds g old new day (record { badge = badge; what = request.Check acc }) result
      → LeavesDesk g (Checks badge acc (λ d. d ≡ day)) old new
  check_made badge acc responds =
      let asked : Request = record { badge = badge; what = request.Check acc } in
      record {
        lasts = responds.lasts;
        reached = λ is_open. check_step badge acc day (desk g old) (desk g new)
            (response_step (desk g old) day asked result (desk g new) (responds.answers is_open));
      }

-- ---- on other days

checks_on : (Days More : ℤ → Type 0) (badge : Option (List ℕ)) (acc : ℕ) (old new : Desk) → ((day : ℤ) → Days day → More day)
    → Checks badge acc Days old new → Checks badge acc More old new
checks_on Days More badge acc old new weaker (inl same) = inl same
checks_on Days More badge acc old new weaker (inr step) = inr (step.0, weaker step.0 step.1, step.2)

pub takes_on : (Days More : ℤ → Type 0) (badge : List ℕ) (old new : Desk) → ((day : ℤ) → Days day → More day)
    → TakesIn badge Days old new → TakesIn badge More old new
takes_on Days More badge old new weaker (inl same) = inl same
takes_on Days More badge old new weaker (inr taken) = inr (taken.0, weaker taken.0 taken.1, taken.2)

pub steps_on : (Days More : ℤ → Type 0) (badge : Option (List ℕ)) (asked : Question) (old new : Desk) → ((day : ℤ) → Days day → More day)
    → StepsOf badge Days asked old new → StepsOf badge More asked old new
steps_on Days More badge question.Catalogue old new weaker same = same
steps_on Days More badge (question.Show what) old new weaker same = same
steps_on Days More badge (question.Check acc) old new weaker checks = checks_on Days More badge acc old new weaker checks

-- ---- row after row

takes_more : (badge : List ℕ) (day : ℤ) (asked : List What) (old mid new : Desk) (last : What) → IsPutImage last → TakesInTurn badge day asked old mid
    → IsStep mid day (record { badge = Some badge; what = last }) new → TakesInTurn badge day (asked ++ (last ∷ [])) old new
takes_more badge day [] old mid new last is turn step =
    (is, (new, subst (λ d. IsStep d day (record { badge = Some badge; what = last }) new) turn step, refl))
takes_more badge day (first ∷ more) old mid new last is turn step =
    (turn.0, (turn.1.0, turn.1.1, takes_more badge day more turn.1.0 mid new last is turn.1.2 step))

takes_row : (badge : List ℕ) (day : ℤ) (row : SheetRow) (old mid new : Desk) → TakesIn badge (λ d. d ≡ day) old mid → TakesRow badge day row mid new
    → TakesIn badge (λ d. d ≡ day) old new
takes_row badge day row old mid new taken (inl same) = subst (TakesIn badge (λ d. d ≡ day) old) (sym same) taken
takes_row badge day row old mid new (inl start) (inr step) =
    let put : What = request.PutImage row.acc row.kind row.deed row.digest step.0 in
    inr (day, refl, (put ∷ [], takes_more badge day [] old mid new put tt start step.1))
takes_row badge day row old mid new (inr taken) (inr step) =
    let put : What = request.PutImage row.acc row.kind row.deed row.digest step.0 in
    let turn = subst (λ d. TakesInTurn badge d taken.2.0 old mid) taken.1 taken.2.1 in
    inr (day, refl, (taken.2.0 ++ (put ∷ []), takes_more badge day taken.2.0 old mid new put tt turn step.1))

pub takes_fields : (badge : List ℕ) (day : ℤ) (fields : List (List ℕ)) (old mid new : Desk) → TakesIn badge (λ d. d ≡ day) old mid
    → TakesFields badge day fields mid new → TakesIn badge (λ d. d ≡ day) old new
takes_fields badge day fields old mid new taken (inl same) = subst (TakesIn badge (λ d. d ≡ day) old) (sym same) taken
takes_fields badge day fields old mid new taken (inr row) = takes_row badge day row.0 old mid new taken row.2

module _ {S : Type 0} (g : Ghosts S) (badge : List ℕ) (day : ℤ) (fields : List (List ℕ)) where
  pub row_more : (old mid new : Held S) → LeavesDesk g (TakesIn badge (λ d. d ≡ day)) old mid → LeavesDesk g (TakesFields badge day fields) mid new
      → LeavesDesk g (TakesIn badge (λ d. d ≡ day)) old new
  row_more old mid new taken row =
      desk_then g (TakesIn badge (λ d. d ≡ day)) (TakesFields badge day fields) (TakesIn badge (λ d. d ≡ day)) old mid new (takes_fields badge day fields) taken row
