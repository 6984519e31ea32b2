-- What a desk answers that stands beside a shelf.
use Rattle.std.proofs.Common.{◌≡◌, ◌≢◌, ◌∙◌, ◌⊎◌, ◌++◌, ◌∷◌, [], ◌+◌, ◌<◌, ◌==◌, ℕ, ℤ, Err, IfOk, IsSome, List, None, Ok, OnOk, Option, Result, Some, ap, drop, false, get_or, if◌then◌else◌, inl, inr, length, refl, subst, sym, take, true, true≢false}
use Rattle.std.specs.FinMap.{get, insert}
use Rattle.std.specs.Ordering.{nat_cmp}
use Rattle.std.specs.Prelude.{option_map}
use Rattle.std.proofs.lemmas.Bool.{cases_Bool, eq-eqb, eqb-true}
use Rattle.std.proofs.lemmas.Bool.Decides.{eqb_tells}
use Rattle.std.proofs.lemmas.List.{drop_more, take-append-drop, take_more}
use Rattle.sqlite.specs.Held.{Held}
use Rattle.sqlite.specs.Store.{Ghosts}
use Rattle.rd_policy.specs.declared.audience.Audience.{Audience}
use Rattle.rd_policy.specs.declared.audience.Audience.TheVariants.{Staff}
use Rattle.rd_store.specs.Held.{IsClean, IsOpen, Keeps, Reads, desk}
use Rattle.rd_holdings.specs.State.{Desk, HasOtherImage, put_or_kept}
use Rattle.rd_holdings.specs.declared.rows.ImageRow.{ImageRow}
use Rattle.rd_holdings.proofs.KeyOrders.{number_order}
use Rattle.rd_holdings.proofs.Lawful.{others_stay}
use Rattle.rd_holdings.proofs.Maps.{get_inserted}
use Rattle.rd_protocol.specs.Judged.{IsRefused, PassesTo}
use Rattle.rd_protocol.specs.Replies.{IsAnswered}
use Rattle.rd_protocol.specs.declared.refusal.Refusal.{Refusal}
use Rattle.rd_protocol.specs.declared.refusal.Refusal.TheVariants.{Conflict, DigestDiffers, NoDeed, StaffOnly, UnknownKey, WrongSize}
use Rattle.rd_protocol.specs.declared.request.Request.{Request}
use Rattle.rd_protocol.specs.declared.request.What.TheVariants.{PutImage}
use Rattle.rd_protocol.specs.declared.response.Response.{Response}
use Rattle.rd_protocol.specs.declared.response.Response.TheVariants as response
use Rattle.rd_protocol.proofs.RefusalOrder.{accepted, to_10, to_11, to_12, to_13, to_14, to_15, to_16, to_5, to_6, to_7, to_8, to_9}
use Rattle.rd_protocol.proofs.StaffRefusals.{not_none, nothing_asked}
use Rattle.rd_desk.proofs.ResponseLemmas.{keeps_then}
use Rattle.rd_desk.specs.Shelving.{HasHeading, IsFaultOfImage, ShelvesAs, StandsAt, StandsBeside, WouldAnswer, first_there, on_shelf, shelved_of, would_stand}
use Rattle.rd_desk.specs.declared.would_take.Shelved.{Shelved}

-- ---- the images on a shelf, one after another

-- what is on two shelves, of which one comes after the other
on_append : (left right : List Shelved) (acc : ℕ) → on_shelf (left ++ right) acc ≡ first_there (on_shelf left acc) (on_shelf right acc)
on_append [] right acc = refl
on_append (first ∷ more) right acc = elim (cases_Bool (first.acc == acc)) [
  | inl same ↦ rw same refl
  | inr other ↦ rw other (on_append more right acc)
]

-- two numbers that are not the same
not_eqb : (a b : ℕ) → (a ≡ b → ⊥) → (a == b) ≡ false
not_eqb a b other = elim (eqb_tells a b) [ inl same ↦ absurd (other same.1) | inr apart ↦ apart.0 ]

-- an image of the accession, where none was before it
pub at_index : (shelf : List Shelved) (n acc : ℕ) (d : Shelved) → n < length shelf → on_shelf (take n shelf) acc ≡ None → (get_or shelf n d).acc ≡ acc
    → Some (get_or shelf n d) ≡ on_shelf shelf acc
at_index shelf n acc d inside before is =
    sym (ap (λ l. on_shelf l acc) (sym (take-append-drop n shelf) ∙ ap (λ l. take n shelf ++ l) (drop_more shelf n d inside))
    ∙ on_append (take n shelf) (get_or shelf n d ∷ drop (n + 1) shelf) acc
    ∙ ap (λ on. first_there on (on_shelf (get_or shelf n d ∷ drop (n + 1) shelf) acc)) before
    ∙ ap (λ b. if b then Some (get_or shelf n d) else on_shelf (drop (n + 1) shelf) acc) (eq-eqb (get_or shelf n d).acc acc is))

-- one of another accession
pub past_index : (shelf : List Shelved) (n acc : ℕ) (d : Shelved) → n < length shelf → on_shelf (take n shelf) acc ≡ None → ((get_or shelf n d).acc ≡ acc → ⊥)
    → on_shelf (take (n + 1) shelf) acc ≡ None
past_index shelf n acc d inside before is =
    ap (λ l. on_shelf l acc) (take_more shelf n d inside)
    ∙ on_append (take n shelf) (get_or shelf n d ∷ []) acc
    ∙ ap (λ on. first_there on (on_shelf (get_or shelf n d ∷ []) acc)) before
    ∙ ap (λ b. if b then Some (get_or shelf n d) else None) (not_eqb (get_or shelf n d).acc acc is)

-- ---- what stands at an accession

-- two images that are asked the same of are one
one_image : (image other : Shelved) → image.acc ≡ other.acc → image.kind ≡ other.kind → image.deed ≡ other.deed → image.digest ≡ other.digest → image ≡ other
one_image image other acc kind deed digest =
    ap (λ a. record { acc = a; kind = image.kind; deed = image.deed; digest = image.digest }) acc
    ∙ ap (λ k. record { acc = other.acc; kind = k; deed = image.deed; digest = image.digest }) kind
    ∙ ap (λ d. record { acc = other.acc; kind = other.kind; deed = d; digest = image.digest }) deed
    ∙ ap (λ d. record { acc = other.acc; kind = other.kind; deed = other.deed; digest = d }) digest

-- the image on a shelf at an accession is of this accession
of_accession : (shelf : List Shelved) (acc : ℕ) (image : Shelved) → on_shelf shelf acc ≡ Some image → image.acc ≡ acc
of_accession [] acc image is = absurd (cc is)
of_accession (first ∷ more) acc image is = elim (cases_Bool (first.acc == acc)) [
  | inl same ↦ let here : Some first ≡ Some image = (let e : (if first.acc == acc then Some first else on_shelf more acc) ≡ Some image = is in rw same at e) in
      let one : first ≡ image = cc here in
      ap (λ (s : Shelved). s.acc) (sym one) ∙ eqb-true first.acc acc same
  | inr other ↦ of_accession more acc image (let e : (if first.acc == acc then Some first else on_shelf more acc) ≡ Some image = is in rw other at e)
]

-- one that would stand is like the row that stands there
stands_as : (acc : ℕ) (shelved : Option Shelved) (stood row : Option ImageRow) (image : Shelved) → StandsAt shelved stood row
    → first_there shelved (option_map (shelved_of acc) stood) ≡ Some image → (standing : ImageRow) × (row ≡ Some standing) × HasHeading image standing
stands_as acc (Some earlier) stood (Some standing) image like is =
    let same : earlier ≡ image = cc is in
    (standing, refl, subst (λ i. HasHeading i standing) same like)
stands_as acc (Some earlier) stood None image like is = absurd like
stands_as acc None (Some before) row image like is =
    let same : shelved_of acc before ≡ image = cc is in
    (before, like, subst (λ i. HasHeading i before) same (refl, (refl, refl)))
stands_as acc None None row image like is = absurd (cc is)

-- where none would stand, no row stands
stands_none : (acc : ℕ) (shelved : Option Shelved) (stood row : Option ImageRow) → StandsAt shelved stood row
    → first_there shelved (option_map (shelved_of acc) stood) ≡ None → row ≡ None
stands_none acc (Some earlier) stood row like is = absurd (cc is)
stands_none acc None (Some before) row like is = absurd (cc is)
stands_none acc None None row like is = like

-- and none is on the shelf
shelf_none : (acc : ℕ) (shelved : Option Shelved) (stood : Option ImageRow) → first_there shelved (option_map (shelved_of acc) stood) ≡ None → shelved ≡ None
shelf_none acc (Some earlier) stood is = absurd (cc is)
shelf_none acc None stood is = refl

-- one that would stand is of the accession
of_standing : (shelf : List Shelved) (stood : Desk) (acc : ℕ) (image : Shelved) → would_stand shelf stood acc ≡ Some image → image.acc ≡ acc
of_standing shelf stood acc image is = go (on_shelf shelf acc) (get stood.images acc) refl is
  where
    go : (shelved : Option Shelved) (row : Option ImageRow) → on_shelf shelf acc ≡ shelved → first_there shelved (option_map (shelved_of acc) row) ≡ Some image → image.acc ≡ acc
    go (Some earlier) row on is = of_accession shelf acc image (on ∙ is)
    go None (Some before) on is = ap (λ (s : Shelved). s.acc) (let same : shelved_of acc before ≡ image = cc is in sym same)
    go None None on is = absurd (cc is)

-- ---- a shelf with one image more

-- what is on it at an accession
on_more : (shelf : List Shelved) (image : Shelved) (acc : ℕ) → on_shelf (shelf ++ image ∷ []) acc ≡ first_there (on_shelf shelf acc) (if image.acc == acc then Some image else None)
on_more shelf image acc = on_append shelf (image ∷ []) acc

-- a desk with the image stands beside it
beside_more : (shelf : List Shelved) (stood mid : Desk) (image : Shelved) (row : ImageRow) → StandsBeside shelf stood mid → on_shelf shelf image.acc ≡ None → HasHeading image row
    → StandsBeside (shelf ++ image ∷ []) stood (record mid { images = insert mid.images image.acc row })
beside_more shelf stood mid image row beside none heading = record {
  rest = ap (λ (d : Desk). record d { images = insert mid.images image.acc row }) beside.rest;
  images = λ acc.
      subst (λ on. StandsAt on (get stood.images acc) (get (insert mid.images image.acc row) acc)) (sym (on_more shelf image acc))
      (elim (cases_Bool (image.acc == acc)) [
        | inl same ↦ here acc (eqb-true image.acc acc same) same
        | inr other ↦ there acc other
      ]);
}
  where
    here : (acc : ℕ) → image.acc ≡ acc → (image.acc == acc) ≡ true
        → StandsAt (first_there (on_shelf shelf acc) (if image.acc == acc then Some image else None)) (get stood.images acc) (get (insert mid.images image.acc row) acc)
    here acc is same =
        let bare : on_shelf shelf acc ≡ None = subst (λ a. on_shelf shelf a ≡ None) is none in
        let got : get (insert mid.images image.acc row) acc ≡ Some row = subst (λ a. get (insert mid.images image.acc row) a ≡ Some row) is (get_inserted nat_cmp number_order.total mid.images image.acc row) in
        rw (bare, same, got) heading

    nothing_more : (on : Option Shelved) (stood row : Option ImageRow) → StandsAt on stood row → StandsAt (first_there on None) stood row
    nothing_more (Some earlier) stood row like = like
    nothing_more None stood row like = like

    there : (acc : ℕ) → (image.acc == acc) ≡ false
        → StandsAt (first_there (on_shelf shelf acc) (if image.acc == acc then Some image else None)) (get stood.images acc) (get (insert mid.images image.acc row) acc)
    there acc other =
        let kept : get (insert mid.images image.acc row) acc ≡ get mid.images acc = others_stay nat_cmp number_order mid.images image.acc row acc (λ is. absurd (true≢false (sym (eq-eqb image.acc acc (sym is)) ∙ other))) in
        rw (other, kept) (nothing_more (on_shelf shelf acc) (get stood.images acc) (get mid.images acc) (beside.images acc))

-- ---- the answer

module _ (shelf : List Shelved) (stood : Desk) (badge : List ℕ) (image : Shelved) (bytes : List ℕ) where
  abbrev request : Request
  request = record { badge = Some badge; what = PutImage image.acc image.kind image.deed image.digest bytes }

  abbrev row : ImageRow
  row = record { kind = image.kind; deed = image.deed; digest = image.digest; bytes = bytes }

  known : (mid : Desk) → StandsBeside shelf stood mid → get mid.keys badge ≡ get stood.keys badge
  known mid beside = ap (λ (d : Desk). get d.keys badge) beside.rest

  given : (mid : Desk) → StandsBeside shelf stood mid → get mid.deeds image.deed ≡ get stood.deeds image.deed
  given mid beside = ap (λ (d : Desk). get d.deeds image.deed) beside.rest

  -- a refusal leaves the desk
  refused : (refusal : Refusal) → ((mid : Desk) → StandsBeside shelf stood mid → IsRefused mid request None refusal) → WouldAnswer shelf shelf stood badge image bytes (response.Refused refusal)
  refused refusal is day mid beside = (mid, (record { file = None; asked = nothing_asked mid day request tt; refused = is mid beside }, refl), beside)

  pub unknown_key : get stood.keys badge ≡ None → WouldAnswer shelf shelf stood badge image bytes (response.Refused UnknownKey)
  unknown_key none = refused UnknownKey (λ mid beside. record { holds = known mid beside ∙ none; lowest = to_5 mid request None })

  pub staff_only : (audience : Audience) → get stood.keys badge ≡ Some audience → audience ≢ Staff → WouldAnswer shelf shelf stood badge image bytes (response.Refused StaffOnly)
  staff_only audience some other = refused StaffOnly (λ mid beside. record {
    holds = (tt, λ is. other (cc (sym (known mid beside ∙ some) ∙ is)));
    lowest = to_6 mid request None audience (known mid beside ∙ some);
  })

  module _ (staff : get stood.keys badge ≡ Some Staff) where
    before_deed : (mid : Desk) → StandsBeside shelf stood mid → PassesTo mid request None 10
    before_deed mid beside =
        let asks = known mid beside ∙ staff in
        to_10 mid request None (to_9 mid request None (to_8 mid request None (to_7 mid request None (to_6 mid request None Staff asks) (λ command. asks)) (λ unread. cc unread)) (λ h. h)) (λ h. h)

    before_size : (mid : Desk) → StandsBeside shelf stood mid → IsSome (get stood.deeds image.deed) → PassesTo mid request None 14
    before_size mid beside has =
        to_14 mid request None (to_13 mid request None (to_12 mid request None
        (to_11 mid request None (before_deed mid beside) (λ none. not_none (get stood.deeds image.deed) has (sym (given mid beside) ∙ none)))
        (λ label h. h)) (λ h. h)) (λ kind faults h. h)

    before_conflict : (mid : Desk) → StandsBeside shelf stood mid → IsFaultOfImage stood image bytes None → PassesTo mid request None 16
    before_conflict mid beside fine =
        to_16 mid request None (to_15 mid request None (before_size mid beside fine.0) (λ other. other fine.1.0)) (λ other. other fine.1.1)

    -- an image with a fault of its own
    pub fault_answered : (fault : Refusal) → IsFaultOfImage stood image bytes (Some fault) → WouldAnswer shelf shelf stood badge image bytes (response.Refused fault)
    fault_answered NoDeed none = refused NoDeed (λ mid beside. record { holds = given mid beside ∙ none; lowest = before_deed mid beside })
    fault_answered WrongSize other = refused WrongSize (λ mid beside. record { holds = other.1; lowest = before_size mid beside other.0 })
    fault_answered DigestDiffers other = refused DigestDiffers (λ mid beside. record {
      holds = other.1.1;
      lowest = to_15 mid request None (before_size mid beside other.0) (λ size. size other.1.0);
    })
    fault_answered fault none = absurd none

    -- one without
    module _ (fine : IsFaultOfImage stood image bytes None) where
      done : (mid after : Desk) (day : ℤ) → StandsBeside shelf stood mid → (HasOtherImage mid image.acc row → ⊥) → after ≡ put_or_kept (get mid.images image.acc) image.acc row mid
          → IsAnswered mid day request response.Done after
      done mid after day beside no_other is = record {
        file = None;
        audience = Staff;
        asked = nothing_asked mid day request tt;
        caller = known mid beside ∙ staff;
        accepted = accepted mid request None (before_conflict mid beside fine) no_other;
        tells = tt;
        after = is;
      }

      standing : (mid : Desk) → StandsBeside shelf stood mid → (other : Shelved) → would_stand shelf stood image.acc ≡ Some other
          → (there : ImageRow) × (get mid.images image.acc ≡ Some there) × HasHeading other there
      standing mid beside other is = stands_as image.acc (on_shelf shelf image.acc) (get stood.images image.acc) (get mid.images image.acc) other (beside.images image.acc) is

      -- none would stand at its accession
      new_answered : would_stand shelf stood image.acc ≡ None → WouldAnswer shelf (shelf ++ image ∷ []) stood badge image bytes response.Done
      new_answered free day mid beside =
          let none : get mid.images image.acc ≡ None = stands_none image.acc (on_shelf shelf image.acc) (get stood.images image.acc) (get mid.images image.acc) (beside.images image.acc) free in (
            record mid { images = insert mid.images image.acc row },
            done mid (record mid { images = insert mid.images image.acc row }) day beside (λ other. absurd (cc (sym none ∙ other.1))) (ap (λ found. put_or_kept found image.acc row mid) (sym none)),
            beside_more shelf stood mid image row beside (shelf_none image.acc (on_shelf shelf image.acc) (get stood.images image.acc) free) (refl, (refl, refl)),
          )

      -- the same would
      same_answered : would_stand shelf stood image.acc ≡ Some image → WouldAnswer shelf shelf stood badge image bytes response.Done
      same_answered is day mid beside =
          let there = standing mid beside image is in (
            mid,
            done mid mid day beside
                (λ other.
                let one : there.0 ≡ other.0 = cc (sym there.1 ∙ other.1) in
                let like : HasHeading image other.0 = subst (HasHeading image) one there.2 in other.2 (like.0, like.1.0, like.1.1))
                (ap (λ found. put_or_kept found image.acc row mid) (sym there.1)),
            beside,
          )

      -- another would
      other_answered : (other : Shelved) → would_stand shelf stood image.acc ≡ Some other → other ≢ image → WouldAnswer shelf shelf stood badge image bytes (response.Refused Conflict)
      other_answered other is apart = refused Conflict (λ mid beside.
          let there = standing mid beside other is in record {
            holds = (
              there.0,
              there.1,
              λ same. apart (one_image other image (of_standing shelf stood image.acc other is)
                  (sym there.2.0 ∙ same.0) (sym there.2.1.0 ∙ same.1) (sym there.2.1.1 ∙ same.2)),
            );
            lowest = before_conflict mid beside fine;
          })

      -- by what would stand there
      pub shelved_answered : (found : Option Shelved) (new : List Shelved) (answer : Response) → would_stand shelf stood image.acc ≡ found → ShelvesAs found image shelf new answer
          → WouldAnswer shelf new stood badge image bytes answer
      shelved_answered None new answer is (done, more) =
          subst (λ a. WouldAnswer shelf new stood badge image bytes a) (sym done)
          (subst (λ s. WouldAnswer shelf s stood badge image bytes response.Done) (sym more) (new_answered is))
      shelved_answered (Some there) new answer is (inl (same, (done, kept))) =
          subst (λ a. WouldAnswer shelf new stood badge image bytes a) (sym done)
          (subst (λ s. WouldAnswer shelf s stood badge image bytes response.Done) (sym kept) (same_answered (is ∙ ap Some same)))
      shelved_answered (Some there) new answer is (inr (apart, (refused, kept))) =
          subst (λ a. WouldAnswer shelf new stood badge image bytes a) (sym refused)
          (subst (λ s. WouldAnswer shelf s stood badge image bytes (response.Refused Conflict)) (sym kept) (other_answered there is apart))

-- ---- call after call

on_ok : {T X P : Type 0} (r : Result T X) → P → OnOk r P
on_ok (Ok value) holds = holds
on_ok (Err fault) holds = tt

module _ {S X : Type 0} (g : Ghosts S) (shelf : List Shelved) (badge : List ℕ) (image : Shelved) (bytes : List ℕ) (first found : Held S) (keeps : Keeps g first found)
    (opens : IsClean g found → IsOpen g found) where
  -- a caller whom the desk does not know
  pub unknown_reads : (IsOpen g found → None ≡ get (desk g first).keys badge) → Reads {X = X} g first found (Ok (response.Refused UnknownKey)) (WouldAnswer shelf shelf (desk g first) badge image bytes)
  unknown_reads known = record { keeps = keeps; answer = λ o. unknown_key shelf (desk g first) badge image bytes (sym (known o)); ends_open = opens }

  -- one who is none of the staff
  pub staff_reads : (audience : Audience) → audience ≢ Staff → (IsOpen g found → Some audience ≡ get (desk g first).keys badge)
      → Reads {X = X} g first found (Ok (response.Refused StaffOnly)) (WouldAnswer shelf shelf (desk g first) badge image bytes)
  staff_reads audience other known = record { keeps = keeps; answer = λ o. staff_only shelf (desk g first) badge image bytes audience (sym (known o)) other; ends_open = opens }

  module _ (known : IsOpen g found → Some Staff ≡ get (desk g first).keys badge) (judged : Held S) where
    -- an image with a fault of its own
    pub fault_reads : (fault : Refusal) → Reads {X = X} g found judged (Ok (Some fault)) (IsFaultOfImage (desk g found) image bytes)
        → Reads {X = X} g first judged (Ok (response.Refused fault)) (WouldAnswer shelf shelf (desk g first) badge image bytes)
    fault_reads fault reads = record {
      keeps = keeps_then g first found judged keeps (λ was clean. opens clean) reads.keeps;
      answer = λ o.
          let mid = reads.keeps.lasts.was_open o in
          fault_answered shelf (desk g first) badge image bytes (sym (known mid)) fault (subst (λ d. IsFaultOfImage d image bytes (Some fault)) (keeps.same mid) (reads.answer o));
      ends_open = reads.ends_open;
    }

    -- one without
    pub stand_reads : (last : Held S) (r : Result Response X) (standing : Option Shelved) (next : List Shelved) → Reads {X = X} g found judged (Ok None) (IsFaultOfImage (desk g found) image bytes)
        → Reads {X = X} g judged last (Ok standing) (λ there. there ≡ would_stand shelf (desk g judged) image.acc) → IfOk r (ShelvesAs standing image shelf next)
        → Reads g first last r (WouldAnswer shelf next (desk g first) badge image bytes)
    stand_reads last r standing next reads stands shelves =
        let both = keeps_then g first found judged keeps (λ was clean. opens clean) reads.keeps in
        record {
          keeps = keeps_then g first judged last both (λ was clean. reads.ends_open clean) stands.keeps;
          answer = λ o.
              let there = stands.keeps.lasts.was_open o in
              let mid = reads.keeps.lasts.was_open there in
              answered (sym (known mid)) (subst (λ d. IsFaultOfImage d image bytes None) (keeps.same mid) (reads.answer there))
              (sym (stands.answer o ∙ ap (λ (d : Desk). would_stand shelf d image.acc) (both.same there))) r shelves;
          ends_open = λ clean. on_ok r (stands.ends_open clean);
        }
      where
        answered : get (desk g first).keys badge ≡ Some Staff → IsFaultOfImage (desk g first) image bytes None → would_stand shelf (desk g first) image.acc ≡ standing
            → (r : Result Response X) → IfOk r (ShelvesAs standing image shelf next) → IfOk r (WouldAnswer shelf next (desk g first) badge image bytes)
        answered staff fine is (Ok answer) shelves = shelved_answered shelf (desk g first) badge image bytes staff fine standing next answer is shelves
        answered staff fine is (Err fault) shelves = tt
