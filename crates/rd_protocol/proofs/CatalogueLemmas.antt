-- The accessions as they are listed, one after the other, and as a whole.
use Rattle.std.proofs.Common.{◌<◌, ◌++◌, ◌∷◌, [], ℕ, ℤ, zero, suc, List, All, AllPairs, Contains, arith, length, subst, sym}
use Rattle.std.specs.List.{AllZip}
use Rattle.std.proofs.lemmas.List.Elements.{All-cons, All-head, All-tail}
use Rattle.std.proofs.lemmas.List.Kept.{AllPairs-cons}
use Rattle.std.specs.FinMap.{keys}
use Rattle.rd_policy.specs.declared.audience.Audience.{Audience}
use Rattle.rd_holdings.specs.State.{Desk}
use Rattle.rd_protocol.specs.Replies.{AreListings, IsListing}
use Rattle.rd_protocol.specs.declared.response.Listing.{Listing}
use Rattle.rd_protocol.proofs.Numbers.{among_keys, keys_ascend}
use Rattle.rd_protocol.proofs.OneAnswer.{one_listing}

module _ (desk : Desk) (audience : Audience) (day : ℤ) where
  abbrev Listed : ℕ → Listing → Type 0
  Listed = IsListing desk audience day

  -- one accession more
  pub listing_more : (accs : List ℕ) (listings : List Listing) (acc : ℕ) (listing : Listing) → AllZip Listed accs listings → Listed acc listing
      → AllZip Listed (accs ++ acc ∷ []) (listings ++ listing ∷ [])
  listing_more [] [] acc listing none listed = (listed, tt)
  listing_more [] (first ∷ listings) acc listing none listed = absurd none
  listing_more (first ∷ accs) [] acc listing none listed = absurd none
  listing_more (first ∷ accs) (one ∷ listings) acc listing (is, more) listed = (is, listing_more accs listings acc listing more listed)

  here : (acc : ℕ) (listing : Listing) → Listed acc listing → Listed listing.accession listing
  here acc listing is = subst (λ n. Listed n listing) (sym is.accession) is

  each : (accs : List ℕ) (listings : List Listing) → AllZip Listed accs listings → All (λ listing. Listed listing.accession listing) listings
  each accs [] of = λ k d within. absurd (omega (arith, within))
  each [] (listing ∷ listings) none = absurd none
  each (acc ∷ accs) (listing ∷ listings) (is, more) =
      All-cons (λ (l : Listing). Listed l.accession l) listing listings (here acc listing is) (each accs listings more)

  above : (low : ℕ) (accs : List ℕ) (listings : List Listing) → All (λ n. low < n) accs → AllZip Listed accs listings → All (λ listing. low < listing.accession) listings
  above low accs [] over of = λ k d within. absurd (omega (arith, within))
  above low [] (listing ∷ listings) over none = absurd none
  above low (acc ∷ accs) (listing ∷ listings) over (is, more) =
      All-cons (λ (l : Listing). low < l.accession) listing listings (subst (λ n. low < n) (sym is.accession) (All-head (λ n. low < n) acc accs over))
      (above low accs listings (All-tail (λ n. low < n) acc accs over) more)

  ascend : (accs : List ℕ) (listings : List Listing) → AllPairs (λ m n. m < n) accs → AllZip Listed accs listings
      → AllPairs (λ one other. one.accession < other.accession) listings
  ascend accs [] ascending of = λ k j d before within. absurd (omega (arith, within))
  ascend [] (listing ∷ listings) ascending none = absurd none
  ascend (acc ∷ accs) (listing ∷ listings) ascending (is, more) =
      let after : AllPairs (λ m n. m < n) accs = λ k j d before within. ascending (suc k) (suc j) d (omega (arith, before)) (omega (arith, within)) in
      let over : All (λ n. acc < n) accs = λ k d within. ascending 0 (suc k) d (omega arith) (omega (arith, within)) in
      let all : All (λ (l : Listing). listing.accession < l.accession) listings =
      subst (λ n. All (λ (l : Listing). n < l.accession) listings) (sym is.accession) (above acc accs listings over more) in
      AllPairs-cons (λ (one other : Listing). one.accession < other.accession) listing listings all (ascend accs listings after more)

  have : (accs : List ℕ) (listings : List Listing) (listing : Listing) → AllZip Listed accs listings → Contains accs listing.accession
      → Listed listing.accession listing → Contains listings listing
  have [] listings listing of (k, within, is) listed = absurd (let low : k < 0 = within in omega (arith, low))
  have (acc ∷ accs) [] listing none there listed = absurd none
  have (acc ∷ accs) (first ∷ listings) listing (is, more) (zero, within, same) listed =
      (zero, omega arith, one_listing audience day desk acc first listing is (subst (λ n. Listed n listing) (sym same) listed))
  have (acc ∷ accs) (first ∷ listings) listing (is, more) (suc k, within, same) listed =
      let there : Contains listings listing = have accs listings listing more (k, omega (arith, within), same) listed in
      (suc there.0, (let low : there.0 < length listings = there.1 in omega (arith, low)), there.2)

  -- all accessions are listed
  pub listings_are : (listings : List Listing) → AllZip Listed (keys desk.images) listings → AreListings desk audience day listings
  listings_are listings of = record {
    each = each (keys desk.images) listings of;
    ascending = ascend (keys desk.images) listings (keys_ascend desk.images) of;
    complete = λ listing listed. have (keys desk.images) listings listing of (among_keys desk.images listing.accession listed.image listed.standing) listed;
  }
