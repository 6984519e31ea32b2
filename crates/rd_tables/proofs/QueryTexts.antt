-- What the texts of the queries mean over the tables of a desk.
use Rattle.rd_tables.proofs.Common.{◌≡◌, ℕ, List, [], ◌∷◌, codes, false, refl, Select, Query, Table, Schema, reads_listing, overlay, Trees, Term, Key, IsPlain, command_of, asks_of, at_most, desk_schema, desk_with, deed_query, image_query, marks_query, audience_text, audience_query, rules_text, rules_query, keys_text, keys_query, all_deeds_text, all_deeds_query, all_rules_text, all_rules_query, placed_rules_text, placed_rules_query, batch_text, batch_query, all_keys_text, all_keys_query, all_checks_text, all_checks_query, file_text, file_query, files_text, files_query, all_files_text, all_files_query, all_marks_text, all_marks_query, first_images_text, all_images_query, next_images_text, later_images_query}
use Rattle.sqlite.specs.Listing.{understood}
use Rattle.sqlite_tied.specs.Compute.{everything}
use Rattle.rd_tables.specs.Queries.{deed_text, image_text, marks_text}

-- Over these tables the text asks this of the rows on one tree.
pub record AsksOver (schema : Schema) (text : List ℕ) (tree : ℕ) (tests shown : List Term) (order : List (Term × Key)) : Type 0 where
  pub names : List (List ℕ)
  pub means : command_of (understood schema text) ≡ Select (record { lets = []; body = asks_of tree tests shown order }) names
  pub plain : IsPlain (understood schema text)
  pub stored : reads_listing schema text ≡ false
  pub here : (trees : Trees) → overlay trees [] tree ≡ trees tree

-- Over these tables the text asks for the first rows of the answer to this.
pub record AsksStart (schema : Schema) (text : List ℕ) (most tree : ℕ) (tests shown : List Term) (order : List (Term × Key)) : Type 0 where
  pub names : List (List ℕ)
  pub means : command_of (understood schema text) ≡ Select (record { lets = []; body = at_most most (asks_of tree tests shown order) }) names
  pub plain : IsPlain (understood schema text)
  pub stored : reads_listing schema text ≡ false
  pub here : (trees : Trees) → overlay trees [] tree ≡ trees tree

-- over the tables of a desk
abbrev pub Asks : List ℕ → ℕ → List Term → List Term → List (Term × Key) → Type 0
Asks = AsksOver desk_schema

-- the same of a query that is written out
abbrev pub AsksBy : List ℕ → ℕ → Query → Type 0
AsksBy text tree query = Asks text tree query.filter query.project query.order

-- and over the tables of each version
abbrev pub AsksInEach : List ℕ → ℕ → Query → Type 0
AsksInEach text tree query = (more : List Table) → AsksOver (desk_with more) text tree query.filter query.project query.order

-- of the first rows
abbrev pub AsksStartInEach : List ℕ → ℕ → ℕ → Query → Type 0
AsksStartInEach text most tree query = (more : List Table) → AsksStart (desk_with more) text most tree query.filter query.project query.order

pub deed_asks : AsksBy deed_text 1 deed_query
unfolding understood everything
deed_asks = record { names = codes "donor" ∷ codes "signed" ∷ []; means = refl; plain = (refl, refl); stored = refl; here = λ trees. refl }

pub image_asks : AsksInEach image_text 2 image_query
unfolding understood everything
image_asks more = record { names = codes "kind" ∷ codes "deed" ∷ codes "digest" ∷ codes "bytes" ∷ []; means = refl; plain = (refl, refl); stored = refl; here = λ trees. refl }

pub marks_asks : AsksBy marks_text 11 marks_query
unfolding understood everything
marks_asks = record { names = codes "bytes" ∷ []; means = refl; plain = (refl, refl); stored = refl; here = λ trees. refl }

pub audience_asks : AsksBy audience_text 5 audience_query
unfolding understood everything
audience_asks = record { names = codes "audience" ∷ []; means = refl; plain = (refl, refl); stored = refl; here = λ trees. refl }

pub rules_asks : AsksBy rules_text 3 rules_query
unfolding understood everything
rules_asks = record {
  names = codes "band" ∷ codes "scope" ∷ codes "rank" ∷ codes "audiences" ∷ codes "day_from" ∷ codes "day_until" ∷ codes "how" ∷ codes "number" ∷ codes "word" ∷ codes "effect" ∷ [];
  means = refl;
  plain = (refl, refl);
  stored = refl;
  here = λ trees. refl;
}

pub placed_rules_asks : AsksBy placed_rules_text 3 placed_rules_query
unfolding understood everything
placed_rules_asks = record {
  names = codes "band" ∷ codes "scope" ∷ codes "rank" ∷ codes "audiences" ∷ codes "day_from" ∷ codes "day_until" ∷ codes "how" ∷ codes "number" ∷ codes "word" ∷ codes "effect" ∷ [];
  means = refl;
  plain = (refl, refl);
  stored = refl;
  here = λ trees. refl;
}

pub keys_asks : AsksBy keys_text 5 keys_query
unfolding understood everything
keys_asks = record { names = codes "digest" ∷ codes "audience" ∷ []; means = refl; plain = (refl, refl); stored = refl; here = λ trees. refl }

pub all_deeds_asks : AsksInEach all_deeds_text 1 all_deeds_query
unfolding understood everything
all_deeds_asks more = record { names = codes "num" ∷ codes "donor" ∷ codes "signed" ∷ []; means = refl; plain = (refl, refl); stored = refl; here = λ trees. refl }

pub all_rules_asks : AsksInEach all_rules_text 3 all_rules_query
unfolding understood everything
all_rules_asks more = record { names = codes "rowid" ∷ codes "band" ∷ codes "scope" ∷ codes "rank" ∷ codes "audiences" ∷ codes "day_from" ∷ codes "day_until" ∷ codes "how" ∷ codes "number" ∷ codes "word" ∷ codes "effect" ∷ []; means = refl; plain = (refl, refl); stored = refl; here = λ trees. refl }

pub all_keys_asks : AsksInEach all_keys_text 5 all_keys_query
unfolding understood everything
all_keys_asks more = record { names = codes "rowid" ∷ codes "digest" ∷ codes "audience" ∷ []; means = refl; plain = (refl, refl); stored = refl; here = λ trees. refl }

pub all_checks_asks : AsksInEach all_checks_text 7 all_checks_query
unfolding understood everything
all_checks_asks more = record { names = codes "rowid" ∷ codes "acc" ∷ codes "day" ∷ codes "outcome" ∷ []; means = refl; plain = (refl, refl); stored = refl; here = λ trees. refl }

-- what is told of a file, in the order of the columns
file_names : List (List ℕ)
file_names = codes "slot" ∷ codes "name" ∷ codes "ty" ∷ codes "user_no" ∷ codes "served" ∷ codes "size" ∷ codes "faults" ∷ codes "units" ∷ codes "last_len" ∷ []

pub file_asks : AsksBy file_text 9 file_query
unfolding understood everything file_names
file_asks = record { names = file_names; means = refl; plain = (refl, refl); stored = refl; here = λ trees. refl }

pub files_asks : AsksInEach files_text 9 files_query
unfolding understood everything file_names
files_asks more = record { names = file_names; means = refl; plain = (refl, refl); stored = refl; here = λ trees. refl }

pub batch_asks : AsksBy batch_text 9 batch_query
unfolding understood everything
batch_asks = record {
  names = codes "slot" ∷ codes "name" ∷ codes "ty" ∷ codes "user_no" ∷ codes "served" ∷ codes "size" ∷ codes "faults" ∷ codes "units" ∷ codes "last_len" ∷ codes "acc" ∷ [];
  means = refl;
  plain = (refl, refl);
  stored = refl;
  here = λ trees. refl;
}

pub all_files_asks : AsksInEach all_files_text 9 all_files_query
unfolding understood everything
all_files_asks more = record { names = codes "rowid" ∷ codes "acc" ∷ []; means = refl; plain = (refl, refl); stored = refl; here = λ trees. refl }

pub all_marks_asks : AsksBy all_marks_text 11 all_marks_query
unfolding understood everything
all_marks_asks = record { names = codes "acc" ∷ codes "length(bytes)" ∷ codes "typeof(bytes)" ∷ []; means = refl; plain = (refl, refl); stored = refl; here = λ trees. refl }

-- the columns of an image that is walked
image_names : List (List ℕ)
image_names = codes "acc" ∷ codes "kind" ∷ codes "deed" ∷ codes "digest" ∷ codes "length(bytes)" ∷ codes "typeof(bytes)" ∷ codes "bytes" ∷ []

pub first_images_asks : AsksStartInEach first_images_text 8 2 all_images_query
unfolding understood everything image_names
first_images_asks more = record { names = image_names; means = refl; plain = (refl, refl); stored = refl; here = λ trees. refl }

pub next_images_asks : AsksStartInEach next_images_text 8 2 later_images_query
unfolding understood everything image_names
next_images_asks more = record { names = image_names; means = refl; plain = (refl, refl); stored = refl; here = λ trees. refl }
