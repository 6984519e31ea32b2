-- The texts of listings tell of each file no more than is shown of it.
use Rattle.std.proofs.Common.{◌≡◌, ◌∙◌, ◌++◌, ℕ, List, [], ap, codes, map, refl, sym}
use Rattle.std.specs.List.{flat_map}
use Rattle.std.proofs.lemmas.List.Folds.{flat_map-map}
use Rattle.std.proofs.lemmas.Simd.{map-map}
use Rattle.csv.specs.Writing.{default_writer, row_text}
use Rattle.serde_json.specs.Data.{Data, string, array, object, no_members, member}
use Rattle.serde_json.specs.View.{items_of}
use Rattle.rd_geometry.specs.Kinds.{word_of}
use Rattle.rd_geometry.specs.declared.kind.Kind.{Kind}
use Rattle.rd_protocol.specs.Catalogues.{COLUMNS, catalogue_text, record_of, records_text}
use Rattle.rd_protocol.specs.Shown.{ListedFile, listed_of}
use Rattle.rd_protocol.specs.Texts.{line_data, listing_data, natural}
use Rattle.rd_protocol.specs.declared.response.Line.{Line}
use Rattle.rd_protocol.specs.declared.response.Listing.{Listing}

-- a line that tells this of a file, and nothing of where it lies
abbrev line_of : ListedFile → Line
line_of listed = record {
  file = record {
    slot = listed.slot;
    name = listed.name;
    ty = listed.ty;
    user = listed.user;
    served_class = listed.served_class;
    size = listed.size;
    faults = listed.faults;
    units = [];
    last_len = 0;
  };
  verdict = listed.verdict;
}

-- What is shown of an accession: its number, deed and kind, and of each of its files what is shown of it.
pub record ListedImage : Type 0 where
  pub accession : ℕ
  pub deed : ℕ
  pub kind : Kind
  pub files : List ListedFile

abbrev pub shown_of : Listing → ListedImage
shown_of listing = record { accession = listing.accession; deed = listing.deed; kind = listing.kind; files = map listed_of listing.files }

-- a listing that tells this
abbrev listing_of : ListedImage → Listing
listing_of listed = record { accession = listed.accession; deed = listed.deed; kind = listed.kind; files = map line_of listed.files }

-- what is made of each line, made of what is shown of it
lines_told : {B : Type 0} (described : Line → B) → ((line : Line) → described line ≡ described (line_of (listed_of line))) → (lines : List Line)
    → map described lines ≡ map described (map line_of (map listed_of lines))
lines_told described same lines =
    (λ i. map (λ line. same line i) lines)
    ∙ sym (map-map (λ listed. described (line_of listed)) listed_of lines)
    ∙ sym (map-map described line_of (map listed_of lines))

-- a listing with these values for its files
abbrev with_files : Listing → List Data → Data
with_files listing files =
    object
    (member (codes "accession") (natural listing.accession)
    (member (codes "deed") (natural listing.deed)
    (member (codes "files") (array (items_of files))
    (member (codes "kind") (string (word_of listing.kind)) no_members))))

listing_told : (listing : Listing) → listing_data listing ≡ listing_data (listing_of (shown_of listing))
listing_told listing = ap (with_files listing) (lines_told (line_data listing.kind) (λ line. refl) listing.files)

pub same_listing : (one other : Listing) → shown_of one ≡ shown_of other → listing_data one ≡ listing_data other
same_listing one other same = listing_told one ∙ ap (λ listed. listing_data (listing_of listed)) same ∙ sym (listing_told other)

-- ---- tables

records_told : (listing : Listing) → records_text listing ≡ records_text (listing_of (shown_of listing))
records_told listing =
    let row : Line → List ℕ = λ line. row_text default_writer (record_of listing line) in
    sym (flat_map-map (λ listed. row (line_of listed)) listed_of listing.files)
    ∙ sym (flat_map-map row line_of (map listed_of listing.files))

-- the records of an accession, made of what is shown of it
abbrev shown_records : ListedImage → List ℕ
shown_records listed = records_text (listing_of listed)

all_told : (listings : List Listing) → flat_map records_text listings ≡ flat_map shown_records (map shown_of listings)
all_told listings = (λ i. flat_map (λ listing. records_told listing i) listings) ∙ sym (flat_map-map shown_records shown_of listings)

pub same_catalogue : (ones others : List Listing) → map shown_of ones ≡ map shown_of others → catalogue_text ones ≡ catalogue_text others
unfolding catalogue_text
same_catalogue ones others same = ap (λ rows. row_text default_writer COLUMNS ++ rows) (all_told ones ∙ ap (flat_map shown_records) same ∙ sym (all_told others))
