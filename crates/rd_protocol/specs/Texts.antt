-- The text of each reply: JSON without blanks, each object's keys in the order of their bytes.
use Rattle.std.specs.Prelude.{ℕ, ℤ, List, [], ◌∷◌, ◌++◌, Bool, cond, Option, Some, None, codes, map, option_map, true}
use Rattle.serde_json.specs.Data.{Data, null, boolean, number, unsigned, string, array, object, Members, no_members, member}
use Rattle.serde_json.specs.View.{items_of}
use Rattle.serde_json.specs.Written.{compact_text}
use Rattle.rd_geometry.specs.Kinds.{word_of}
use Rattle.rd_geometry.specs.declared.kind.Kind.{Kind}
use Rattle.rd_geometry.specs.declared.kind.Kind.TheVariants.{Cpm8, D64, D64e}
pub use Rattle.rd_policy.specs.Rules.{effect_word}
use Rattle.hex.specs.Hex.{encode_lower}
use Rattle.rd_policy.specs.Audiences.{audience_word}
use Rattle.rd_policy.specs.Verdicts.{label_text}
use Rattle.rd_policy.specs.declared.audience.Audiences.{Audiences}
use Rattle.rd_policy.specs.declared.rule.Rule.{Rule}
use Rattle.rd_policy.specs.declared.select.Select.{Select}
use Rattle.rd_policy.specs.declared.select.Select.TheVariants.{All as AllFiles, Slot, Prefix, User, Kind as OfType}
pub use Rattle.rd_cbm.specs.Walks.{end_word}
use Rattle.rd_cbm.specs.declared.report.MapReport.{MapReport}
use Rattle.rd_volume.specs.Words.{words_of}
use Rattle.rd_volume.specs.declared.found.Found.{Found}
use Rattle.rd_holdings.specs.declared.rows.Outcome.{Outcome}
use Rattle.rd_holdings.specs.Findings.{outcome_word}
use Rattle.rd_protocol.specs.Catalogues.{catalogue_text}
use Rattle.rd_protocol.specs.DayTexts.{day_text}
use Rattle.rd_protocol.specs.Lent.{held, lent_out}
use Rattle.rd_protocol.specs.Refusals.{name_of, status_of}
use Rattle.rd_protocol.specs.VerdictTables.{differences_text, verdicts_text}
use Rattle.rd_protocol.specs.declared.refusal.Refusal.{Refusal}
use Rattle.rd_protocol.specs.declared.refusal.Refusal.TheVariants.{UnknownKey, StaffOnly, BadBody, NoAccession, NoFile, NoDeed, Denied, ListedOnly, Faulty, WrongSize, DigestDiffers, Conflict}
use Rattle.rd_protocol.specs.declared.response.Form.TheVariants.{Json, Csv, Octets}
use Rattle.rd_protocol.specs.declared.response.CheckLine.{CheckLine}
use Rattle.rd_protocol.specs.declared.response.DeedLine.{DeedLine}
use Rattle.rd_protocol.specs.declared.response.KeyLine.{KeyLine}
use Rattle.rd_protocol.specs.declared.response.TakedownLine.{TakedownLine}
use Rattle.rd_protocol.specs.declared.response.ImageLine.{ImageLine}
use Rattle.rd_protocol.specs.declared.response.Line.{Line}
use Rattle.rd_protocol.specs.declared.response.Listing.{Listing}
use Rattle.rd_protocol.specs.declared.response.Reply.{Reply}
use Rattle.rd_protocol.specs.declared.response.Response.{Response}
use Rattle.rd_protocol.specs.declared.response.Response.TheVariants.{Refused, Done, Images, Listed, File, Catalogue, Surveyed, Checked, Deeds, Takedowns, Keys, Checks, Today, Verdicts, Rehearsed}
use Rattle.rd_protocol.specs.declared.response.Survey.{Survey}

-- ---- values

-- a number, as JSON has it (RFC 8259)
abbrev pub natural : ℕ → Data
natural n = number (unsigned n)

-- a number, or null if there is none
abbrev pub natural_or_null : Option ℕ → Data
natural_or_null None = null
natural_or_null (Some n) = natural n

-- an array of strings
abbrev pub texts : List (List ℕ) → Data
texts words = array (items_of (map (λ word. string word) words))

-- ---- refusals

-- the member `rule`, with a label
abbrev pub rule_member : List ℕ → Members
rule_member rule = member (codes "rule") (string rule) no_members

-- what a reply says of a refusal beside its name: the rule that decided, or the faults
abbrev pub detail_of : Refusal → Members
detail_of UnknownKey = rule_member (codes "K0")
detail_of StaffOnly = rule_member (codes "S0")
detail_of BadBody = no_members
detail_of NoAccession = no_members
detail_of NoFile = no_members
detail_of NoDeed = no_members
detail_of (Denied label) = rule_member (label_text label)
detail_of ListedOnly = no_members
detail_of (Faulty kind faults) = member (codes "faults") (texts (words_of kind faults)) no_members
detail_of WrongSize = no_members
detail_of DigestDiffers = no_members
detail_of Conflict = no_members

-- an object with the name of a refusal, and what else is said of it
abbrev pub error_data : List ℕ → Members → Data
error_data name detail = object (member (codes "error") (string name) detail)

-- ---- what is listed

-- a file, with the word of an effect, its faults and the label of a rule
abbrev pub file_data : List ℕ → Data → List ℕ → Found → Data
file_data effect faults rule file =
    object
    (member (codes "effect") (string effect)
    (member (codes "faults") faults
    (member (codes "name") (string file.name)
    (member (codes "rule") (string rule)
    (member (codes "size") (natural_or_null file.size)
    (member (codes "slot") (natural file.slot)
    (member (codes "type") (string file.ty)
    (member (codes "user") (natural_or_null file.user) no_members))))))))

-- a file of an image of a kind
abbrev pub line_data : Kind → Line → Data
line_data kind line =
    file_data (effect_word line.verdict.effect) (texts (words_of kind line.file.faults)) (label_text line.verdict.label) line.file

-- a listing: an accession, its deed, its kind and its files
abbrev pub listing_data : Listing → Data
listing_data listing =
    object
    (member (codes "accession") (natural listing.accession)
    (member (codes "deed") (natural listing.deed)
    (member (codes "files") (array (items_of (map (line_data listing.kind) listing.files)))
    (member (codes "kind") (string (word_of listing.kind)) no_members))))

-- an accession in the list of images, with the number of its files that the caller may see
abbrev pub image_data : ImageLine → Data
image_data line =
    object
    (member (codes "accession") (natural line.accession)
    (member (codes "deed") (natural line.deed)
    (member (codes "files") (natural line.files)
    (member (codes "kind") (string (word_of line.kind)) no_members))))

-- the list of images
abbrev pub images_data : List ImageLine → Data
images_data lines = object (member (codes "images") (array (items_of (map image_data lines))) no_members)

-- ---- what is surveyed and checked

-- the three counts of a block map
abbrev pub counts_data : MapReport → Data
counts_data map =
    object
    (member (codes "claimed_free") (natural map.claimed_free)
    (member (codes "unclaimed_used") (natural map.unclaimed_used)
    (member (codes "wrong_counts") (natural map.wrong_counts) no_members)))

-- what is wrong with the block map, in counts; a CP/M disk has none
abbrev pub map_data : Kind → MapReport → Data
map_data Cpm8 map = null
map_data D64 map = counts_data map
map_data D64e map = counts_data map

-- a survey, with the words for the kind and for the directory's end, and the value for the block
-- map
abbrev pub survey_data : List ℕ → List ℕ → Data → Survey → Data
survey_data kind directory map survey =
    object
    (member (codes "accession") (natural survey.accession)
    (member (codes "deed") (natural survey.deed)
    (member (codes "directory") (string directory)
    (member (codes "donor") (string survey.donor)
    (member (codes "faulty") (natural survey.report.faulty)
    (member (codes "files") (natural survey.report.files)
    (member (codes "kind") (string kind)
    (member (codes "label") (string survey.report.label)
    (member (codes "map") map
    (member (codes "served") (natural survey.report.served)
    (member (codes "signed") (string survey.signed)
    (member (codes "size_differs") (natural survey.report.size_differs) no_members))))))))))))

-- a survey, with the word for its kind, the word for how its directory ends, and the counts of its block map
abbrev pub surveyed_data : Survey → Data
surveyed_data survey =
    survey_data (word_of survey.kind) (end_word survey.report.directory) (map_data survey.kind survey.report.map) survey

-- the outcome of a check
abbrev pub outcome_data : Outcome → Data
outcome_data found = object (member (codes "outcome") (string (outcome_word found)) no_members)

-- ---- what stands

-- a text, or null if there is none
abbrev pub text_or_null : Option (List ℕ) → Data
text_or_null None = null
text_or_null (Some text) = string text

-- the date of a day, or null if there is none
abbrev pub day_or_null : Option ℤ → Data
day_or_null day = text_or_null (option_map day_text day)

-- a word, if it is wanted
abbrev pub word_if : Bool → List ℕ → List (List ℕ)
word_if wanted word = cond wanted (word ∷ []) []

-- the words of the audiences of a set
abbrev pub audience_words : Audiences → List (List ℕ)
audience_words set = word_if set.public (codes "public") ++ word_if set.room (codes "room") ++ word_if set.staff (codes "staff")

-- an object of one member
abbrev pub one_member : List ℕ → Data → Data
one_member key value = object (member key value no_members)

-- a selector, as {"all":true}, {"slot":3}, {"prefix":"HE"}, {"user":0} or {"type":"PRG"}
abbrev pub select_data : Select → Data
select_data AllFiles = one_member (codes "all") (boolean true)
select_data (Slot slot) = one_member (codes "slot") (natural slot)
select_data (Prefix text) = one_member (codes "prefix") (string text)
select_data (User user) = one_member (codes "user") (natural user)
select_data (OfType text) = one_member (codes "type") (string text)

-- a rule, with its rank
abbrev pub rule_data : Rule → Data
rule_data rule =
    object
    (member (codes "audiences") (texts (audience_words rule.audiences))
    (member (codes "effect") (string (effect_word rule.effect))
    (member (codes "from") (day_or_null rule.from)
    (member (codes "rank") (natural rule.rank)
    (member (codes "select") (select_data rule.select)
    (member (codes "until") (day_or_null rule.until) no_members))))))

-- a deed, with its rules and the count of accessions under it
abbrev pub deed_data : DeedLine → Data
deed_data line =
    object
    (member (codes "accessions") (natural line.accessions)
    (member (codes "deed") (natural line.deed)
    (member (codes "donor") (string line.donor)
    (member (codes "rules") (array (items_of (map rule_data line.rules)))
    (member (codes "signed") (string (day_text line.signed)) no_members)))))

-- an accession with its takedowns
abbrev pub takedown_data : TakedownLine → Data
takedown_data line =
    object
    (member (codes "accession") (natural line.accession)
    (member (codes "rules") (array (items_of (map rule_data line.rules))) no_members))

-- a desk key, by the 64 digits of its digest
abbrev pub key_data : KeyLine → Data
key_data line =
    object
    (member (codes "audience") (string (audience_word line.audience))
    (member (codes "digest") (string (encode_lower line.digest)) no_members))

-- an accession with its latest check
abbrev pub check_data : CheckLine → Data
check_data line =
    object
    (member (codes "accession") (natural line.accession)
    (member (codes "day") (day_or_null (option_map (λ last. last.day) line.last))
    (member (codes "outcome") (text_or_null (option_map (λ last. outcome_word last.outcome) line.last)) no_members)))

-- a day, by its date
abbrev pub day_data : ℤ → Data
day_data day = one_member (codes "day") (string (day_text day))

-- an object whose one member is a list
abbrev pub list_data : {A : Type 0} → List ℕ → (A → Data) → List A → Data
list_data key value lines = one_member key (array (items_of (map value lines)))

-- what is said of a command that was carried out
abbrev pub DONE : Data
DONE = object (member (codes "done") (boolean true) no_members)

-- ---- replies

-- a reply with this status, whose body is the text of this value
abbrev pub in_json : ℕ → Data → Reply
in_json status value = record { status = status; form = Json; body = held (compact_text value) }

-- the reply that says the answer
abbrev pub reply_of : Response → Reply
reply_of (Refused refusal) = in_json (status_of refusal) (error_data (name_of refusal) (detail_of refusal))
reply_of Done = in_json 200 DONE
reply_of (Images lines) = in_json 200 (images_data lines)
reply_of (Listed listing) = in_json 200 (listing_data listing)
reply_of (File contents) = record { status = 200; form = Octets; body = lent_out contents }
reply_of (Catalogue listings) = record { status = 200; form = Csv; body = held (catalogue_text listings) }
reply_of (Surveyed survey) = in_json 200 (surveyed_data survey)
reply_of (Checked found) = in_json 200 (outcome_data found)
reply_of (Deeds lines) = in_json 200 (list_data (codes "deeds") deed_data lines)
reply_of (Takedowns lines) = in_json 200 (list_data (codes "takedowns") takedown_data lines)
reply_of (Keys lines) = in_json 200 (list_data (codes "keys") key_data lines)
reply_of (Checks lines) = in_json 200 (list_data (codes "checks") check_data lines)
reply_of (Today day) = in_json 200 (day_data day)
reply_of (Verdicts verdicts) = record { status = 200; form = Csv; body = held (verdicts_text verdicts) }
reply_of (Rehearsed differences) = record { status = 200; form = Csv; body = held (differences_text differences) }

-- the reply when the database fails, or memory runs out
abbrev pub UNAVAILABLE : Reply
UNAVAILABLE = in_json 503 (error_data (codes "unavailable") no_members)
