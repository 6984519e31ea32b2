-- What was written is read.
use Rattle.std.proofs.Common.{◌≡◌, ◌∙◌, ◌≢◌, ◌<◌, ◌^◌, ℕ, ℤ, pos, negsuc, List, [], ◌∷◌, ◌||◌, Bool, codes, cond, Global, Option, None, Some, String, IfNone, IfSome, ap, arith, bytes_eq, map, option_and_then, refl, subst, sym, unwrap_or}
use Rattle.std.proofs.lemmas.Bool.{lt-ltb}
use Rattle.std.proofs.lemmas.Int.{ints}
use Rattle.std.specs.List.{list_any}
use Rattle.std.specs.Prelude.{slice_get}
use Rattle.std.specs.Result.{result_ok}
use Rattle.std.specs.String.{string_bytes}
use Rattle.hex.specs.Hex.{encode_lower, lower_digits}
use Rattle.hex.proofs.HexLemmas.{IsDigits-lower_digits, decode_pairs-encode_with, length-encode_with}
use Rattle.hex.proofs.Pairs.{decode_sized-pairs}
use Rattle.serde_json.specs.Data.{Data, string, object, Items}
use Rattle.serde_json.specs.Find.{as_i64, as_number, as_object, as_str, get}
use Rattle.serde_json.specs.Read.{read}
use Rattle.serde_json.specs.View.{items_of, members_view, view}
use Rattle.serde_json.specs.declared.value.Value.{Value}
use Rattle.rd_policy.specs.Days.{HasDay}
use Rattle.rd_policy.specs.declared.rule.Band.{Band}
use Rattle.rd_policy.specs.declared.rule.Band.TheVariants.{Takedown, Deed as OfDeed}
use Rattle.rd_policy.specs.declared.rule.Rule.{Rule as NewRule}
use Rattle.rd_policy.specs.declared.select.Select.{Select}
use Rattle.rd_policy.specs.declared.select.Select.TheVariants.{All as AllFiles}
use Rattle.rd_protocol.specs.Parts.{digest_of}
use Rattle.rd_protocol.specs.Texts.{natural, one_member, select_data}
use Rattle.rd_history.specs.Entries.{HasDigests, IsChange, IsDigest, IsEntry, TellsDigests, cause_word}
use Rattle.rd_history.specs.Lines.{change_data, digest_data, drop_data, entry_data, integer, put_data}
use Rattle.rd_history.specs.Reading.{IsLineOf, IsNoLine, Reads, ReadsPlace, ReadsRule, first_member}
use Rattle.rd_history.specs.declared.entry.Cause.{Cause}
use Rattle.rd_history.specs.declared.entry.Change.{Change}
use Rattle.rd_history.specs.declared.entry.Change.TheVariants.{Begin, Deed, Image, Rule, DropRule, Key, DropKey, Void}
use Rattle.rd_history.specs.declared.entry.Entry.{Entry}
use Rattle.rd_history.proofs.LineEntries.{band_in, data_tag, drop_band, has, put_band, tag, tagged}
use Rattle.rd_history.proofs.LineLemmas.{entry_read_back}

-- ---- parts of a value

-- what an object that stands at a key has at another
abbrev pub part : List ℕ → List ℕ → Data → Option Data
part outer inner value = option_and_then (get inner) (get outer value)

-- of words that are all different, one is read
pub read_word : {X : Type 0} (word_of : X → List ℕ) (of_word : List ℕ → X) → ((x : X) → of_word (word_of x) ≡ x)
    → (found : Option X) (other : X) (text : List ℕ) → IfSome found (λ x. text ≡ word_of x) → IfNone found ((x : X) → text ≢ word_of x)
    → (x : X) → text ≡ word_of x → unwrap_or found other ≡ x
read_word word_of of_word back None other text some none x is = absurd (none x is)
read_word word_of of_word back (Some y) other text some none x is = sym (back y) ∙ ap of_word (sym some ∙ is) ∙ back x

pub digest_read : (digest : List ℕ) → IsDigest digest → digest_of (encode_lower digest) ≡ Some digest
digest_read digest is =
    let long = length-encode_with lower_digits digest in
    ap result_ok
    (decode_sized-pairs (encode_lower digest) 32 (omega (arith, long, is.0)) (omega (arith, long, is.0))
    ∙ decode_pairs-encode_with lower_digits IsDigits-lower_digits 0 digest is.1)

pub moment_read : (moment : ℤ) → HasDay moment → option_and_then as_i64 (as_number (integer moment)) ≡ Some moment
moment_read (pos n) is = let small : n < 2 ^ 63 = omega (arith, ints, is.1) in ap (λ (b : Bool). cond b (Some (pos n)) None) (lt-ltb n (2 ^ 63) small)
moment_read (negsuc n) is = refl

pub same_items : (one other : Items) → Some one ≡ Some other → one ≡ other
same_items one other same = cc

-- a word is found among values exactly where it is one of the texts that they are
pub has_read : (values : List Value) (words : List (List ℕ)) (word : List ℕ) → items_of (map view values) ≡ items_of (map (λ word. string word) words)
    → list_any (λ value. bytes_eq (unwrap_or (as_str (view value)) []) word) values ≡ has word words
has_read [] [] word same = refl
has_read [] (other ∷ words) word same = absurd cc
has_read (value ∷ values) [] word same = absurd cc
has_read (value ∷ values) (other ∷ words) word same =
    let first : view value ≡ string other = cc in
    let rest : items_of (map view values) ≡ items_of (map (λ word. string word) words) = cc in
    ap (λ d. bytes_eq (unwrap_or (as_str d) []) word || list_any (λ value. bytes_eq (unwrap_or (as_str (view value)) []) word) values) first
    ∙ ap (λ more. bytes_eq other word || more) (has_read values words word rest)

-- ---- values of one member

pub first_read : (value : Data) (entries : List (String Global × Value)) (entry : String Global × Value) → Some (members_view entries) ≡ as_object value
    → slice_get entries 0 ≡ Some entry → one_member (string_bytes entry.0) (view entry.1) ≡ first_member value
first_read (object ms) [] entry seen first = absurd cc
first_read (object ms) (one ∷ entries) entry seen first =
    let same : one ≡ entry = cc in
    let whole : members_view (one ∷ entries) ≡ ms = cc in
    ap (λ one. one_member (string_bytes one.0) (view one.1)) (sym same) ∙ ap (λ ms. first_member (object ms)) whole
first_read other entries entry seen first = absurd cc

put_single : (band : Band) (rule : NewRule) → first_member (put_data band rule) ≡ put_data band rule
put_single Takedown rule = refl
put_single OfDeed rule = refl

drop_single : (band : Band) (scope rank : ℕ) → first_member (drop_data band scope rank) ≡ drop_data band scope rank
drop_single Takedown scope rank = refl
drop_single OfDeed scope rank = refl

pub single : (change : Change) → first_member (change_data change) ≡ change_data change
single (Rule rule) = put_single rule.band rule
single (DropRule band scope rank) = drop_single band scope rank
single other = refl

pub select_single : (select : Select) → first_member (select_data select) ≡ select_data select
select_single AllFiles = refl
select_single other = refl

-- ---- changes

-- a value that is written as a change is of its first member alone
pub at_first : (key : List ℕ) (found value : Data) → one_member key found ≡ first_member value
    → (change : Change) → value ≡ change_data change → one_member key found ≡ change_data change
at_first key found value first change same = first ∙ ap first_member same ∙ single change

-- what stands at a key is read of a value whose first member it is
pub moved : (key other : List ℕ) (found value : Data) (read : Change) → key ≡ other → one_member key found ≡ first_member value
    → Reads (one_member other found) read → Reads value read
moved key other found value read key_is first reads change is digests same =
    reads change is digests (ap (λ key. one_member key found) (sym key_is) ∙ at_first key found value first change same)

-- a change that is written as the value has its tag
pub tag_of : (value : Data) (change : Change) → value ≡ change_data change → tag change ≡ data_tag value
tag_of value change same = sym (tagged change) ∙ ap data_tag (sym same)

pub read_begin : (found : Data) (read : ℕ) → ((count : ℕ) → count < 2 ^ 32 → found ≡ natural count → read ≡ count)
    → Reads (one_member (codes "begin") found) (Begin read)
read_begin found read reads change is digests same = only change (tag_of _ change same) is same
  where
    only : (change : Change) → tag change ≡ 0 → IsChange change → one_member (codes "begin") found ≡ change_data change → Begin read ≡ change
    only (Begin count) tags is same = ap Begin (reads count (omega (arith, is)) cc)
    only other tags is same = absurd (omega (arith, tags))

pub read_takedown : (found : Data) (read : NewRule) → ReadsRule Takedown (codes "accession") found read
    → Reads (one_member (codes "takedown") found) (Rule read)
read_takedown found read reads change is digests same = only change (tag_of _ change same) is same
  where
    only : (change : Change) → tag change ≡ 3 → IsChange change → one_member (codes "takedown") found ≡ change_data change → Rule read ≡ change
    only (Rule rule) tags is same =
        let band : rule.band ≡ Takedown = sym (put_band rule.band rule) ∙ ap (band_in 0) (sym same) in
        let whole : one_member (codes "takedown") found ≡ put_data Takedown rule = same ∙ ap (λ band. put_data band rule) band in
        ap Rule (reads rule is band (ap (part (codes "takedown") (codes "accession")) whole) (ap (part (codes "takedown") (codes "rule")) whole))
    only other tags is same = absurd (omega (arith, tags))

pub read_rule : (found : Data) (read : NewRule) → ReadsRule OfDeed (codes "deed") found read
    → Reads (one_member (codes "rule") found) (Rule read)
read_rule found read reads change is digests same = only change (tag_of _ change same) is same
  where
    only : (change : Change) → tag change ≡ 3 → IsChange change → one_member (codes "rule") found ≡ change_data change → Rule read ≡ change
    only (Rule rule) tags is same =
        let band : rule.band ≡ OfDeed = sym (put_band rule.band rule) ∙ ap (band_in 0) (sym same) in
        let whole : one_member (codes "rule") found ≡ put_data OfDeed rule = same ∙ ap (λ band. put_data band rule) band in
        ap Rule (reads rule is band (ap (part (codes "rule") (codes "deed")) whole) (ap (part (codes "rule") (codes "rule")) whole))
    only other tags is same = absurd (omega (arith, tags))

pub read_drop_takedown : (found : Data) (read : Change) → ReadsPlace Takedown (codes "accession") found read
    → Reads (one_member (codes "drop_takedown") found) read
read_drop_takedown found read reads change is digests same = only change (tag_of _ change same) is same
  where
    only : (change : Change) → tag change ≡ 4 → IsChange change → one_member (codes "drop_takedown") found ≡ change_data change → read ≡ change
    only (DropRule band scope rank) tags is same =
        let at : band ≡ Takedown = sym (drop_band band scope rank) ∙ ap (band_in 5) (sym same) in
        let whole : one_member (codes "drop_takedown") found ≡ drop_data Takedown scope rank = same ∙ ap (λ band. drop_data band scope rank) at in
        reads scope rank is.0 is.1 (ap (part (codes "drop_takedown") (codes "accession")) whole) (ap (part (codes "drop_takedown") (codes "rank")) whole)
        ∙ ap (λ band. DropRule band scope rank) (sym at)
    only other tags is same = absurd (omega (arith, tags))

pub read_drop_rule : (found : Data) (read : Change) → ReadsPlace OfDeed (codes "deed") found read
    → Reads (one_member (codes "drop_rule") found) read
read_drop_rule found read reads change is digests same = only change (tag_of _ change same) is same
  where
    only : (change : Change) → tag change ≡ 4 → IsChange change → one_member (codes "drop_rule") found ≡ change_data change → read ≡ change
    only (DropRule band scope rank) tags is same =
        let at : band ≡ OfDeed = sym (drop_band band scope rank) ∙ ap (band_in 5) (sym same) in
        let whole : one_member (codes "drop_rule") found ≡ drop_data OfDeed scope rank = same ∙ ap (λ band. drop_data band scope rank) at in
        reads scope rank is.0 is.1 (ap (part (codes "drop_rule") (codes "deed")) whole) (ap (part (codes "drop_rule") (codes "rank")) whole)
        ∙ ap (λ band. DropRule band scope rank) (sym at)
    only other tags is same = absurd (omega (arith, tags))

pub read_drop_key : (found : Data) (read : List ℕ) → ((digest : List ℕ) → IsDigest digest → get (codes "digest") found ≡ Some (digest_data digest) → read ≡ digest)
    → Reads (one_member (codes "drop_key") found) (DropKey read)
read_drop_key found read reads change is digests same = only change (tag_of _ change same) digests same
  where
    only : (change : Change) → tag change ≡ 6 → TellsDigests change → one_member (codes "drop_key") found ≡ change_data change → DropKey read ≡ change
    only (DropKey digest) tags digests same = ap DropKey (reads digest digests (ap (part (codes "drop_key") (codes "digest")) same))
    only other tags digests same = absurd (omega (arith, tags))

pub read_void : (key : List ℕ) (found : Data) (read : Cause) → key ≢ codes "begin" → key ≢ codes "deed" → key ≢ codes "image"
    → key ≢ codes "takedown" → key ≢ codes "rule" → key ≢ codes "drop_takedown" → key ≢ codes "drop_rule" → key ≢ codes "key" → key ≢ codes "drop_key"
    → ((cause : Cause) → found ≡ string (cause_word cause) → read ≡ cause) → Reads (one_member key found) (Void read)
read_void key found read begin deed image takedown rule drop_takedown drop_rule for_key drop_key reads change is digests same = only change same
  where
    put : (band : Band) (one : NewRule) → one_member key found ≡ put_data band one → Void read ≡ Rule one
    put Takedown one same = absurd (takedown cc)
    put OfDeed one same = absurd (rule cc)

    drop : (band : Band) (scope rank : ℕ) → one_member key found ≡ drop_data band scope rank → Void read ≡ DropRule band scope rank
    drop Takedown scope rank same = absurd (drop_takedown cc)
    drop OfDeed scope rank same = absurd (drop_rule cc)

    only : (change : Change) → one_member key found ≡ change_data change → Void read ≡ change
    only (Begin count) same = absurd (begin cc)
    only (Deed num donor signed) same = absurd (deed cc)
    only (Image acc kind under digest) same = absurd (image cc)
    only (Rule one) same = put one.band one same
    only (DropRule band scope rank) same = drop band scope rank same
    only (Key digest audience) same = absurd (for_key cc)
    only (DropKey digest) same = absurd (drop_key cc)
    only (Void cause) same = ap Void (reads cause cc)

-- ---- lines

pub unreadable : (line : List ℕ) → read line ≡ None → IsNoLine line
unreadable line none entry is =
    let both : Some (entry_data entry) ≡ None = sym (entry_read_back entry is.within) ∙ ap read is.written ∙ none in absurd cc

-- where each entry of which this could be the line is one of which it is not, it is the line of none
pub not_read : (line : List ℕ) (value : Data) (one : Entry) → read line ≡ Some value
    → ((entry : Entry) → IsEntry entry → HasDigests entry → value ≡ entry_data entry → one ≡ entry) → ¬ IsLineOf line one → IsNoLine line
not_read line value one reads each not entry is =
    let both : Some value ≡ Some (entry_data entry) = sym reads ∙ ap read (sym is.written) ∙ entry_read_back entry is.within in
    let same : value ≡ entry_data entry = cc in
    not (subst (IsLineOf line) (sym (each entry is.within is.digests same)) is)
