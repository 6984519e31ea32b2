-- The line of an entry: JSON without blanks, each object's keys in the order of their bytes.
use Rattle.std.specs.Prelude.{ℕ, ℤ, List, codes, option_map}
use Rattle.hex.specs.Hex.{encode_lower}
use Rattle.serde_json.specs.Data.{Data, number, string, object, no_members, member}
use Rattle.serde_json.specs.Find.{of_integer}
use Rattle.serde_json.specs.Written.{compact_text}
use Rattle.rd_geometry.specs.Kinds.{word_of}
use Rattle.rd_policy.specs.declared.rule.Band.{Band}
use Rattle.rd_policy.specs.declared.rule.Band.TheVariants.{Takedown, Deed as OfDeed}
use Rattle.rd_policy.specs.declared.rule.Rule.{Rule as NewRule}
use Rattle.rd_protocol.specs.DayTexts.{day_text}
use Rattle.rd_protocol.specs.Texts.{key_data, natural, one_member, rule_data, text_or_null}
use Rattle.rd_history.specs.Entries.{cause_word}
use Rattle.rd_history.specs.declared.entry.Change.{Change}
use Rattle.rd_history.specs.declared.entry.Change.TheVariants.{Begin, Deed, Image, Rule, DropRule, Key, DropKey, Void}
use Rattle.rd_history.specs.declared.entry.Entry.{Entry}

-- a whole number, with its sign
abbrev pub integer : ℤ → Data
integer z = number (of_integer z)

-- a digest, by its 64 digits
abbrev pub digest_data : List ℕ → Data
digest_data digest = string (encode_lower digest)

-- a rule with its rank, by the values of its audiences, its days and its selector
abbrev pub terms_data : Data → List ℕ → Data → ℕ → Data → Data → Data
terms_data audiences effect from rank select until =
    object
    (member (codes "audiences") audiences
    (member (codes "effect") (string effect)
    (member (codes "from") from
    (member (codes "rank") (natural rank)
    (member (codes "select") select
    (member (codes "until") until no_members))))))

-- to take in an image, by the value of its digest and the word of its kind
abbrev pub deposit_data : ℕ → ℕ → Data → List ℕ → Data
deposit_data acc deed digest kind =
    one_member (codes "image")
    (object
    (member (codes "accession") (natural acc)
    (member (codes "deed") (natural deed)
    (member (codes "digest") digest
    (member (codes "kind") (string kind) no_members)))))

-- to put a rule, by its band
abbrev pub put_data : Band → NewRule → Data
put_data Takedown rule =
    one_member (codes "takedown")
    (object
    (member (codes "accession") (natural rule.scope)
    (member (codes "rule") (rule_data rule) no_members)))
put_data OfDeed rule =
    one_member (codes "rule")
    (object
    (member (codes "deed") (natural rule.scope)
    (member (codes "rule") (rule_data rule) no_members)))

-- to drop the rule at a place, by its band
abbrev pub drop_data : Band → ℕ → ℕ → Data
drop_data Takedown scope rank =
    one_member (codes "drop_takedown")
    (object
    (member (codes "accession") (natural scope)
    (member (codes "rank") (natural rank) no_members)))
drop_data OfDeed scope rank =
    one_member (codes "drop_rule")
    (object
    (member (codes "deed") (natural scope)
    (member (codes "rank") (natural rank) no_members)))

-- a change, as an object of one member
abbrev pub change_data : Change → Data
change_data (Begin count) = one_member (codes "begin") (natural count)
change_data (Deed num donor signed) =
    one_member (codes "deed")
    (object
    (member (codes "deed") (natural num)
    (member (codes "donor") (string donor)
    (member (codes "signed") (string (day_text signed)) no_members))))
change_data (Image acc kind deed digest) = deposit_data acc deed (digest_data digest) (word_of kind)
change_data (Rule rule) = put_data rule.band rule
change_data (DropRule band scope rank) = drop_data band scope rank
change_data (Key digest audience) =
    one_member (codes "key") (key_data (record { digest = digest; audience = audience }))
change_data (DropKey digest) =
    one_member (codes "drop_key") (one_member (codes "digest") (digest_data digest))
change_data (Void cause) = one_member (codes "void") (string (cause_word cause))

-- an entry, with the values of its badge and its change
abbrev pub line_data : Data → Data → Entry → Data
line_data badge change entry =
    object
    (member (codes "badge") badge
    (member (codes "change") change
    (member (codes "moment") (integer entry.moment)
    (member (codes "note") (string entry.note)
    (member (codes "number") (natural entry.number)
    (member (codes "staff") (string entry.staff) no_members))))))

-- an entry
abbrev pub entry_data : Entry → Data
entry_data entry =
    line_data (text_or_null (option_map encode_lower entry.badge)) (change_data entry.change) entry

-- the line of an entry
abbrev pub line_of : Entry → List ℕ
line_of entry = compact_text (entry_data entry)
