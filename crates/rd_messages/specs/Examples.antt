-- Targets, and what they name.
use Rattle.std.specs.Prelude.{◌≡◌, ℤ, true, Option, Some, None, [], ◌∷◌, ◌++◌, codes, map, pos, refl, replicate}
use Rattle.std.proofs.Common.{◌∙◌, ap, rules, sym}
use Rattle.jiff_core.specs.declared.civil.date.Date.{Date}
use Rattle.jiff_core.proofs.DateLemmas.{days_from_civil-max}
use Rattle.jiff_fmt.proofs.StandardFacts.{leap-day}
use Rattle.hex.proofs.OnLiterals.{hex_on_literals}
use Rattle.matchit.proofs.OnLiterals.{matchit_on_literals}
use Rattle.rd_geometry.specs.declared.kind.Kind.TheVariants.{D64}
use Rattle.rd_policy.proofs.DateLemmas.{parse_date-IsDateOf}
use Rattle.rd_policy.specs.declared.rule.Band.TheVariants as band
use Rattle.rd_messages.specs.Methods.{method_named}
use Rattle.rd_messages.specs.PathDays.{day_found, day_of_date}
use Rattle.rd_messages.specs.PathValues.{◌>>=◌, values_in}
use Rattle.rd_messages.specs.Routes.{matched, route_of}
use Rattle.rd_messages.specs.Table.{all_insert, requests, router_rows}
use Rattle.rd_messages.specs.declared.enquiry.Enquiry.TheVariants.{Bytes, Survey, Check, Catalogue, Deeds, Takedowns, Keys, Checks, Today, Verdicts, VerdictsOf}
use Rattle.rd_messages.specs.declared.method.Method.TheVariants as method
use Rattle.rd_messages.specs.declared.method.Methods.{Methods}
use Rattle.rd_messages.specs.declared.method.Methods.TheVariants.{Get, Post, Put, PutOrDelete}
use Rattle.rd_messages.specs.declared.route.Route.{Route}
use Rattle.rd_messages.specs.declared.table.Served.{Served}
use Rattle.rd_messages.specs.declared.table.Subject.{Subject}
use Rattle.rd_messages.specs.declared.table.Subject.TheVariants.{ByPath, Image, Rule, Rehearsal}
use Rattle.rd_messages.specs.declared.values.Values.{Values}

-- what is served at a path
abbrev served : Methods → Subject → Served
served methods subject = record { methods = methods; subject = subject }

-- what a path names
abbrev named : Methods → Subject → Values → Option Route
named methods subject values = Some (record { served = served methods subject; values = values })

-- the values of a path that names none
abbrev no_values : Values
no_values = record { acc = 1; slot = 0; rank = 1; day = pos 0; kind = D64; deed = 1; digest = replicate 32 0 }

-- what a path names by a date, if it is one
abbrev named_on : Methods → Subject → (ℤ → Values) → Option ℤ → Option Route
named_on methods subject values day = (day >>= (λ day. Some (values day))) >>= (λ values. named methods subject values)

-- each row reads well, and conflicts with none before it
pub each_row_inserts : all_insert requests [] ≡ true
unfolding matchit_on_literals
each_row_inserts = refl

-- the path of a file has the row of files, and its parts are the accession and the slot
pub file_matched : matched (codes "/images/12/files/0") ≡ Some (served Get (ByPath Bytes), (codes "acc", codes "12") ∷ (codes "slot", codes "0") ∷ [])
unfolding matched router_rows matchit_on_literals
file_matched = refl

-- a path with the slot left out has no row
pub nothing_matched : matched (codes "/images/12/files") ≡ None
unfolding matched router_rows matchit_on_literals
nothing_matched = refl

-- a query is not read
pub file_routed : route_of (codes "/images/12/files/0?slot=1") ≡ named Get (ByPath Bytes) (record no_values { acc = 12; slot = 0 })
unfolding matched router_rows matchit_on_literals
file_routed = refl

-- the survey of accession 12, its check, and the catalogue of all files that the caller may see listed
pub enquiries_routed : map route_of (codes "/images/12/survey" ∷ codes "/images/12/check" ∷ codes "/catalogue" ∷ [])
    ≡ named Get (ByPath Survey) (record no_values { acc = 12 })
    ∷ named Post (ByPath Check) (record no_values { acc = 12 })
    ∷ named Get (ByPath Catalogue) no_values
    ∷ []
unfolding matched router_rows matchit_on_literals
enquiries_routed = refl

-- the deeds, the takedowns, the desk keys, the checks and the day
pub lists_routed : map route_of (codes "/staff/deeds" ∷ codes "/staff/takedowns" ∷ codes "/staff/keys" ∷ codes "/staff/checks" ∷ codes "/staff/today" ∷ [])
    ≡ map (λ enquiry. named Get (ByPath enquiry) no_values) (Deeds ∷ Takedowns ∷ Keys ∷ Checks ∷ Today ∷ [])
unfolding matched router_rows matchit_on_literals
lists_routed = refl

-- 9999-12-31, the last day, is 2,932,896 days after 1970-01-01
pub last_day : day_of_date (codes "9999-12-31") ≡ Some (pos 2_932_896)
last_day =
    let date : Date = record { year = pos 9999; month = 12; day = 31; year_in = search rules; month_in = search rules; day_in = search rules } in
    sym (day_found (codes "9999-12-31") (Some (pos 2_932_896)) (record { date = date; number = days_from_civil-max; in_range = search rules; written = refl }))

-- the verdicts of that day
pub verdicts_routed : route_of (codes "/staff/verdicts/9999-12-31") ≡ named Get (ByPath Verdicts) (record no_values { day = pos 2_932_896 })
unfolding matched router_rows matchit_on_literals
verdicts_routed = ap (named_on Get (ByPath Verdicts) (λ day. record no_values { day = day })) last_day

-- those on accession 12 alone
pub verdicts_of_one_routed : route_of (codes "/staff/verdicts/9999-12-31/12")
    ≡ named Get (ByPath VerdictsOf) (record no_values { day = pos 2_932_896; acc = 12 })
unfolding matched router_rows matchit_on_literals
verdicts_of_one_routed = ap (named_on Get (ByPath VerdictsOf) (λ day. record no_values { day = day; acc = 12 })) last_day

-- a path names no day that the calendar lacks
pub no_day : day_of_date (codes "2023-02-29") ≡ None
no_day = sym (day_found (codes "2023-02-29") None (λ day is. cc (sym leap-day ∙ parse_date-IsDateOf day (codes "2023-02-29") is)))

pub other_day_refused : route_of (codes "/staff/verdicts/2023-02-29") ≡ None
unfolding matched router_rows matchit_on_literals
other_day_refused = ap (named_on Get (ByPath Verdicts) (λ day. record no_values { day = day })) no_day

-- the parts of a rehearsal: a date, a deed or an accession, and a rank
pub deed_rehearsal_matched : matched (codes "/staff/rehearsals/d/deeds/7/rules/1")
    ≡ Some (served PutOrDelete (Rehearsal band.Deed), (codes "date", codes "d") ∷ (codes "deed", codes "7") ∷ (codes "rank", codes "1") ∷ [])
unfolding matched router_rows matchit_on_literals
deed_rehearsal_matched = refl

pub takedown_rehearsal_matched : matched (codes "/staff/rehearsals/d/images/7/rules/1")
    ≡ Some (served PutOrDelete (Rehearsal band.Takedown), (codes "date", codes "d") ∷ (codes "acc", codes "7") ∷ (codes "rank", codes "1") ∷ [])
unfolding matched router_rows matchit_on_literals
takedown_rehearsal_matched = refl

-- the values of a rehearsal on that day: the rule of rank 10 of deed 7
pub rehearsal_values : values_in ((codes "date", codes "9999-12-31") ∷ (codes "deed", codes "7") ∷ (codes "rank", codes "10") ∷ [])
    ≡ Some (record no_values { day = pos 2_932_896; deed = 7; rank = 10 })
rehearsal_values = ap (λ found. found >>= (λ day. Some (record no_values { day = day; deed = 7; rank = 10 }))) last_day

-- the takedown of rank 10 of accession 12
pub takedown_routed : route_of (codes "/images/12/rules/10") ≡ named PutOrDelete (Rule band.Takedown) (record no_values { acc = 12; rank = 10 })
unfolding matched router_rows matchit_on_literals
takedown_routed = refl

-- the rule of rank 10 of deed 7
pub deed_rule_routed : route_of (codes "/deeds/7/rules/10") ≡ named PutOrDelete (Rule band.Deed) (record no_values { deed = 7; rank = 10 })
unfolding matched router_rows matchit_on_literals
deed_rule_routed = refl

-- the image of accession 12, a D64 that came by deed 7; its digest has small and capital letters
pub image_routed : route_of (codes "/accessions/12/d64/7/0a0A0a0A0a0A0a0A0a0A0a0A0a0A0a0A0a0A0a0A0a0A0a0A0a0A0a0A0a0A0a0A")
    ≡ named Put Image (record no_values { acc = 12; kind = D64; deed = 7; digest = replicate 32 10 })
unfolding matched router_rows matchit_on_literals hex_on_literals
image_routed = refl

-- the number of a deed has no zero in front
pub leading_zero_refused : route_of (codes "/deeds/07") ≡ None
unfolding matched router_rows matchit_on_literals
leading_zero_refused = refl

-- a number of an accession or a deed has at most six digits
pub seven_digits_refused : route_of (codes "/deeds/1000000") ≡ None
unfolding matched router_rows matchit_on_literals
seven_digits_refused = refl

-- slot 0 is written 0, and not 00
pub slot_00_refused : route_of (codes "/images/12/files/00") ≡ None
unfolding matched router_rows matchit_on_literals
slot_00_refused = refl

-- `%31` is not decoded to `1`
pub nothing_decoded : route_of (codes "/images/%31") ≡ None
unfolding matched router_rows matchit_on_literals
nothing_decoded = refl

-- a byte above 127
pub other_byte_refused : route_of (codes "/deeds/7" ++ 200 ∷ []) ≡ None
unfolding matched router_rows matchit_on_literals
other_byte_refused = refl

-- POST, where a route takes it
pub post_named : method_named Post (codes "POST") ≡ Some method.Post
post_named = refl

-- small and capital letters of a method differ (RFC 9110)
pub small_letters_refused : method_named Get (codes "get") ≡ None
small_letters_refused = refl
