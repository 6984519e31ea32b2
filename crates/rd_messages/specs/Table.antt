-- The requests that desk serves, in one table, and the router that takes it in.
use Rattle.std.specs.Prelude.{◌&&◌, ℕ, List, [], ◌∷◌, Bool, true, false, not, is_some, Result, Ok, Err, codes}
use Rattle.matchit.specs.Order.{placed}
use Rattle.matchit.specs.Route.{Scan, parse_route}
use Rattle.matchit.specs.Router.{RouteOf, nearest, route_from}
use Rattle.matchit.specs.Rows.{RowsOf}
use Rattle.matchit.specs.declared.error.InsertError.{InsertError}
use Rattle.rd_policy.specs.declared.rule.Band.TheVariants as band
use Rattle.rd_messages.specs.declared.method.Methods.{Methods}
use Rattle.rd_messages.specs.declared.method.Methods.TheVariants.{Get, Post, Put, PutOrDelete}
use Rattle.rd_messages.specs.declared.enquiry.Enquiry.TheVariants.{Images, Listing, Bytes, Survey, Check, Catalogue, Deeds, Takedowns, Keys, Checks, Today, Verdicts, VerdictsOf}
use Rattle.rd_messages.specs.declared.table.Served.{Served}
use Rattle.rd_messages.specs.declared.table.Subject.{Subject}
use Rattle.rd_messages.specs.declared.table.Subject.TheVariants.{ByPath, Image, Deed, Rule, Badge, Rehearsal}

-- each row: its paths, where a name in braces stands for a part that writes the value of this name, the methods that it
-- takes, and what they are about; in the order in which the router takes them in
abbrev pub requests : List (List ℕ × Methods × Subject)
requests =
    (codes "/images", Get, ByPath Images)
    ∷ (codes "/images/{acc}", Get, ByPath Listing)
    ∷ (codes "/images/{acc}/files/{slot}", Get, ByPath Bytes)
    ∷ (codes "/images/{acc}/survey", Get, ByPath Survey)
    ∷ (codes "/images/{acc}/check", Post, ByPath Check)
    ∷ (codes "/images/{acc}/rules/{rank}", PutOrDelete, Rule band.Takedown)
    ∷ (codes "/accessions/{acc}/{kind}/{deed}/{digest}", Put, Image)
    ∷ (codes "/deeds/{deed}", Put, Deed)
    ∷ (codes "/deeds/{deed}/rules/{rank}", PutOrDelete, Rule band.Deed)
    ∷ (codes "/badges/{digest}", PutOrDelete, Badge)
    ∷ (codes "/catalogue", Get, ByPath Catalogue)
    ∷ (codes "/staff/deeds", Get, ByPath Deeds)
    ∷ (codes "/staff/takedowns", Get, ByPath Takedowns)
    ∷ (codes "/staff/keys", Get, ByPath Keys)
    ∷ (codes "/staff/checks", Get, ByPath Checks)
    ∷ (codes "/staff/today", Get, ByPath Today)
    ∷ (codes "/staff/verdicts/{date}", Get, ByPath Verdicts)
    ∷ (codes "/staff/verdicts/{date}/{acc}", Get, ByPath VerdictsOf)
    ∷ (codes "/staff/rehearsals/{date}/deeds/{deed}/rules/{rank}", PutOrDelete, Rehearsal band.Deed)
    ∷ (codes "/staff/rehearsals/{date}/images/{acc}/rules/{rank}", PutOrDelete, Rehearsal band.Takedown)
    ∷ []

-- ---- routers

-- what a router keeps
abbrev pub Rows : Type 0
Rows = RowsOf (RouteOf Served)

-- the rows of a router with one more, if its paths read well
abbrev pub with_row : Result Scan InsertError → Served → Rows → Rows
with_row (Ok scan) served rows = placed (scan.pattern, route_from scan served) rows
with_row (Err fault) served rows = rows

-- the rows with those of a table, which are taken in in their order
abbrev pub with_rows : List (List ℕ × Methods × Subject) → Rows → Rows
with_rows [] rows = rows
with_rows ((text, methods, subject) ∷ rest) rows =
    with_rows rest (with_row (parse_route text) (record { methods = methods; subject = subject }) rows)

-- the paths of a row read well, and no row conflicts with it
abbrev pub inserts : Result Scan InsertError → Rows → Bool
inserts (Ok scan) rows = not (is_some (nearest scan.pattern rows))
inserts (Err fault) rows = false

-- each row goes in beside those before it
abbrev pub all_insert : List (List ℕ × Methods × Subject) → Rows → Bool
all_insert [] rows = true
all_insert ((text, methods, subject) ∷ rest) rows =
    inserts (parse_route text) rows
    && all_insert rest (with_row (parse_route text) (record { methods = methods; subject = subject }) rows)

-- the rows of the router that takes in the table
unfoldable pub router_rows : Rows
router_rows = with_rows requests []
