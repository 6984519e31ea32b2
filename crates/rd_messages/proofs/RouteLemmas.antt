-- What a target names: its path, its parts, and the limits of their values.
use Rattle.std.proofs.Common.{◌≡◌, ◌==◌, ◌≤◌, ℕ, ℤ, pos, List, [], ◌∷◌, true, false, refl, ap, ⊎_elim, Option, Some, None, IfSome, if◌then◌else◌, IsAscii, IsUtf8, length, nat_lt, position, take, take_all, codes, replicate, rules}
use Rattle.std.specs.Char.{is_ascii}
use Rattle.std.specs.List.{list_all, position_or_len}
use Rattle.std.proofs.lemmas.Bool.{and_parts, cases_lt, cond-true, lt-ltb, ltb-true}
use Rattle.std.proofs.lemmas.Option.{cond_some}
use Rattle.std.proofs.lemmas.Str.{IsUtf8-from_ascii}
use Rattle.std.proofs.lemmas.Str.Ascii.{IsAscii-nil, IsAscii-cons}
use Rattle.matchit.specs.Params.{named}
use Rattle.matchit.specs.Router.{RouteOf}
use Rattle.matchit.specs.Seek.{first}
use Rattle.rd_geometry.specs.declared.kind.Kind.TheVariants.{D64}
use Rattle.rd_policy.specs.Days.{IsDay}
use Rattle.rd_policy.specs.Rules.{IsScope, IsRank}
use Rattle.rd_policy.specs.declared.limits.TheConstants.{LAST_SLOT}
use Rattle.rd_protocol.specs.Parts.{digest_of, kind_of, rank_of, scope_of, slot_of}
use Rattle.rd_protocol.proofs.PartLemmas.{rank_within, scope_within, slot_within}
use Rattle.rd_messages.specs.PathDays.{Dates, dated_by, day_of_date}
use Rattle.rd_messages.specs.PathValues.{◌>>=◌, AreWithin, NamedParts, day_in, value_at, values_in}
use Rattle.rd_messages.specs.Routes.{matched, parts_of, path_of, route_of, route_of_match, route_of_path}
use Rattle.rd_messages.specs.Table.{router_rows}
use Rattle.rd_messages.specs.declared.route.Route.{Route}
use Rattle.rd_messages.specs.declared.table.Served.{Served}

-- ---- paths

-- the path of a target in which a question mark stands
pub path_before : (target : List ℕ) (end : ℕ) → position (λ byte. byte == 63) target ≡ Some end → path_of target ≡ take end target
path_before target end found =
    ap (λ n. take n target) (cond_some (nat_lt (position_or_len (λ byte. byte == 63) target) (length target)) (position_or_len (λ byte. byte == 63) target) end found).1

-- a target without a question mark is a path
pub path_whole : (target : List ℕ) → position (λ byte. byte == 63) target ≡ None → path_of target ≡ target
path_whole target missing =
    let place = position_or_len (λ byte. byte == 63) target in
    ⊎_elim
    (λ inside. cc (cond-true (nat_lt place (length target)) (Some place) None (lt-ltb place (length target) inside)))
    (λ outside. take_all place target outside)
    (cases_lt place (length target))

pub ascii_from_test : (bytes : List ℕ) → list_all is_ascii bytes ≡ true → IsAscii bytes
ascii_from_test [] test = IsAscii-nil
ascii_from_test (byte ∷ rest) test =
    let parts = and_parts (is_ascii byte) (list_all is_ascii rest) test in
    IsAscii-cons byte rest (ltb-true byte 128 parts.0) (ascii_from_test rest parts.1)

pub text_from_test : (bytes : List ℕ) → list_all is_ascii bytes ≡ true → IsUtf8 bytes
text_from_test bytes test = IsUtf8-from_ascii bytes (ascii_from_test bytes test)

-- what a path names that has a row
pub path_names : (path : List ℕ) (row : RouteOf Served) → list_all is_ascii path ≡ true → first router_rows path ≡ Some row
    → route_of_path path ≡ route_of_match (row.value, parts_of row path)
unfolding matched
path_names path row ascii found = rw (ascii, found) refl

-- a path that has no row names nothing
pub path_names_nothing : (path : List ℕ) → list_all is_ascii path ≡ true → first router_rows path ≡ None → route_of_path path ≡ None
unfolding matched
path_names_nothing path ascii missing = rw (ascii, missing) refl

-- ---- limits

module _ {A B : Type 0} (Q : B → Type 0) where
  -- what holds after a step that gives a value of which something is known
  step_within : (P : A → Type 0) (step : Option A) (next : A → Option B)
      → IfSome step P → ((value : A) → P value → IfSome (next value) Q) → IfSome (step >>= next) Q
  step_within P None next is follows = tt
  step_within P (Some value) next is follows = follows value is

  -- the same of a step of whose value nothing is known
  step_free : (step : Option A) (next : A → Option B) → ((value : A) → IfSome (next value) Q) → IfSome (step >>= next) Q
  step_free None next follows = tt
  step_free (Some value) next follows = follows value

-- what holds of each value that a part writes, and of the least, holds of the value of a name
at_within : {A : Type 0} (P : A → Type 0) (part : Option (List ℕ)) (read : List ℕ → Option A) (least : A)
    → ((text : List ℕ) → IfSome (read text) P) → P least → IfSome (value_at part read least) P
at_within P None read least each is = is
at_within P (Some text) read least each is = each text

-- each day that a date names has a date
day_within : (text : List ℕ) → IfSome (day_of_date text) IsDay
day_within text = in_range (day_of_date text) (dated_by text).1
  where
    in_range : (found : Option ℤ) → Dates text found → IfSome found IsDay
    in_range None none = tt
    in_range (Some day) is = is.in_range

values_within : (parts : NamedParts) → IfSome (values_in parts) AreWithin
values_within parts =
    step_within AreWithin IsDay (day_in parts) _ (at_within IsDay (named (codes "date") parts) day_of_date (pos 0) day_within (search rules))
    (λ day of_day. step_within AreWithin IsScope _ _ (at_within IsScope (named (codes "acc") parts) scope_of 1 scope_within (search rules))
    (λ acc of_acc. step_within AreWithin (λ slot. slot ≤ LAST_SLOT) _ _ (at_within (λ slot. slot ≤ LAST_SLOT) (named (codes "slot") parts) slot_of 0 slot_within (search rules))
    (λ slot of_slot. step_within AreWithin IsRank _ _ (at_within IsRank (named (codes "rank") parts) rank_of 1 rank_within (search rules))
    (λ rank of_rank. step_free AreWithin (value_at (named (codes "kind") parts) kind_of D64) _
    (λ kind. step_within AreWithin IsScope _ _ (at_within IsScope (named (codes "deed") parts) scope_of 1 scope_within (search rules))
    (λ deed of_deed. step_free AreWithin (value_at (named (codes "digest") parts) digest_of (replicate 32 0)) _
    (λ digest. record { acc = of_acc; slot = of_slot; rank = of_rank; day = of_day; deed = of_deed })))))))

pub route_within : (target : List ℕ) → IfSome (route_of target) (λ route. AreWithin route.values)
route_within target =
    let Fits : Route → Type 0 = λ route. AreWithin route.values in
    elim (list_all is_ascii (path_of target)) as (λ test. IfSome (if test then matched (path_of target) >>= route_of_match else None) Fits) [
      | true ↦ step_free Fits (matched (path_of target)) route_of_match
          (λ found. step_within Fits AreWithin (values_in found.1) _ (values_within found.1) (λ values within. within))
      | false ↦ tt
    ]
