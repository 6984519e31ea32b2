-- The names in a row of the router and the parts of a path of ASCII are texts.
use Rattle.std.proofs.Common.{◌≡◌, ◌==◌, ◌-◌, ◌&&◌, ℕ, zero, suc, List, [], ◌∷◌, Bool, true, false, cond, Option, Some, None, IfSome, length, take, drop, IsAscii, leb, ltb, refl, subst}
use Rattle.std.specs.Char.{is_ascii}
use Rattle.std.specs.List.{list_all}
use Rattle.std.proofs.lemmas.Bool.{and_parts}
use Rattle.std.proofs.lemmas.Str.{IsAscii-take, IsAscii-drop, IsUtf8-from_ascii}
use Rattle.std.proofs.lemmas.Str.Ascii.{IsAscii-nil}
use Rattle.matchit.specs.Params.{AllText, part_of, walk}
use Rattle.matchit.specs.Router.{RouteOf}
use Rattle.matchit.specs.Rows.{RowsOf, catch_all_token, param_token}
use Rattle.matchit.specs.Seek.{first, has_slash, longest_suffix, or_else, own, param_step, same_text, seek, segment, step, with_suffix}
use Rattle.matchit.proofs.OnLiterals.{matchit_on_literals}
use Rattle.rd_messages.specs.Routes.{parts_of}
use Rattle.rd_messages.specs.Table.{Rows, router_rows}
use Rattle.rd_messages.specs.declared.table.Served.{Served}
use Rattle.rd_messages.proofs.RouteLemmas.{ascii_from_test}

-- ---- what holds of each row holds of the one that a path has

module _ {K : Type 0} (P : K → Type 0) where
  abbrev HoldsOfAll : RowsOf K → Type 0
  HoldsOfAll [] = Unit {0}
  HoldsOfAll (row ∷ rest) = P row.1 × HoldsOfAll rest

  in_own : (rows : RowsOf K) → HoldsOfAll rows → IfSome (own rows) P
  in_own [] all = tt
  in_own (([], key) ∷ rest) all = all.0
  in_own ((token ∷ tokens, key) ∷ rest) all = in_own rest all.1

  in_kept : (test : Bool) (row : List ℕ × K) (rest : RowsOf K) → P row.1 → HoldsOfAll rest → HoldsOfAll (cond test (row ∷ rest) rest)
  in_kept true row rest is all = (is, all)
  in_kept false row rest is all = all

  in_step : (token : ℕ) (rows : RowsOf K) → HoldsOfAll rows → HoldsOfAll (step token rows)
  in_step token [] all = tt
  in_step token (([], key) ∷ rest) all = in_step token rest all.1
  in_step token ((x ∷ tokens, key) ∷ rest) all = in_kept (x == token) (tokens, key) (step token rest) all.0 (in_step token rest all.1)

  in_suffix : (suffix : List ℕ) (rows : RowsOf K) → HoldsOfAll rows → HoldsOfAll (with_suffix suffix rows)
  in_suffix suffix [] all = tt
  in_suffix suffix ((tokens, key) ∷ rest) all =
      in_kept (same_text (segment tokens) suffix) (tokens, key) (with_suffix suffix rest) all.0 (in_suffix suffix rest all.1)

  in_chosen : (test : Bool) (one other : ℕ × RowsOf K) → HoldsOfAll one.1 → HoldsOfAll other.1 → HoldsOfAll (cond test one other).1
  in_chosen true one other first second = first
  in_chosen false one other first second = second

  in_param : (rows : RowsOf K) (path : List ℕ) → HoldsOfAll rows → HoldsOfAll (param_step rows path).1
  unfolding param_step
  in_param rows path all =
      let suffix = longest_suffix (segment path) rows in
      in_chosen (ltb 0 (length suffix)) (length (segment path) - length suffix, with_suffix suffix rows) (cond (has_slash path) (0, []) (length path, rows))
      (in_suffix suffix rows all) (in_chosen (has_slash path) (0, []) (length path, rows) tt all)

  in_either : (one other : Option K) → IfSome one P → IfSome other P → IfSome (or_else one other) P
  in_either None other first second = second
  in_either (Some key) other first second = first

  in_seek : (skip : ℕ) (rows : RowsOf K) (path : List ℕ) → HoldsOfAll rows → IfSome (seek skip rows path) P
  unfolding seek
  in_seek zero rows [] all = in_own rows all
  in_seek (suc skip) rows [] all = in_own rows all
  in_seek (suc skip) rows (byte ∷ path) all = in_seek skip rows path all
  in_seek zero rows (byte ∷ path) all =
      in_either _ _ (in_seek 0 (step byte rows) path (in_step byte rows all))
      (in_either _ _
      (in_seek _ _ path (in_param (step param_token rows) (byte ∷ path) (in_step param_token rows all)))
      (in_own (step catch_all_token rows) (in_step catch_all_token rows all)))

-- ---- texts

-- the text of a row is of ASCII
abbrev IsPlain : RouteOf Served → Type 0
IsPlain row = list_all is_ascii row.text ≡ true

abbrev all_plain : Rows → Bool
all_plain [] = true
all_plain (row ∷ rest) = list_all is_ascii row.1.text && all_plain rest

plain_by_test : (rows : Rows) → all_plain rows ≡ true → HoldsOfAll IsPlain rows
plain_by_test [] test = tt
plain_by_test (row ∷ rest) test = let parts = and_parts (list_all is_ascii row.1.text) (all_plain rest) test in (parts.0, plain_by_test rest parts.1)

rows_are_plain : all_plain router_rows ≡ true
unfolding router_rows matchit_on_literals
rows_are_plain = refl

-- a part of a text of ASCII is of ASCII
part_ascii : (bytes : List ℕ) (start end : ℕ) → IsAscii bytes → IsAscii (part_of bytes start end)
part_ascii bytes start end ascii =
    elim (leb start end && leb end (length bytes)) as (λ within. IsAscii (cond within (take (end - start) (drop start bytes)) [])) [
      | true ↦ IsAscii-take _ (end - start) (IsAscii-drop bytes start ascii)
      | false ↦ IsAscii-nil
    ]

walked_texts : (pattern text path : List ℕ) (names : List (ℕ × ℕ)) (token at : ℕ) → IsAscii text → IsAscii path
    → AllText (walk pattern text path names token at)
walked_texts pattern text path [] token at plain ascii = tt
walked_texts pattern text path (name ∷ rest) token at plain ascii = (
  IsUtf8-from_ascii _ (part_ascii text _ _ plain),
  IsUtf8-from_ascii _ (part_ascii path _ _ ascii),
  walked_texts pattern text path rest _ _ plain ascii,
)

pub named_texts : (path : List ℕ) (row : RouteOf Served) → list_all is_ascii path ≡ true → first router_rows path ≡ Some row → AllText (parts_of row path)
named_texts path row ascii found =
    let plain : IsPlain row = subst (λ found. IfSome found IsPlain) found (in_seek IsPlain 0 router_rows path (plain_by_test router_rows rows_are_plain)) in
    walked_texts row.pattern row.text path row.names 0 0 (ascii_from_test row.text plain) (ascii_from_test path ascii)
