-- What a target names.
use Rattle.std.specs.Prelude.{◌==◌, ℕ, List, Option, Some, None, option_map, if◌then◌else◌}
use Rattle.std.specs.Char.{is_ascii}
use Rattle.std.specs.List.{before_first, list_all}
use Rattle.matchit.specs.Params.{walk}
use Rattle.matchit.specs.Router.{RouteOf}
use Rattle.matchit.specs.Seek.{first}
use Rattle.rd_messages.specs.PathValues.{◌>>=◌, NamedParts, values_in}
use Rattle.rd_messages.specs.Table.{router_rows}
use Rattle.rd_messages.specs.declared.route.Route.{Route}
use Rattle.rd_messages.specs.declared.table.Served.{Served}

-- each name in braces of a row, with the part of a path that stands for it
abbrev pub parts_of : RouteOf Served → List ℕ → NamedParts
parts_of row path = walk row.pattern row.text path row.names 0 0

-- what is served at a path, and the parts that its row names
unfoldable pub matched : List ℕ → Option (Served × NamedParts)
matched path = option_map (λ row. (row.value, parts_of row path)) (first router_rows path)

-- the same with the values that the parts write
abbrev pub route_of_match : Served × NamedParts → Option Route
route_of_match (served, parts) = do
  values ← values_in parts
  Some (record { served = served; values = values })

-- what a path names: no row and no well-written part has a byte above 127, so a path with one names nothing
abbrev pub route_of_path : List ℕ → Option Route
route_of_path path = if list_all is_ascii path then matched path >>= route_of_match else None

-- the path of a target: what stands before the first question mark, whose code is 63, or all of it
abbrev pub path_of : List ℕ → List ℕ
path_of target = before_first (λ byte. byte == 63) target

-- what a target names; nothing in it is decoded first
abbrev pub route_of : List ℕ → Option Route
route_of target = route_of_path (path_of target)
