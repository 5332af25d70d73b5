-- What stands in a router.
use Rattle.std.specs.Prelude.{ℕ, List, Option, Result, Ok, Err}
use Rattle.std.specs.Option.{option_map}
use Rattle.matchit.specs.Rows.{RowsOf}
use Rattle.matchit.specs.Order.{placed}
use Rattle.matchit.specs.Route.{Scan, parse_route}
use Rattle.matchit.specs.Router.{RouteOf, route_from}
use Rattle.matchit.specs.Seek.{first}
use Rattle.matchit.specs.declared.error.InsertError.{InsertError}
use Rattle.routes.specs.declared.resource.Resource.{Resource}

abbrev pub Rows : Type 0
Rows = RowsOf (RouteOf Resource)

-- what a router answers for a target
abbrev pub answer : Rows → List ℕ → Option Resource
answer rows target = option_map (λ row. row.value) (first rows target)

-- the rows with what a text was read as, in its place
abbrev pub with_scan : Rows → Result Scan InsertError → Resource → Rows
with_scan rows (Ok scan) resource = placed (scan.pattern, route_from scan resource) rows
with_scan rows (Err why) resource = rows

-- the rows with one more of the table
unfoldable pub with_row : Rows → List ℕ × Resource → Rows
with_row rows row = with_scan rows (parse_route row.0) row.1
