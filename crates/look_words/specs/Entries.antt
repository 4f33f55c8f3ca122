-- Boundaries behind which the tracks part before a signal: there trains come in that nothing can hold outside.
use Rattle.std.specs.Prelude.{ℕ, Bool, false, ◌==◌, nat_lt, List, ◌++◌, codes, filter, length}
use Rattle.std.specs.List.{flat_map}
use Rattle.rail_base.specs.declared.route.Start.{Start}
use Rattle.rail_base.specs.declared.route.Start.TheVariants as start
use Rattle.rail_base.specs.declared.route.Route.{Route}
use Rattle.rail_base.specs.declared.station.Station.{Station}
use Rattle.rail_base.specs.Names.{node_name}
use Rattle.rail_base.specs.Numbering.{one_to}
use Rattle.look_words.specs.Looks.{where_so}

-- the start is the boundary at this node
abbrev pub is_entry_at : ℕ → Start → Bool
is_entry_at n (start.Boundary node) = node.0 == n
is_entry_at n _ = false

-- several routes start there
abbrev pub is_open : List Route → ℕ → Bool
is_open routes n = nat_lt 1 (length (filter (λ r. is_entry_at n r.start) routes))

module _ (d : Station) (routes : List Route) where
  -- `behind boundary x the tracks part before a signal`
  abbrev pub open_entry_line : ℕ → List ℕ
  open_entry_line n = codes "behind boundary " ++ node_name d (record { 0 = n }) ++ codes " the tracks part before a signal\n"

  abbrev pub open_entry : ℕ → List (List ℕ)
  open_entry n = where_so (is_open routes n) (open_entry_line n)

  abbrev pub open_entries : List (List ℕ)
  open_entries = flat_map open_entry (one_to (length d.nodes))
