-- Ends of the track where routes end and no train leaves.
use Rattle.std.specs.Prelude.{ℕ, Bool, false, ◌==◌, List, ◌++◌, codes, length}
use Rattle.std.specs.List.{flat_map, list_any}
use Rattle.rail_base.specs.declared.route.Finish.{Finish}
use Rattle.rail_base.specs.declared.route.Finish.TheVariants as finish
use Rattle.rail_base.specs.declared.route.Route.{Route}
use Rattle.rail_base.specs.declared.station.Station.{Station}
use Rattle.rail_base.specs.Names.{node_name}
use Rattle.rail_base.specs.Numbering.{one_to}
use Rattle.look_words.specs.Looks.{where_so}

-- the end is the end of the track at this node
abbrev pub is_dead_at : ℕ → Finish → Bool
is_dead_at n (finish.DeadEnd node) = node.0 == n
is_dead_at n _ = false

-- a route ends there
abbrev pub is_reached : List Route → ℕ → Bool
is_reached routes n = list_any (λ r. is_dead_at n r.finish) routes

module _ (d : Station) (routes : List Route) where
  -- `routes end at node x, where the track ends`
  abbrev pub dead_end_line : ℕ → List ℕ
  dead_end_line n = codes "routes end where the track ends, at node " ++ node_name d (record { 0 = n }) ++ codes "\n"

  abbrev pub dead_end : ℕ → List (List ℕ)
  dead_end n = where_so (is_reached routes n) (dead_end_line n)

  abbrev pub dead_ends : List (List ℕ)
  dead_ends = flat_map dead_end (one_to (length d.nodes))
