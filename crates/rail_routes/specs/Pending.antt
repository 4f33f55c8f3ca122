-- The closed paths that a search has still to come to.
use Rattle.std.specs.Prelude.{◌≡◌, ℕ, ◌+◌, ◌-◌, ◌≤◌, if◌then◌else◌, List, [], ◌∷◌, ◌++◌, flat_map, reverse, drop, take}
use Rattle.std.specs.Prelude.{length, Option, None, Some, option_map, unwrap_or}
use Rattle.rail_base.specs.declared.station.Station.{Station}
use Rattle.rail_base.specs.declared.station.End.{End}
use Rattle.rail_base.specs.declared.station.EdgeNo.{EdgeNo}
use Rattle.rail_base.specs.Stations.{through, far_end, edge_of, leave, IsNode}
use Rattle.rail_spec.specs.Track.{has_edge, finish_at, Walk, Whole, RepeatsEdge, walks}
use Rattle.rail_spec.specs.Track as track
use Rattle.rail_routes.specs.declared.search.Level.{Level}
use Rattle.rail_routes.specs.declared.search.Search.{Search}
use Rattle.rail_routes.specs.declared.search.Closed.{Closed}
use Rattle.rail_routes.specs.declared.search.Closed.TheVariants as closed
use Rattle.rail_routes.specs.declared.search.Step.{Step}
use Rattle.rail_routes.specs.declared.search.Step.TheVariants as step
use Rattle.rail_routes.specs.Levels.{IsOpen}

-- the closed paths that go on from a path over this edge, at this end, with so many edges after it at most
abbrev pub over : Station → ℕ → List EdgeNo → End → EdgeNo → List Walk
over d edges path end e =
    let there = far_end (edge_of d e) end in
    let longer = path ++ e ∷ [] in
    let further = walks edges d longer (through there) in
    let closed = option_map (λ f. Whole longer f ∷ []) (finish_at d there) in
    if has_edge path e then RepeatsEdge e ∷ [] else unwrap_or closed further

-- those that go on from the front of a path over the edges that a level has still to try
abbrev pub at_level : Station → List EdgeNo → Level → List Walk
at_level d path l =
    flat_map (over d (length d.edges - l.after) (take l.after path) l.from) (drop l.tried (leave d l.from))

-- those of all levels, the innermost first
abbrev pub pending : Station → List EdgeNo → List Level → List Walk
pending d path levels = flat_map (at_level d path) (reverse levels)

-- the station whose paths are searched
abbrev pub station_of : Search → Station
station_of s = s.track.now.design.now.station

-- the closed paths that the search has still to come to
abbrev pub to_come : Search → List Walk
to_come s = pending (station_of s) s.path.edges.items s.levels.items

-- those that go on from its path over the edges that a level has still to try
abbrev pub going_on : Search → Level → List Walk
going_on s l = at_level (station_of s) s.path.edges.items l

-- those that go on from its path over this edge, at this end
abbrev pub going_over : Search → End → EdgeNo → List Walk
going_over s =
    over (station_of s) (length (station_of s).edges - length s.path.edges.items) s.path.edges.items

-- the level is at the end of its path, and has an edge to try
abbrev pub IsInnermost : Search → Level → Type 0
IsInnermost s l = (l.after ≡ length s.path.edges.items) × IsOpen (station_of s) (length s.path.edges.items) l

-- how the path closes
abbrev pub walk_of : List EdgeNo → Closed → Walk
walk_of path (closed.Whole finish) = track.Whole path finish
walk_of path (closed.RepeatsEdge e) = RepeatsEdge e

-- a closed path comes before those that are still to come
abbrev pub closed_then : Option Closed → List EdgeNo → List Walk → List Walk
closed_then None path later = later
closed_then (Some c) path later = walk_of path c ∷ later

-- the closed paths that come of a step along the path
abbrev pub of_step : Station → List EdgeNo → Step → List Walk
of_step d path (step.Closed c) = walk_of path c ∷ []
of_step d path (step.On end) = walks (length d.edges + 1 - length path) d path end

-- the closed paths that come of a step along the search's path
abbrev pub stepping : Search → Step → List Walk
stepping s = of_step (station_of s) s.path.edges.items

-- the closed paths from an end
abbrev pub walks_by : Station → End → List Walk
walks_by d end = walks (length d.edges + 1) d [] end

-- where the path goes on, some edge is there
abbrev pub GoesOn : Station → Step → Type 0
GoesOn d (step.Closed c) = Unit {0}
GoesOn d (step.On end) = IsNode d end.node × (1 ≤ length (leave d end))

-- the path is by one edge longer where it goes on
abbrev pub IsLonger : List EdgeNo → List EdgeNo → Step → Type 0
IsLonger old new (step.Closed c) = Unit {0}
IsLonger old new (step.On end) = length new ≡ length old + 1
