-- Routes: their lengths, their sections and where these are released. A route is measured in mm from its start.
use Rattle.std.specs.Prelude.{ℕ, ◌≤◌, Bool, true, false, ◌||◌, ◌==◌, List, [], ◌++◌, map, filter, length, pos, nat_abs, fold, max}
use Rattle.std.specs.List.{list_any}
use Rattle.rail_base.specs.declared.station.SectionNo.{SectionNo}
use Rattle.rail_base.specs.declared.route.Route.{Route}
use Rattle.rail_base.specs.declared.route.RouteNo.{RouteNo}
use Rattle.rail_base.specs.declared.route.Start.TheVariants as start
use Rattle.rail_base.specs.declared.route.Finish.{Finish}
use Rattle.rail_base.specs.declared.route.Finish.TheVariants as finish
use Rattle.rail_base.specs.Numbering.{entry}

-- the route that none is
abbrev pub no_route : Route
no_route = record {
  start = start.Boundary (record { 0 = 0 });
  finish = finish.DeadEnd (record { 0 = 0 });
  length = pos 0;
  edges = [];
  nodes = [];
  sections = [];
  overlaps = [];
}

-- the route of this number
abbrev pub route_at : List Route → RouteNo → Route
route_at routes r = entry no_route routes r.0

-- a route has this number
abbrev pub IsRoute : List Route → RouteNo → Type 0
IsRoute routes r = (1 ≤ r.0) × (r.0 ≤ length routes)

-- how long a route is
abbrev pub length_mm : Route → ℕ
length_mm r = nat_abs r.length

-- a route's own sections: those that it goes over
abbrev pub own_sections : Route → List SectionNo
own_sections r = map (λ z. z.0) r.sections

-- those of the overlap at its end
abbrev pub held_sections : Route → List SectionNo
held_sections r = map (λ p. p.section) r.overlaps

-- a route's sections: its own, and then those of its overlap
abbrev pub sections : Route → List SectionNo
sections r = own_sections r ++ held_sections r

-- the route goes over the section
abbrev pub goes_over : Route → SectionNo → Bool
goes_over r z = list_any (λ p. p.0.0 == z.0) r.sections

-- the section is one of the overlap at the route's end
abbrev pub overlaps : Route → SectionNo → Bool
overlaps r z = list_any (λ p. p.section.0 == z.0) r.overlaps

-- the route has the section
abbrev pub has_section : Route → SectionNo → Bool
has_section r z = goes_over r z || overlaps r z

-- the sections of the first route that the second has too
abbrev pub shared : Route → Route → List SectionNo
shared r q = filter (has_section q) (sections r)

-- those of them that are own ones of the first
abbrev pub own_shared : Route → Route → List SectionNo
own_shared r q = filter (has_section q) (own_sections r)

-- the two have a section in common
abbrev pub share : Route → Route → Bool
share r q = list_any (has_section q) (sections r)

-- where the last edge of an own section ends in the route
abbrev pub release_offset : Route → SectionNo → ℕ
release_offset r z = fold max 0 (map (λ p. nat_abs p.1) (filter (λ p. p.0.0 == z.0) r.sections))

-- how long a section of the overlap is held after the train's arrival at the route's end, in ms
abbrev pub hold_ms : Route → SectionNo → ℕ
hold_ms r z = fold max 0 (map (λ p. p.hold_ms) (filter (λ p. p.section.0 == z.0) r.overlaps))

-- trains exit there
abbrev pub is_exit : Finish → Bool
is_exit (finish.Exit n) = true
is_exit _ = false

-- the route ends where trains exit
abbrev pub exits : Route → Bool
exits r = is_exit r.finish
