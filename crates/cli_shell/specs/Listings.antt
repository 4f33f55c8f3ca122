-- The lines that list the routes of a design, each with its LF.
use Rattle.std.specs.Prelude.{ℕ, List, [], ◌∷◌, ◌++◌, map, codes, decimal, ℤ, nat_abs}
use Rattle.std.specs.List.{enumerate_from, flat_map}
use Rattle.rail_base.specs.declared.station.Station.{Station}
use Rattle.rail_base.specs.declared.station.SectionNo.{SectionNo}
use Rattle.rail_base.specs.declared.route.Route.{Route}
use Rattle.rail_base.specs.declared.route.OverlapSection.{OverlapSection}
use Rattle.rail_base.specs.declared.route.Start.{Start}
use Rattle.rail_base.specs.declared.route.Start.TheVariants as start
use Rattle.rail_base.specs.declared.route.Finish.{Finish}
use Rattle.rail_base.specs.declared.route.Finish.TheVariants as finish
use Rattle.rail_base.specs.Routes.{length_mm}
use Rattle.rail_base.specs.Names.{node_name, section_name, signal_name}

-- where a route begins
abbrev pub start_text : Station → Start → List ℕ
start_text d (start.Boundary n) = codes "boundary:" ++ node_name d n
start_text d (start.Signal s) = codes "signal:" ++ signal_name d s

-- where it ends
abbrev pub finish_text : Station → Finish → List ℕ
finish_text d (finish.Exit n) = codes "boundary:" ++ node_name d n
finish_text d (finish.Signal s) = codes "signal:" ++ signal_name d s
finish_text d (finish.DeadEnd n) = codes "dead:" ++ node_name d n

-- ` <section>=<offset>`, with the offset at which the section is released
abbrev pub release_text : Station → SectionNo × ℤ → List ℕ
release_text d release = codes " " ++ section_name d release.0 ++ codes "=" ++ decimal (nat_abs release.1)

-- ` <section>+<ms>`, with how long the section is held after the arrival at the route's end
abbrev pub hold_text : Station → OverlapSection → List ℕ
hold_text d part = codes " " ++ section_name d part.section ++ codes "+" ++ decimal part.hold_ms

-- where there is an overlap section, ` overlap` and then each
abbrev pub overlap_text : Station → List OverlapSection → List ℕ
overlap_text d [] = []
overlap_text d (part ∷ parts) = codes " overlap" ++ flat_map (hold_text d) (part ∷ parts)

-- `route <r> <start> <end> length <mm> sections`, and then each section and each overlap section
abbrev pub route_line : Station → ℕ × Route → List ℕ
route_line d numbered =
    codes "route " ++ decimal numbered.0 ++ codes " " ++ start_text d numbered.1.start
    ++ codes " " ++ finish_text d numbered.1.finish
    ++ codes " length " ++ decimal (length_mm numbered.1) ++ codes " sections"
    ++ flat_map (release_text d) numbered.1.sections ++ overlap_text d numbered.1.overlaps ++ codes "\n"

-- all routes, counted from 1
abbrev pub routes_text : Station → List Route → List (List ℕ)
routes_text d routes = map (route_line d) (enumerate_from 1 routes)
