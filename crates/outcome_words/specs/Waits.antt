-- Where trains wait in a run, for how long, and for which release.
use Rattle.std.specs.Prelude.{ℕ, ◌+◌, ◌-◌, ◌==◌, Bool, not, List, [], ◌++◌, map, flat_map, length, take, find, codes}
use Rattle.std.specs.Prelude.{nat_lt, sum_by, Option, None, Some, is_some, option_map, option_and_then, if◌then◌else◌}
use Rattle.std.specs.List.{enumerate_from, filter_map}
use Rattle.rail_base.specs.declared.station.Station.{Station}
use Rattle.rail_base.specs.declared.station.SectionNo.{SectionNo}
use Rattle.rail_base.specs.declared.station.TrainNo.{TrainNo}
use Rattle.rail_base.specs.declared.route.Route.{Route}
use Rattle.rail_base.specs.declared.route.RouteNo.{RouteNo}
use Rattle.rail_base.specs.declared.route.Start.{Start}
use Rattle.rail_base.specs.declared.route.Start.TheVariants as start
use Rattle.rail_base.specs.declared.plan.Command.{Command}
use Rattle.rail_base.specs.declared.history.TrainHistory.{TrainHistory}
use Rattle.rail_base.specs.Names.{node_name, section_name, signal_name, train_name}
use Rattle.rail_base.specs.Numbering.{entry}
use Rattle.rail_base.specs.Routes.{overlaps, route_at, shared}
use Rattle.rail_spec.specs.Plans.{precedes, preceding}
use Rattle.rail_require.specs.Ticks.{history_of, is_before}
use Rattle.timing_refuter.specs.Clearings.{is_entry}
use Rattle.cone_words.specs.Routes.{finish_name}
use Rattle.outcome_words.specs.declared.waits.Wait.{Wait}
use Rattle.outcome_words.specs.Visits.{time_text}

-- ---- arrivals

-- how many edges these commands of a path give
abbrev pub edges_given : List Route → List (RouteNo × Option ℕ) → ℕ
edges_given routes grants = sum_by (λ g. length (route_at routes g.0).edges) grants

-- the tick at which a train is where its command of this number begins: of the first from the start, of another that at which it passes the
-- last node before
abbrev pub arrival : List Route → TrainHistory → ℕ → Option ℕ
arrival routes h j =
    if j == 1 then Some 0
    else (entry (record { 0 = 0 }, None) h.passes (edges_given routes (take (j - 1) h.grants) + 1)).1

-- ---- releases

-- the tick at which a command has released a section, an own one or one of its overlap
abbrev pub release_tick : List TrainHistory → Command → SectionNo → Option ℕ
release_tick history e z = let h = history_of history e.train in
    option_and_then (λ p. p.2) (find (is_entry e.route z) (h.releases ++ h.holds))

-- that has not come before a tick
abbrev pub comes_late : List TrainHistory → ℕ → Command × SectionNo → Bool
comes_late history k p = not (is_before k (release_tick history p.0 p.1))

-- the sections that two commands share, each as one that the first is to release
abbrev pub releases_by : List Route → Command → Command → List (Command × SectionNo)
releases_by routes c e = map (λ z. (e, z)) (shared (route_at routes e.route) (route_at routes c.route))

-- where that command precedes the other
abbrev pub releases_before : List Route → List (List Command) → Command → Command → List (Command × SectionNo)
releases_before routes plan c e = if precedes routes plan e c then releases_by routes c e else []

-- the releases that a command waits for: of each command that precedes it, of each section that the two share
abbrev pub releases_for : List Route → List (List Command) → Command → List (Command × SectionNo)
releases_for routes plan c = flat_map (releases_by routes c) (preceding routes plan c)

-- ---- waits

-- the tick before the grant, or the last
abbrev pub last_waiting : ℕ → Option ℕ → ℕ
last_waiting last None = last
last_waiting last (Some granted) = granted - 1

module _ (routes : List Route) (plan : List (List Command)) (history : List TrainHistory) (last : ℕ) where
  -- a train with a command that is granted then waits from its arrival up to the last tick before the grant, for the first of the
  -- releases that had not come before that tick
  abbrev pub wait_from : TrainNo → RouteNo × Option ℕ → ℕ → Wait
  wait_from t g from = let until = last_waiting last g.1 in record {
    start = (route_at routes g.0).start;
    from = from;
    until = until;
    granted = is_some g.1;
    release = find (comes_late history until) (releases_for routes plan (record { train = t; route = g.0 }));
  }

  -- where there is a tick between
  abbrev pub wait_after : TrainNo → RouteNo × Option ℕ → Option ℕ → Option Wait
  wait_after t g None = None
  wait_after t g (Some from) = if nat_lt from (last_waiting last g.1) then Some (wait_from t g from) else None

  -- the wait of a train for its command of a number
  abbrev pub wait_of : TrainNo → TrainHistory → ℕ × (RouteNo × Option ℕ) → Option Wait
  wait_of t h numbered = wait_after t numbered.1 (arrival routes h numbered.0)

-- ---- in words

-- `at s4`, or `outside west`
abbrev pub start_text : Station → Start → List ℕ
start_text d (start.Boundary n) = codes "outside " ++ node_name d n
start_text d (start.Signal s) = codes "at " ++ signal_name d s

-- ` of its overlap at s7`, for a section of the overlap at the route's end
abbrev pub overlap_text : Station → Route → SectionNo → List ℕ
overlap_text d r z = if overlaps r z then codes " of its overlap at " ++ finish_name d r.finish else []

-- `, for RB to release z4`, or `, for RB to release z4 of its overlap at s7`
abbrev pub release_text : Station → List Route → Option (Command × SectionNo) → List ℕ
release_text d routes None = []
release_text d routes (Some p) =
    codes ", for " ++ train_name d p.0.train ++ codes " to release " ++ section_name d p.1
    ++ overlap_text d (route_at routes p.0.route) p.1

-- `, to the end`
abbrev pub end_text : Bool → List ℕ
end_text granted = if granted then [] else codes ", to the end"

-- `ICe waits at s4 from 3 min 20 s for 40 s, for RB to release z4`
abbrev pub wait_text : Station → List Route → TrainNo → Wait → List ℕ
wait_text d routes t w =
    train_name d t ++ codes " waits " ++ start_text d w.start ++ codes " from " ++ time_text d w.from ++ codes " for "
    ++ time_text d (w.until - w.from) ++ end_text w.granted ++ release_text d routes w.release ++ codes "\n"

module _ (d : Station) (routes : List Route) (plan : List (List Command)) (history : List TrainHistory) (last : ℕ) where
  -- the line of a train's wait for a command, where it waits
  abbrev pub wait_line : TrainNo → TrainHistory → ℕ × (RouteNo × Option ℕ) → Option (List ℕ)
  wait_line t h numbered = option_map (wait_text d routes t) (wait_of routes plan history last t h numbered)

  -- those of all commands of its path, by what has happened to the train
  abbrev pub waits_in : TrainNo → TrainHistory → List (List ℕ)
  waits_in t h = filter_map (wait_line t h) (enumerate_from 1 h.grants)
