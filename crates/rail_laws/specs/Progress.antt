-- By when every command is granted.
use Rattle.std.specs.Prelude.{◌≡◌, ℕ, ◌+◌, ◌≤◌, ◌<◌, true, List, map, filter, length, fold, max, sum_by}
use Rattle.std.specs.Prelude.{Option, None, Some}
use Rattle.std.specs.List.{list_any, sum}
use Rattle.rail_base.specs.declared.station.Station.{Station}
use Rattle.rail_base.specs.declared.station.TrainNo.{TrainNo}
use Rattle.rail_base.specs.declared.route.Route.{Route}
use Rattle.rail_base.specs.declared.plan.Command.{Command}
use Rattle.rail_spec.specs.Plans.{commands, path_routes, length_mm, exits}
use Rattle.rail_base.specs.Stations.{trains, train_length, whole_ticks, dwell_ticks}
use Rattle.rail_base.specs.Members.{In}
use Rattle.rail_spec.specs.Dispatches.{state_of, of_plan, is_granted, state_at}

-- the end of authority is ahead, or there is none
abbrev pub MayMove : Option ℕ → ℕ → Type 0
MayMove None x = Unit {0}
MayMove (Some end) x = x < end

-- how many ticks a route's overlap is held at most after a train's arrival at the route's end
abbrev pub hold_ticks : Station → Route → ℕ
hold_ticks d r = whole_ticks d (fold max 0 (map (λ p. p.hold_ms) r.overlaps))

-- the number of commands, plus the lengths of all trains' paths, plus the lengths of the trains whose path exits, plus
-- the ticks that all trains stand at their visits, plus the ticks that the overlaps of all commands are held
abbrev pub last_grant : Station → List Route → List (List Command) → ℕ
last_grant d routes plan =
    length (commands plan) + sum_by (λ t. sum_by length_mm (path_routes routes plan t)) (trains d)
    + sum_by (train_length d) (filter (λ t. list_any exits (path_routes routes plan t)) (trains d))
    + sum_by (λ t. sum (dwell_ticks d t)) (trains d)
    + sum_by (λ t. sum_by (hold_ticks d) (path_routes routes plan t)) (trains d)

-- from then on each command of the plan is granted at every tick
abbrev pub IsGrantedInTime : Station → List Route → List (List Command) → Type 0
IsGrantedInTime d routes plan =
    (c : Command) → In c (commands plan) → (k : ℕ) → last_grant d routes plan ≤ k
    → is_granted d routes (of_plan routes plan) (state_at d routes (of_plan routes plan) k) c ≡ true

-- by tick k the train is at the end of its path, and has left where that exits
abbrev pub HasComeThrough : Station → List Route → List (List Command) → TrainNo → ℕ → Type 0
HasComeThrough d routes plan t k =
    let whole = sum_by length_mm (path_routes routes plan t) in
    let place = (state_of (state_at d routes (of_plan routes plan) k) t).x in
    (whole ≤ place) × (list_any exits (path_routes routes plan t) ≡ true → whole + train_length d t ≤ place)
