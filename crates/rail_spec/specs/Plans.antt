-- Plans: the path of a train, which command is given earlier, and which plans can be carried out.
-- A plan is a list of steps, and a step a list of commands.
use Rattle.std.specs.Prelude.{ℕ, ◌+◌, Bool, true, false, not, ◌&&◌, ◌||◌, ◌==◌, if◌then◌else◌, List, [], ◌∷◌, map}
use Rattle.std.specs.Prelude.{filter, flat_map, length, nat_le, nat_lt, sum_by}
use Rattle.std.specs.List.{list_any, list_all}
use Rattle.rail_base.specs.declared.station.Station.{Station}
use Rattle.rail_base.specs.declared.station.Train.{Train}
use Rattle.rail_base.specs.declared.station.NodeNo.{NodeNo}
use Rattle.rail_base.specs.declared.station.SectionNo.{SectionNo}
use Rattle.rail_base.specs.declared.station.TrainNo.{TrainNo}
use Rattle.rail_base.specs.declared.route.Route.{Route}
use Rattle.rail_base.specs.declared.route.RouteNo.{RouteNo}
use Rattle.rail_base.specs.declared.route.Start.{Start}
use Rattle.rail_base.specs.declared.route.Start.TheVariants as start
use Rattle.rail_base.specs.declared.route.Finish.{Finish}
use Rattle.rail_base.specs.declared.route.Finish.TheVariants as finish
use Rattle.rail_base.specs.declared.plan.Command.{Command}
use Rattle.rail_base.specs.Numbering.{one_to}
use Rattle.rail_base.specs.Members.{all_pairs, all_neighbors}
use Rattle.rail_base.specs.Stations.{train_of, train_length, trains, first_visit}
pub use Rattle.rail_base.specs.Routes.{no_route, route_at, length_mm, sections, own_sections, has_section, goes_over}
pub use Rattle.rail_base.specs.Routes.{shared, own_shared, share, release_offset, hold_ms, exits}

-- ---- commands and their order

-- the two are one train
abbrev pub is_train : TrainNo → TrainNo → Bool
is_train t u = t.0 == u.0

-- the two are one route
abbrev pub is_route : RouteNo → RouteNo → Bool
is_route r q = r.0 == q.0

-- the two are one command
abbrev pub is_command : Command → Command → Bool
is_command c d = is_train c.train d.train && is_route c.route d.route

-- all commands of a plan, step by step
abbrev pub commands : List (List Command) → List Command
commands plan = flat_map (λ step. step) plan

-- the plan has the command
abbrev pub has_command : List (List Command) → Command → Bool
has_command plan c = list_any (is_command c) (commands plan)

-- the routes that a step gives to a train
abbrev pub routes_given : TrainNo → List Command → List RouteNo
routes_given t step = map (λ c. c.route) (filter (λ c. is_train c.train t) step)

-- the routes given to a train, in step order
abbrev pub path : List (List Command) → TrainNo → List RouteNo
path plan t = flat_map (routes_given t) plan

-- the step in which a command stands, or one past the last where it stands in none
abbrev pub step_of : List (List Command) → Command → ℕ
step_of [] c = 1
step_of (step ∷ steps) c = if list_any (is_command c) step then 1 else step_of steps c + 1

-- the commands are of different trains, and share a section
abbrev pub contend : List Route → Command → Command → Bool
contend routes d c = not (is_train d.train c.train) && share (route_at routes d.route) (route_at routes c.route)

-- d contends with c and is given in an earlier step
abbrev pub precedes : List Route → List (List Command) → Command → Command → Bool
precedes routes plan d c = contend routes d c && nat_lt (step_of plan d) (step_of plan c)

-- the commands of which each precedes c
abbrev pub preceding : List Route → List (List Command) → Command → List Command
preceding routes plan c = filter (λ d. precedes routes plan d c) (commands plan)

-- ---- all commands of a design

-- the numbers of all routes
abbrev pub route_numbers : List Route → List RouteNo
route_numbers routes = map (λ r. record { 0 = r }) (one_to (length routes))

-- the commands of a train
abbrev pub commands_of : List Route → TrainNo → List Command
commands_of routes t = map (λ r. record { train = t; route = r }) (route_numbers routes)

-- all commands, by train and then by route
abbrev pub all_commands : Station → List Route → List Command
all_commands d routes = flat_map (commands_of routes) (trains d)

-- ---- well formed

-- the two are one place
abbrev pub is_start : Start → Start → Bool
is_start (start.Boundary m) (start.Boundary n) = m.0 == n.0
is_start (start.Signal s) (start.Signal q) = s.0 == q.0
is_start _ _ = false

-- one route goes on where the other ends: at a signal
abbrev pub goes_on : Finish → Start → Bool
goes_on (finish.Signal s) (start.Signal q) = s.0 == q.0
goes_on _ _ = false

-- both routes end at one signal
abbrev pub end_at_one_signal : Finish → Finish → Bool
end_at_one_signal (finish.Signal s) (finish.Signal q) = s.0 == q.0
end_at_one_signal _ _ = false

-- the node is one of these
abbrev pub has_node : List NodeNo → NodeNo → Bool
has_node ns n = list_any (λ m. m.0 == n.0) ns

-- a start is a boundary of the first visit
abbrev pub starts_in : List NodeNo → Start → Bool
starts_in set (start.Boundary n) = has_node set n
starts_in set (start.Signal s) = false

-- the path starts in the set
abbrev pub begins_in : List NodeNo → List Route → Bool
begins_in set [] = true
begins_in set (r ∷ rs) = starts_in set r.start

-- the routes given to a train make a path for it
abbrev pub is_path : Train → List Route → Bool
is_path t rs = begins_in (first_visit t) rs
    && all_neighbors (λ r q. goes_on r.finish q.start) rs
    && all_pairs (λ r q. not (is_start r.start q.start)) rs
    && all_pairs (λ r q. not (end_at_one_signal r.finish q.finish)) rs

-- no train has two commands in the step
abbrev pub one_each : List Command → Bool
one_each step = all_pairs (λ c d. not (is_train c.train d.train)) step

-- the routes of a train's path
abbrev pub path_routes : List Route → List (List Command) → TrainNo → List Route
path_routes routes plan t = map (route_at routes) (path plan t)

-- at most n steps, no train twice in one, and a path for each train
abbrev pub is_well_formed : Station → List Route → ℕ → List (List Command) → Bool
is_well_formed d routes n plan = nat_le (length plan) n && list_all one_each plan
    && list_all (λ t. is_path (train_of d t) (path_routes routes plan t)) (trains d)

-- ---- executable

-- the commands of d's train from d on, in steps before c's
abbrev pub given_between : List (List Command) → Command → Command → List Command
given_between plan d c = filter (λ e. is_train e.train d.train
    && nat_le (step_of plan d) (step_of plan e) && nat_lt (step_of plan e) (step_of plan c)) (commands plan)

-- before c is given, d's train has been given so much track that it can leave the section, an own one of d
abbrev pub can_clear : Station → List Route → List (List Command) → Command → Command → SectionNo → Bool
can_clear d routes plan e c z =
    let given = map (λ g. route_at routes g.route) (given_between plan e c) in
    nat_le (release_offset (route_at routes e.route) z + train_length d e.train) (sum_by length_mm given)
    || list_any exits given

-- commands of different trains that share a section stand in different steps, and each can leave its own sections for those
-- after it; the sections of its overlap need no track, since a train always comes to the end of its route
abbrev pub may_stand : Station → List Route → List (List Command) → Command → Command → Bool
may_stand d routes plan e c =
    let r = route_at routes e.route in
    let q = route_at routes c.route in
    is_train e.train c.train || not (share r q) || nat_lt (step_of plan c) (step_of plan e)
    || (nat_lt (step_of plan e) (step_of plan c) && list_all (can_clear d routes plan e c) (own_shared r q))

-- every two commands of the plan may stand as they do
abbrev pub is_executable : Station → List Route → List (List Command) → Bool
is_executable d routes plan = list_all (λ e. list_all (may_stand d routes plan e) (commands plan)) (commands plan)
