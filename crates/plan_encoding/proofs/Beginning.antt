-- The routes with which trains may begin.
use Rattle.std.proofs.Common.{◌≡◌, ℕ, ◌≤◌, List, ◌++◌, map, filter, drop, length, append-nil, sym, ap, subst, ◌∙◌}
use Rattle.std.proofs.lemmas.List.{drop_all}
use Rattle.rail_base.specs.declared.station.TrainNo.{TrainNo}
use Rattle.rail_base.specs.declared.route.RouteNo.{RouteNo}
use Rattle.rail_base.specs.Numbering.{one_to}
use Rattle.rail_base.specs.Stations.{IsTrain}
use Rattle.rail_spec.specs.Plans.{route_numbers}
use Rattle.alike_clause_spec.specs.Turns.{beginnings, begins}
use Rattle.clause_spec.specs.Clauses.{Clause}
use Rattle.live_clause_spec.specs.Listed.{is_live_for, live_beginnings, live_has_begun}
use Rattle.live_clause_spec.proofs.Lists.{filter_both}
use Rattle.command_set.specs.Commands.{is_among}
use Rattle.plan_encoding.specs.declared.encoder.Encoder.{Encoder}
use Rattle.plan_encoding.specs.Encoders.{HasCommands, among, commands, over, station, table}
use Rattle.plan_encoding.specs.Families.{begun_throughout, routes_of}
use Rattle.plan_encoding.proofs.Tabled.{all_kept, among_known}

-- the routes of a train's commands that it may begin with are those with which it may begin that have a command
pub begins_among : (f : Encoder) (t : TrainNo) → filter (over f begins t) (routes_of f t) ≡ among f live_beginnings t
begins_among f t = filter_both (over f begins t) (is_live_for (is_among (commands f)) t) (route_numbers (table f))

-- and once none is left to put, all of these are commands
pub begins_known : (f : Encoder) (t : TrainNo) (rs found : List RouteNo) (i : ℕ) → length rs ≤ i → found ++ filter (over f begins t) (drop i rs) ≡ among f live_beginnings t → IsTrain (station f) t → HasCommands f t found
begins_known f t rs found i done is h =
    let all : found ≡ among f live_beginnings t = sym (ap (λ (xs : List RouteNo). found ++ filter (over f begins t) xs) (drop_all i rs done) ∙ append-nil found) ∙ is in
    subst (λ (xs : List RouteNo). HasCommands f t xs) (sym all) (among_known f t (over f beginnings t) h (all_kept (table f) (over f begins t)))

-- for each step, that the earlier train has begun where the later is given this route
abbrev pub begun_always : Encoder → TrainNo × TrainNo → RouteNo → List Clause
begun_always f p q = map (among f live_has_begun p q) (one_to f.steps.count)

-- what is listed of a route with which the later train of a pair may begin
pub turn_is : (f : Encoder) (p : TrainNo × TrainNo) (rs : List RouteNo) → rs ≡ among f live_beginnings p.0 → (q : RouteNo)
    → begun_throughout f p.0 rs (record { train = p.1; route = q }) ≡ begun_always f p q
turn_is f p rs is q = ap (λ xs. begun_throughout f p.0 xs (record { train = p.1; route = q })) is
