-- Which violations are certain at a tick, as a history shows it, and whether all is done.
use Rattle.std.specs.Prelude.{ℕ, Bool, false, not, ◌&&◌, ◌==◌, List, ◌++◌, map, flat_map, length, nat_le, Option, ◌≡◌, ◌≤◌}
use Rattle.std.specs.Prelude.{is_some, find}
use Rattle.std.specs.List.{list_all}
use Rattle.rail_base.specs.declared.station.Station.{Station}
use Rattle.rail_base.specs.declared.station.Order.{Order}
use Rattle.rail_base.specs.declared.station.Within.{Within}
use Rattle.rail_base.specs.declared.plan.Violation.{Violation}
use Rattle.rail_base.specs.declared.plan.Violation.TheVariants as violation
use Rattle.rail_base.specs.declared.history.TrainHistory.{TrainHistory}
use Rattle.rail_base.specs.Numbering.{one_to}
use Rattle.rail_base.specs.Stations.{horizon, order_of, within_of}
use Rattle.rail_spec.specs.Requirements.{is_after, most_ticks, violation_at, is_done}
use Rattle.rail_require.specs.Ticks.{trains, command_numbers, visit_numbers, grant_tick, visit_tick, is_by, is_before}
use Rattle.rail_base.specs.declared.route.Route.{Route}
use Rattle.rail_base.specs.declared.plan.Command.{Command}
use Rattle.rail_spec.specs.Histories.{history_at}

-- the greatest time ends at tick k, up to the horizon, and the other visit isn't made by then
abbrev pub is_late : Station → List TrainHistory → ℕ → Within → Bool
is_late d history k w =
    nat_le k (horizon d)
    && is_after (most_ticks d w) (visit_tick history w.from_train w.from_visit) k
    && not (is_by k (visit_tick history w.to_train w.to_visit))

-- the later-named visit is made at tick k, and the first isn't made before it
abbrev pub is_broken : List TrainHistory → ℕ → Order → Bool
is_broken history k o =
    is_after 0 (visit_tick history o.then_train o.then_visit) k
    && not (is_before k (visit_tick history o.first_train o.first_visit))

-- k is the horizon, and the tick hasn't come by then
abbrev pub is_missing : Station → ℕ → Option ℕ → Bool
is_missing d k tick = (k == horizon d) && not (is_by k tick)

-- the violation is certain at tick k; a path's is not looked for in a history
abbrev pub is_certain : Station → List TrainHistory → ℕ → Violation → Bool
is_certain d history k (violation.Path t j) = false
is_certain d history k (violation.Within w) = is_late d history k (within_of d w)
is_certain d history k (violation.Order o) = is_broken history k (order_of d o)
is_certain d history k (violation.Grant t j) = is_missing d k (grant_tick history t j)
is_certain d history k (violation.Visit t j) = is_missing d k (visit_tick history t j)

-- the withins, in file order
abbrev pub within_violations : Station → List Violation
within_violations d = map violation.Within (one_to (length d.withins))

-- the orders, in file order
abbrev pub order_violations : Station → List Violation
order_violations d = map violation.Order (one_to (length d.orders))

-- the grants, by train and command
abbrev pub grant_violations : List TrainHistory → List Violation
grant_violations history = flat_map (λ t. map (violation.Grant t) (command_numbers history t)) (trains history)

-- the visits, by train and visit
abbrev pub visit_violations : List TrainHistory → List Violation
visit_violations history = flat_map (λ t. map (violation.Visit t) (visit_numbers history t)) (trains history)

-- the violations that may be certain, in the order in which they are looked for
abbrev pub possible_violations : Station → List TrainHistory → List Violation
possible_violations d history = within_violations d ++ order_violations d ++ grant_violations history ++ visit_violations history

-- the first that is certain at tick k
abbrev pub violation_in : Station → List TrainHistory → ℕ → Option Violation
violation_in d history k = find (is_certain d history k) (possible_violations d history)

-- each command of each train is granted, and each visit made
abbrev pub is_done_in : List TrainHistory → Bool
is_done_in history = list_all (λ t. list_all (λ g. is_some g.1) t.grants && list_all is_some t.visits) history

-- where the history is that of a run at a tick, the violation is the run's there
abbrev pub IsOfRun : Station → List TrainHistory → ℕ → Option Violation → Type 0
IsOfRun d history tick v = (routes : List Route) (plan : List (List Command)) → 1 ≤ tick
    → history ≡ history_at d routes plan tick → v ≡ violation_at d routes plan tick

-- where the history is that of a run at a tick, the answer says whether the run is done there
abbrev pub SaysWhetherDone : List TrainHistory → Bool → Type 0
SaysWhetherDone history answer = (d : Station) (routes : List Route) (plan : List (List Command)) (k : ℕ) → 1 ≤ k
    → history ≡ history_at d routes plan k → answer ≡ is_done d routes plan k
