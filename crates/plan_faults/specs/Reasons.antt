-- Why a train's command in a step is not right after the steps before it.
use Rattle.std.specs.Prelude.{◌≡◌, ℕ, ◌-◌, Bool, true, false, List, [], ◌∷◌, take, Option, None, Some, option_map, find, if◌then◌else◌}
use Rattle.std.specs.Option.{option_or}
use Rattle.rail_base.specs.declared.plan.Command.{Command}
use Rattle.rail_base.specs.declared.route.Route.{Route}
use Rattle.rail_base.specs.declared.route.RouteNo.{RouteNo}
use Rattle.rail_base.specs.declared.station.Station.{Station}
use Rattle.rail_base.specs.declared.station.TrainNo.{TrainNo}
use Rattle.rail_base.specs.Members.{In}
use Rattle.rail_base.specs.Numbering.{entry}
use Rattle.rail_base.specs.Routes.{route_at}
use Rattle.rail_base.specs.Stations.{first_visit, train_of}
use Rattle.rail_spec.specs.Plans.{end_at_one_signal, goes_on, is_start, path, routes_given, starts_in}
use Rattle.rail_plan.specs.WellFormed.{begins_well, last_of_list}
use Rattle.plan_faults.specs.declared.reasons.Reason.{Reason}
use Rattle.plan_faults.specs.declared.reasons.Reason.TheVariants as reason

module _ (routes : List Route) where
  -- two routes start at one place
  abbrev pub start_alike : RouteNo → RouteNo → Bool
  start_alike r q = is_start (route_at routes q).start (route_at routes r).start

  -- they end at one signal
  abbrev pub end_alike : RouteNo → RouteNo → Bool
  end_alike r q = end_at_one_signal (route_at routes q).finish (route_at routes r).finish

  -- a route of the path that starts where this one does, or ends at its signal
  abbrev pub again : List RouteNo → RouteNo → Option Reason
  again before r = option_or (option_map (λ q. reason.StartsAgain r q) (find (start_alike r) before))
      (option_map (λ q. reason.EndsAgain r q) (find (end_alike r) before))

-- it does not start where the path of the train has ended, or where the train begins
abbrev pub misled : Option RouteNo → RouteNo → Reason
misled None r = reason.Begins r
misled (Some q) r = reason.GoesOn r q

module _ (d : Station) (routes : List Route) (t : TrainNo) where
  -- why a path can't go on with a route
  abbrev pub reason_of_route : List RouteNo → RouteNo → Option Reason
  reason_of_route before r =
      let last = last_of_list before in
      if begins_well (first_visit (train_of d t)) (option_map (route_at routes) last) (route_at routes r)
      then again routes before r
      else Some (misled last r)

  -- why it can't with the routes of one step, which is one at most
  abbrev pub reason_of : List RouteNo → List RouteNo → Option Reason
  reason_of before [] = None
  reason_of before (r ∷ []) = reason_of_route before r
  reason_of before (r ∷ q ∷ rs) = Some (reason.Second r q)

  -- in a step of a plan
  abbrev pub reason_in : List (List Command) → ℕ → Option Reason
  reason_in plan i = reason_of (path (take (i - 1) plan) t) (routes_given t (entry [] plan i))

  -- ---- that it is so

  -- the reason holds of the path so far, and of what a step gives
  abbrev pub IsSo : List RouteNo → List RouteNo → Reason → Type 0
  IsSo before given (reason.Second r q) = (rest : List RouteNo) × (given ≡ r ∷ q ∷ rest)
  IsSo before given (reason.Begins r) =
      (given ≡ r ∷ []) × (before ≡ []) × (starts_in (first_visit (train_of d t)) (route_at routes r).start ≡ false)
  IsSo before given (reason.GoesOn r q) = (given ≡ r ∷ []) × (last_of_list before ≡ Some q)
      × (goes_on (route_at routes q).finish (route_at routes r).start ≡ false)
  IsSo before given (reason.StartsAgain r q) = (given ≡ r ∷ []) × In q before
      × (is_start (route_at routes q).start (route_at routes r).start ≡ true)
  IsSo before given (reason.EndsAgain r q) = (given ≡ r ∷ []) × In q before
      × (end_at_one_signal (route_at routes q).finish (route_at routes r).finish ≡ true)
