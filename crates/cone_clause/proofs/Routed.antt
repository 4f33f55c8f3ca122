-- The routes of a train's commands.
use Rattle.std.proofs.Common.{◌≡◌, ℕ, ◌<◌, true, List, get_or, length, subst, ◌∙◌}
use Rattle.rail_base.specs.declared.station.Station.{Station}
use Rattle.rail_base.specs.declared.station.TrainNo.{TrainNo}
use Rattle.rail_base.specs.declared.route.Route.{Route}
use Rattle.rail_base.specs.declared.route.RouteNo.{RouteNo}
use Rattle.rail_base.specs.declared.plan.Command.{Command}
use Rattle.rail_base.specs.Members.{In}
use Rattle.rail_base.specs.Routes.{IsRoute}
use Rattle.rail_base.proofs.Lists.{in_filter_back}
use Rattle.rail_spec.specs.Plans.{route_numbers, routes_given}
use Rattle.live_clause_spec.specs.Listed.{is_live_for, live_routes}
use Rattle.command_set.specs.Commands.{AreCommandsOf, is_among}
use Rattle.command_set.proofs.Lists.{some_within}
use Rattle.command_set.proofs.Tests.{given_live}
use Rattle.cone_form.proofs.Orders.{member_at}

module _ (cs : List Command) (d : Station) (routes : List Route) (are : AreCommandsOf d routes cs) (t : TrainNo) (rs : List RouteNo) (is : rs ≡ routes_given t cs) (i : ℕ) (other : RouteNo) (inside : i < length rs) where
  there : In (get_or rs i other) (live_routes (is_among cs) routes t)
  there = subst (λ (qs : List RouteNo). In (get_or rs i other) qs) (is ∙ given_live cs d routes are t) (member_at rs i other inside)

  -- each is of a command of the set
  pub given_among : is_among cs (record { train = t; route = get_or rs i other }) ≡ true
  given_among = (in_filter_back (is_live_for (is_among cs) t) (route_numbers routes) (get_or rs i other) there).1

  -- and a route of the design
  pub given_route : IsRoute routes (get_or rs i other)
  given_route = some_within routes (is_live_for (is_among cs) t) (get_or rs i other) there
