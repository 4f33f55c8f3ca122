use Rattle.std.proofs.Common.{◌≡◌, drop}
use Rattle.std.specs.List.{list_all}
use Rattle.rail_base.specs.Routes.{route_at}
use Rattle.rail_plan.specs.WellFormed.{are_apart}
use Rattle.plan_ways.proofs.routes.are_all_apart.Given as goal

abbrev pub invariant-loop-other : goal.invariant-loop-other
invariant-loop-other l =
    list_all (λ q. are_apart (route_at l.routes q) (route_at l.routes l.route)) (drop l.other-index l.path)
    ≡ list_all (λ q. are_apart (route_at l.routes q) (route_at l.routes l.route)) l.path
