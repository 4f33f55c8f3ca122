use Rattle.std.proofs.Common.{◌≡◌, map, take}
use Rattle.plan_names.specs.Shown.{shown}
use Rattle.plan_names.proofs.names.shown_routes.Given as goal

-- the routes so far have been appended
abbrev pub invariant-loop-route : goal.invariant-loop-route
invariant-loop-route l = l.all ≡ map (shown l.interlocking.design.station l.interlocking.routes) (take l.route-index l.interlocking.routes)
