use Rattle.std.proofs.Common.{All, subst, sym}
use Rattle.rail_base.specs.Routes.{IsRoute}
use Rattle.bound_ticks.proofs.Chained.{first_routes_named}
use Rattle.bound_ticks.proofs.ahead.Between.ahead_on.Goals as goal

pub all_past-requires-clause-next : goal.all_past-requires-clause-next
all_past-requires-clause-next c =
    let i = c.args.self.now.interlocking.now in
    subst (All (IsRoute i.routes)) (sym c.first_routes.ensures) (first_routes_named i c.args.rest.now c.requires.rest)
