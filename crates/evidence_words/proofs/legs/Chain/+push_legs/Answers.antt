use Rattle.std.proofs.Common.{All, subst, sym}
use Rattle.rail_base.specs.Routes.{IsRoute}
use Rattle.bound_ticks.specs.Walks.{IsLeg}
use Rattle.bound_ticks.proofs.Chained.{first_routes_named}
use Rattle.leg_targets.proofs.Parts.{rest_all}
use Rattle.evidence_words.proofs.legs.Chain.+push_legs.Goals as goal

pub leg_to_release-requires : goal.leg_to_release-requires
leg_to_release-requires t c =
    let i = c.args.self.now.interlocking.now in
    subst (All (IsRoute i.routes)) (sym c.first_routes.ensures) (first_routes_named i _ (rest_all (IsLeg i) c.args.legs.now c.requires.legs))
