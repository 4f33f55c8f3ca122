use Rattle.std.proofs.Common.{rules, ◌-◌, All, None, length, take, drop, subst, sym, arith}
use Rattle.rail_base.specs.Routes.{IsRoute}
use Rattle.leg_targets.specs.Visits.{origin_of}
use Rattle.bound_ticks.specs.Walks.{IsLeg}
use Rattle.bound_ticks.proofs.Chained.{chain_by, first_routes_named, release_most}
use Rattle.leg_targets.proofs.Parts.{rest_all, rest_long}
use Rattle.bound_ticks.proofs.chain.Chain.+ticks.Goals as goal

pub leg_to_release-requires : goal.leg_to_release-requires
leg_to_release-requires t c =
    let i = c.args.self.now.interlocking.now in
    subst (All (IsRoute i.routes)) (sym c.first_routes.ensures) (first_routes_named i _ (rest_all (IsLeg i) c.args.legs.now c.requires.legs))

pub overflow_add-result : goal.overflow_add-result
overflow_add-result t c =
    let i = c.args.self.now.interlocking.now in
    let here = c.in_ok-here-in-len1-up.ensures in
    let most = release_most i.design.station i.routes c.args.self.now.most (origin_of c.args.from) c.leg-item.result c.first_routes.result.now in
    let few = c.args.self.now.at_most_86400 in
    omega arith

pub ticks-requires : goal.ticks-requires
ticks-requires t c =
    let i = c.args.self.now.interlocking.now in
    (search rules, (rest_all (IsLeg i) c.args.legs.now c.requires.legs, (search rules, search rules)))

pub overflow_add-result-in-len1-up : goal.overflow_add-result-in-len1-up
overflow_add-result-in-len1-up t c =
    let i = c.args.self.now.interlocking.now in
    let here = c.in_ok-here-in-len1-up.ensures in
    let most = release_most i.design.station i.routes c.args.self.now.most (origin_of c.args.from) c.leg-item.result c.first_routes.result.now in
    let few = c.args.self.now.at_most_86400 in
    let many = c.requires.at_most_64 in
    let some = c.in-len1-up.len_at_least in
    let long = rest_long c.args.legs.now (omega arith) in
    let least = chain_by i.design.station i.routes c.args.self.now.most c.in_ok-ticks-in-len1-up.field-0 None (origin_of c.args.self.now.to) (take (length c.args.legs.now - 1) (drop 1 c.args.legs.now)) c.in_ok-ticks-in-len1-up.ensures (omega arith) few in
    omega arith
