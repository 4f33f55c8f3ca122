use Rattle.std.proofs.Common.{rules, arith}
use Rattle.rail_base.specs.Routes.{IsRoute, route_at}
use Rattle.leg_targets.proofs.Parts.{rest_all, rest_long}
use Rattle.leg_targets.proofs.Reaching.{length_by, release_by, release_on}
use Rattle.leg_targets.proofs.targets.+release_place.Goals as goal

pub overflow_add-result : goal.overflow_add-result
overflow_add-result t c =
    let near = release_by c.args.interlocking.now c.greatest_release-greatest.result _ c.route_at-end.result.now c.route_at.result.now c.greatest_release-greatest.ensures c.route_at-end.ensures in
    omega arith

pub release_place-requires : goal.release_place-requires
release_place-requires t c = (search rules, (c.requires.train, (rest_all (IsRoute c.args.interlocking.now.routes) c.args.walk.now c.requires.walk, (search rules, c.requires.next))))

pub overflow_add-result-in-len1-up : goal.overflow_add-result-in-len1-up
overflow_add-result-in-len1-up t c =
    let short = length_by c.args.interlocking.now c.length_mm.result _ c.route_at-in-len1-up.result.now c.length_mm.ensures c.route_at-in-len1-up.ensures in
    let later = c.release_place.ensures.within_walk in
    let long = rest_long c.args.walk.now (let two = c.in-len1-up.len_at_least in omega arith) in
    let few = c.requires.at_most_64 in
    omega arith

pub returns-in-len1-clause-within_walk : goal.returns-in-len1-clause-within_walk
returns-in-len1-clause-within_walk t c =
    let near = release_by c.args.interlocking.now c.greatest_release-greatest.result _ c.route_at-end.result.now c.route_at.result.now c.greatest_release-greatest.ensures c.route_at-end.ensures in
    let one = c.in-len1.len_at_least in
    omega arith

pub returns-in-len1-up-clause-place : goal.returns-in-len1-up-clause-place
returns-in-len1-up-clause-place t c = release_on c.args.interlocking.now.design.station c.args.interlocking.now.routes c.args.train (route_at c.args.interlocking.now.routes c.args.next) c.args.walk.now _ c.route_at-in-len1-up.result.now c.length_mm.result c.release_place.result c.in-len1-up.len_at_least c.route_at-in-len1-up.ensures c.length_mm.ensures c.release_place.ensures.place

pub returns-in-len1-up-clause-within_walk : goal.returns-in-len1-up-clause-within_walk
returns-in-len1-up-clause-within_walk t c =
    let short = length_by c.args.interlocking.now c.length_mm.result _ c.route_at-in-len1-up.result.now c.length_mm.ensures c.route_at-in-len1-up.ensures in
    let later = c.release_place.ensures.within_walk in
    let long = rest_long c.args.walk.now (let two = c.in-len1-up.len_at_least in omega arith) in
    let two = c.in-len1-up.len_at_least in
    omega arith
