use Rattle.std.proofs.Common.{arith}
use Rattle.leg_targets.specs.Visits.{visit_of}
use Rattle.leg_targets.proofs.Parts.{rest_long}
use Rattle.leg_targets.proofs.Reaching.{length_by, target_on, visit_by}
use Rattle.leg_targets.proofs.targets.+target.Goals as goal

pub overflow_add-result : goal.overflow_add-result
overflow_add-result t c =
    let short = length_by c.args.interlocking.now c.length_mm.result _ c.route_at-in-len1-up.result.now c.length_mm.ensures c.route_at-in-len1-up.ensures in
    let later = c.target.ensures.within_walk in
    let long = rest_long c.args.walk.now (let two = c.in-len1-up.len_at_least in omega arith) in
    let few = c.requires.at_most_64 in
    omega arith

pub returns-in-len1-clause-within_walk : goal.returns-in-len1-clause-within_walk
returns-in-len1-clause-within_walk t c =
    let near = visit_by c.args.interlocking.now c.args.interlocking.now.design.station c.args.visit.train c.args.visit.number c.visit_offset.result _ c.route_at.result.now c.visit_offset.ensures c.route_at.ensures in
    let one = c.in-len1.len_at_least in
    omega arith

pub returns-in-len1-up-clause-place : goal.returns-in-len1-up-clause-place
returns-in-len1-up-clause-place t c = target_on c.args.interlocking.now.design.station c.args.interlocking.now.routes (visit_of c.args.visit) c.args.walk.now _ c.route_at-in-len1-up.result.now c.length_mm.result c.target.result c.in-len1-up.len_at_least c.route_at-in-len1-up.ensures c.length_mm.ensures c.target.ensures.place

pub returns-in-len1-up-clause-within_walk : goal.returns-in-len1-up-clause-within_walk
returns-in-len1-up-clause-within_walk t c =
    let short = length_by c.args.interlocking.now c.length_mm.result _ c.route_at-in-len1-up.result.now c.length_mm.ensures c.route_at-in-len1-up.ensures in
    let later = c.target.ensures.within_walk in
    let long = rest_long c.args.walk.now (let two = c.in-len1-up.len_at_least in omega arith) in
    let two = c.in-len1-up.len_at_least in
    omega arith
