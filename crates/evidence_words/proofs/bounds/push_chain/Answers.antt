use Rattle.std.proofs.Common.{List, ◌≤◌, All, length, refl, subst, sym, arith}
use Rattle.bound_spec.specs.declared.Leg.{Leg}
use Rattle.bound_ticks.specs.Chains.{chain_of}
use Rattle.leg_targets.specs.Visits.{origin_of}
use Rattle.bound_ticks.specs.Walks.{IsLeg}
use Rattle.bound_ticks.proofs.Chained.{chain_by}
use Rattle.bound_ticks.proofs.Naming.{is_named}
use Rattle.evidence_words.proofs.bounds.push_chain.Goals as goal

pub most_followed-requires : goal.most_followed-requires
most_followed-requires c =
    let i = c.args.interlocking.now in
    subst (All (IsLeg i)) (sym c.as_slice-legs.ensures) (is_named i c.args.bound.now c.requires.names).legs

pub push_legs-requires-clause-legs : goal.push_legs-requires-clause-legs
push_legs-requires-clause-legs c =
    let i = c.args.interlocking.now in
    subst (All (IsLeg i)) (sym c.as_slice-legs.ensures) (is_named i c.args.bound.now c.requires.names).legs

pub push_legs-requires-clause-at_most_10_000_000 : goal.push_legs-requires-clause-at_most_10_000_000
push_legs-requires-clause-at_most_10_000_000 c =
    let i = c.args.interlocking.now in
    let legs = c.as_slice-legs.result.now in
    let long : length legs ≤ 64 = subst (λ (ls : List Leg). length ls ≤ 64) (sym c.as_slice-legs.ensures) (is_named i c.args.bound.now c.requires.names).at_most_64 in
    let ticks = chain_of i.design.station i.routes c.in_ok-most.most (origin_of c.later_visit.result) (origin_of c.visit_to.result) legs in
    let most = chain_by i.design.station i.routes c.in_ok-most.most ticks (origin_of c.later_visit.result) (origin_of c.visit_to.result) legs refl long c.in_ok-most.ensures.at_most_86400 in
    let small = c.first_tick.ensures.at_most_1 in
    omega arith
