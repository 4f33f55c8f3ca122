use Rattle.std.proofs.Common.{◌≤◌, ◌/◌, All, min, sym, ap, subst, ◌∙◌, arith}
use Rattle.rail_base.specs.Stations.{horizon}
use Rattle.bound_spec.specs.Validity.{most_looks, stretches_of}
use Rattle.bound_ticks.specs.Looks.{cap}
use Rattle.bound_ticks.specs.Walks.{IsLeg}
use Rattle.bound_ticks.proofs.Naming.{exact, is_named}
use Rattle.bound_ticks.proofs.failure.shows_failure.Goals as goal

pub stretches_of-requires : goal.stretches_of-requires
stretches_of-requires c =
    let i = c.args.interlocking.now in
    subst (All (IsLeg i)) (sym c.as_slice.ensures) (is_named i c.args.bound.now c.requires.names).legs

pub invariant_of-claim : goal.invariant_of-claim
invariant_of-claim c =
    let i = c.args.interlocking.now in
    let d = i.design.station in
    let few : c.in_ok-stretches.stretches ≤ 33554432 = (let f = c.if-stretches-gt-MOST_LOOKS.false in omega arith) in
    let same = exact c.in_ok-stretches.stretches (stretches_of d i.routes c.args.bound.now.legs) (c.in_ok-stretches.ensures ∙ ap (λ ls. cap (stretches_of d i.routes ls)) c.as_slice.ensures) few in
    record {
      named = is_named i c.args.bound.now c.requires.names;
      counted = c.ticks_followed.ensures.ticks ∙ ap (λ n. min (horizon d) (most_looks / n)) same;
      at_most_86400 = c.ticks_followed.ensures.at_most_86400;
    }
