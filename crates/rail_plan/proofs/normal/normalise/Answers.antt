use Rattle.std.proofs.Common.{sym, ◌∙◌, arith}
use Rattle.rail_plan.proofs.Joining.{told_of}
use Rattle.rail_plan.proofs.Trimmed.{as_good_both, trimmed_is_as_good, trimmed_no_later}
use Rattle.rail_plan.proofs.normal.normalise.Goals as goal

pub loop-steps-init : goal.loop-steps-init
loop-steps-init c =
    let d = c.args.interlocking.now.design.station in
    let front = c.trimmed-steps.ensures.front in
    record {
      good = trimmed_is_as_good d c.args.interlocking.now.routes front.0 c.trimmed-steps.result c.args.plan.now.steps (sym c.in_ok-copy_of.ensures ∙ front.1);
      full = c.trimmed-steps.ensures.last;
    }

pub loop-steps-smaller : goal.loop-steps-smaller
loop-steps-smaller c =
    let front = c.trimmed-steps-in-Some.ensures.front in
    let told = told_of c.args.interlocking.now.design.station c.args.interlocking.now.routes c.loop-steps.steps c.in-Some.earlier c.in_ok-earlier.field-0 c.in-Some.is c.in_ok-earlier.ensures in
    let same = trimmed_no_later front.0 c.trimmed-steps-in-Some.result c.in-Some.earlier front.1 in
    let less = told.1 in
    omega (arith, same, less)

pub loop-steps-preserved : goal.loop-steps-preserved
loop-steps-preserved c =
    let d = c.args.interlocking.now.design.station in
    let routes = c.args.interlocking.now.routes in
    let front = c.trimmed-steps-in-Some.ensures.front in
    let told = told_of d routes c.loop-steps.steps c.in-Some.earlier c.in_ok-earlier.field-0 c.in-Some.is c.in_ok-earlier.ensures in
    let new = c.trimmed-steps-in-Some.result in
    record {
      good = as_good_both d routes c.args.plan.now.steps c.loop-steps.steps new c.loop-steps.invariant.good
          (as_good_both d routes c.loop-steps.steps c.in-Some.earlier new told.0 (trimmed_is_as_good d routes front.0 new c.in-Some.earlier front.1));
      full = c.trimmed-steps-in-Some.ensures.last;
    }
