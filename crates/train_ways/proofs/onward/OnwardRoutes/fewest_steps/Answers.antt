use Rattle.std.proofs.Common.{◌+◌, ℕ, sym, subst, arith, Option}
use Rattle.std.specs.Prelude.{IfSome}
use Rattle.way_spec.specs.Ways.{IsFewestRoutes}
use Rattle.rail_base.proofs.Admitting.{admitted}
use Rattle.train_ways.proofs.Summing.{FewestSoFar, fewest_all, fewest_first, fewest_next}
use Rattle.train_ways.proofs.onward.OnwardRoutes.fewest_steps.Goals as goal

pub loop-number-init : goal.loop-number-init
loop-number-init c = let i = c.args.self.now.interlocking.now in fewest_first i.design.station i.routes

pub returns-in-None-clause-none : goal.returns-in-None-clause-none
returns-in-None-clause-none c = λ e.
    let many = c.len.ensures in
    let test = c.loop-number-test.true in
    (record { 0 = c.loop-number.number }, (c.loop-number.auto.number, omega arith), c.in_ok-fewest.ensures.none c.in-None.is)

pub loop-number-preserved : goal.loop-number-preserved
loop-number-preserved c =
    let i = c.args.self.now.interlocking.now in
    let d = i.design.station in
    let n = c.loop-number.number in
    let is = subst (λ (o : Option ℕ). IfSome o (λ k. IsFewestRoutes d i.routes (record { 0 = n }) k)) c.in-Some.is c.in_ok-fewest.ensures.some in
    subst (FewestSoFar d i.routes (n + 1)) (sym c.greater-most.ensures) (fewest_next d i.routes n c.loop-number.most c.in-Some.fewest c.loop-number.auto.number is c.loop-number.invariant)

pub returns-clause-some : goal.returns-clause-some
returns-clause-some c =
    let i = c.args.self.now.interlocking.now in
    let many = c.len.ensures in
    let end = c.loop-number-test.false in
    let top = c.loop-number.auto.number-end (omega arith) in
    fewest_all i.design.station i.routes c.loop-number.number c.loop-number.most (omega arith) (admitted i.design.station i.design.admitted).many_trains.0 c.loop-number.invariant
