use Rattle.std.proofs.Common.{rules, arith}
use Rattle.rail_base.proofs.Admitting.{admitted}
use Rattle.train_ways.proofs.Summing.{sum_all, sum_first, sum_next}
use Rattle.train_ways.proofs.onward.OnwardRoutes.most_steps.Goals as goal

pub loop-number-init : goal.loop-number-init
loop-number-init c = let i = c.args.self.now.interlocking.now in sum_first i.design.station i.routes

pub overflow_add-most : goal.overflow_add-most
overflow_add-most c =
    let few = c.loop-number.invariant.few in
    let more = c.in_ok-most.ensures.few in
    let trains = (admitted c.args.self.now.interlocking.now.design.station c.args.self.now.interlocking.now.design.admitted).many_trains.1 in
    let many = c.len.ensures in
    let test = c.loop-number-test.true in
    search rules

pub loop-number-preserved : goal.loop-number-preserved
loop-number-preserved c =
    let i = c.args.self.now.interlocking.now in
    sum_next i.design.station i.routes c.loop-number.number c.loop-number.most c.in_ok-most.field-0 c.loop-number.auto.number c.in_ok-most.ensures.most c.in_ok-most.ensures.few c.loop-number.invariant

pub returns : goal.returns
returns c =
    let i = c.args.self.now.interlocking.now in
    let many = c.len.ensures in
    let end = c.loop-number-test.false in
    let top = c.loop-number.auto.number-end (omega arith) in
    sum_all i.design.station i.routes c.loop-number.number c.loop-number.most (omega arith) c.loop-number.invariant
