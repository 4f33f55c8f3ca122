use Rattle.std.proofs.Common.{ℕ, ◌+◌, ◌<◌, length, arith}
use Rattle.rail_base.specs.declared.route.RouteNo.{RouteNo}
use Rattle.command_set.proofs.Gathering.{push_next}
use Rattle.plan_encoding.proofs.encoder.Encoder.numbers.Goals as goal
use Rattle.rail_base.proofs.Lists.{count_next}

pub loop-number-preserved : goal.loop-number-preserved
loop-number-preserved c =
    let named : ℕ → RouteNo = λ r. record { 0 = r } in
    let within : c.loop-number.number < length c.args.self.now.interlocking.now.routes + 1 = (let e = c.len.ensures in let l = c.loop-number-test.true in omega arith) in
    push_next c.loop-number.numbers.items c.push.new.self.items _ _ _ _ (count_next c.loop-number.number (length c.args.self.now.interlocking.now.routes + 1) within) named c.in_ok-push.ensures.items c.loop-number.invariant
