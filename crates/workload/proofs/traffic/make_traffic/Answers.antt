use Rattle.std.proofs.Common.{◌<◌, ◌+◌, ◌*◌, ◌==◌, [], ◌∷◌, ◌++◌, ap, ◌∙◌, arith}
use Rattle.workload.specs.Draws.{below, runs_east, time_of}
use Rattle.workload.specs.Traffic.{train, within}
use Rattle.workload.proofs.Counting.{push_next}
use Rattle.workload.proofs.Drawing.{first_drawn, second_drawn, next_train}
use Rattle.workload.proofs.traffic.make_traffic.Goals as goal
use Rattle.rail_base.proofs.Lists.{count_next}

pub loop-number-preserved : goal.loop-number-preserved
loop-number-preserved c =
    let x = c.args.draws.now.state in
    let j = c.loop-number.number in
    let inside : c.loop-number.number < c.args.size + 1 = (let l = c.loop-number-test.true in omega arith) in
    let first = first_drawn x j c.loop-number.draws.state c.loop-number.invariant.1 in
    let second = second_drawn x j c.loop-number.draws.state c.loop-number.invariant.1 in (
      omega arith,
      next_train x j c.loop-number.draws.state c.add.new.draws.state c.loop-number.invariant.0 c.loop-number.invariant.1 c.add.ensures.draws,
      push_next c.loop-number.traffic.trains.items c.add.new.self.trains.items _ _ _ j (count_next j (c.args.size + 1) inside) (λ k. train k (runs_east x 0 k))
          (c.in_ok-add.ensures.trains ∙ ap (λ s. c.loop-number.traffic.trains.items ++ train j (below 2 s == 0) ∷ []) first) c.loop-number.invariant.2,
      push_next c.loop-number.traffic.withins.items c.add.new.self.withins.items _ _ _ j (count_next j (c.args.size + 1) inside) (λ k. within k (time_of x 0 k))
          (c.in_ok-add.ensures.withins ∙ ap (λ s. c.loop-number.traffic.withins.items ++ within j (120000 + 1000 * below 240 s) ∷ []) second) c.loop-number.invariant.3,
    )
