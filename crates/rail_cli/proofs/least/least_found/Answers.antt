use Rattle.std.proofs.Common.{◌≤◌, ◌*◌, arith}
use Rattle.std.proofs.Math.Nat.{mul-le-mul}
use Rattle.rail_base.proofs.Admitting.{admitted}
use Rattle.rail_cli.proofs.least.least_found.Goals as goal

pub overflow_mul-ms : goal.overflow_mul-ms
overflow_mul-ms c =
    let good = admitted c.args.design.now.station c.args.design.now.admitted in
    let last = good.ticks.1 in
    let longest = good.tick.1 in
    let by_horizon = c.requires.by_horizon in
    let is = c.from.ensures in
    let most : c.args.least ≤ 86400 = omega (arith, by_horizon, last) in
    let tick : c.from.result ≤ 1000 = omega (arith, is, longest) in
    let all : c.args.least * c.from.result ≤ 86400 * 1000 = mul-le-mul most tick in
    omega (arith, all)
