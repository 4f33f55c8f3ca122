use Rattle.std.proofs.Common.{◌≡◌, ℕ, ◌+◌, ◌-◌, ◌<◌, flat_map, length, map, ap, arith}
use Rattle.rail_base.specs.declared.plan.Command.{Command}
use Rattle.rail_base.specs.declared.route.RouteNo.{RouteNo}
use Rattle.rail_base.specs.Numbering.{count_from}
use Rattle.rail_base.proofs.Lists.{count_next}
use Rattle.bound_clause.specs.Left.{gathered, together}
use Rattle.bound_clause.specs.Said.{said_of_start}
use Rattle.bound_clause.specs.Spoken.{left, routes_in, station_of}
use Rattle.bound_clause.proofs.Putting.{count_end, parts_end, parts_next}
use Rattle.bound_clause.proofs.numbered.NumberedBound.push_starts.Goals as goal

pub loop-number-init : goal.loop-number-init
loop-number-init c =
    let command : RouteNo → Command = λ r. record { train = c.args.train; route = r } in
    let all : length (routes_in c.args.self.now) + 1 - 1 ≡ length (routes_in c.args.self.now) = omega arith in
    ap (λ m. together (gathered c.args.clause.now) (left c.args.self.now (flat_map (said_of_start (station_of c.args.self.now) (routes_in c.args.self.now)) (map command (map (λ n. record { 0 = n }) (count_from 1 m)))))) all

pub loop-number-preserved : goal.loop-number-preserved
loop-number-preserved c =
    let command : RouteNo → Command = λ r. record { train = c.args.train; route = r } in
    let numbered : ℕ → RouteNo = λ n. record { 0 = n } in
    let within : c.loop-number.number < length (routes_in c.args.self.now) + 1 = (let e = c.len.ensures in let l = c.loop-number-test.true in omega arith) in
    parts_next c.args.self.now (said_of_start (station_of c.args.self.now) (routes_in c.args.self.now)) (gathered c.loop-number.clause) (gathered c.push_start.new.clause) _ _ _ (command (numbered c.loop-number.number))
    (ap (λ ns. map command (map numbered ns)) (count_next c.loop-number.number (length (routes_in c.args.self.now) + 1) within))
    c.in_ok-push_start.ensures c.loop-number.invariant

pub returns : goal.returns
returns c =
    let command : RouteNo → Command = λ r. record { train = c.args.train; route = r } in
    let numbered : ℕ → RouteNo = λ n. record { 0 = n } in
    let e = c.len.ensures in
    let l = c.loop-number-test.false in
    parts_end c.args.self.now (said_of_start (station_of c.args.self.now) (routes_in c.args.self.now)) (gathered c.loop-number.clause) _ _
    (ap (λ ns. map command (map numbered ns)) (count_end c.loop-number.number (length (routes_in c.args.self.now) + 1) (omega arith))) c.loop-number.invariant
