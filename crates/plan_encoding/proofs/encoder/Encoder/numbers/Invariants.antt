use Rattle.std.proofs.Common.{◌≡◌, ◌+◌, ◌-◌, ◌++◌, map, length}
use Rattle.rail_base.specs.Numbering.{count_from}
use Rattle.rail_spec.specs.Plans.{route_numbers}
use Rattle.plan_encoding.proofs.encoder.Encoder.numbers.Given as goal

-- what is put and what is left to put make all of it
abbrev pub invariant-loop-number : goal.invariant-loop-number
invariant-loop-number l = l.numbers.items ++ map (λ r. record { 0 = r }) (count_from l.number (length l.self.interlocking.now.routes + 1 - l.number)) ≡ route_numbers l.self.interlocking.now.routes
