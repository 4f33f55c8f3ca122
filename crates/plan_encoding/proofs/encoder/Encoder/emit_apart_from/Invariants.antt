use Rattle.std.proofs.Common.{◌≡◌, map, flat_map, drop}
use Rattle.plan_encoding.specs.Sinks.{emitted}
use Rattle.plan_encoding.specs.Encoders.{numbered_clauses}
use Rattle.plan_encoding.specs.Waiting.{apart_once}
use Rattle.plan_encoding.proofs.encoder.Encoder.emit_apart_from.Given as goal

-- what is left to list makes all of it
abbrev pub invariant-loop-second : goal.invariant-loop-second
invariant-loop-second l = emitted l.sink (numbered_clauses l.self (flat_map (apart_once l.self.interlocking.now.design.station l.self.interlocking.now.routes l.self.steps.count) (map (λ c. (l.first, c)) (drop l.second-index l.rivals)))) ≡ emitted l.fn.sink (numbered_clauses l.self (flat_map (apart_once l.self.interlocking.now.design.station l.self.interlocking.now.routes l.self.steps.count) (map (λ c. (l.first, c)) l.rivals)))
