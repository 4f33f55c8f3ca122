use Rattle.std.proofs.Common.{◌≡◌, flat_map, drop}
use Rattle.live_clause_spec.specs.Listed.{live_in_turn}
use Rattle.plan_encoding.specs.Sinks.{emitted}
use Rattle.plan_encoding.specs.Encoders.{among, numbered_clauses}
use Rattle.plan_encoding.proofs.Beginning.{begun_always}
use Rattle.plan_encoding.proofs.encoder.Encoder.emit_turns_of.Given as goal

-- what is left to list makes all of it
abbrev pub invariant-loop-route : goal.invariant-loop-route
invariant-loop-route l =
    emitted l.sink (numbered_clauses l.self (flat_map (begun_always l.self l.pair) (drop l.route-index l.route-items)))
    ≡ emitted l.fn.sink (numbered_clauses l.self (among l.self live_in_turn l.pair))
