use Rattle.std.proofs.Common.{◌≡◌, flat_map, drop}
use Rattle.live_clause_spec.specs.Listed.{live_in_turn}
use Rattle.plan_encoding.specs.Sinks.{emitted}
use Rattle.plan_encoding.specs.Families.{all_in_turn}
use Rattle.plan_encoding.specs.Encoders.{among, numbered_clauses}
use Rattle.plan_encoding.proofs.encoder.Encoder.emit_turns.Given as goal

-- what is left to list makes all of it
abbrev pub invariant-loop-pair : goal.invariant-loop-pair
invariant-loop-pair l =
    emitted l.sink (numbered_clauses l.self (flat_map (among l.self live_in_turn) (drop l.pair-index l.pairs)))
    ≡ emitted l.fn.sink (numbered_clauses l.self (all_in_turn l.self l.pairs))
