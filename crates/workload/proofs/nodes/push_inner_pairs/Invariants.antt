use Rattle.std.proofs.Common.{◌≡◌, ◌++◌, ◌+◌, ◌-◌, flat_map}
use Rattle.rail_base.specs.Numbering.{count_from, one_to}
use Rattle.std.proofs.Common.{◌∷◌, []}
use Rattle.workload.specs.Track.{inner}
use Rattle.workload.proofs.nodes.push_inner_pairs.Given as goal

-- what is added and what is left to add make all of it
abbrev pub invariant-loop-track : goal.invariant-loop-track
invariant-loop-track l = l.nodes.items ++ flat_map (λ i. inner l.first i ∷ inner l.second i ∷ []) (count_from l.track (l.tracks + 1 - l.track)) ≡ l.fn.nodes.items ++ flat_map (λ i. inner l.first i ∷ inner l.second i ∷ []) (one_to l.tracks)
