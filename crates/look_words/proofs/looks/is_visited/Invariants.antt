use Rattle.std.proofs.Common.{◌≡◌, drop}
use Rattle.std.specs.List.{list_any}
use Rattle.rail_spec.specs.Plans.{has_node}
use Rattle.look_words.proofs.looks.is_visited.Given as goal

-- none so far does
abbrev pub invariant-loop-set : goal.invariant-loop-set
invariant-loop-set l = list_any (λ set. has_node set l.node) (drop l.set-index l.visits) ≡ list_any (λ set. has_node set l.node) l.visits
