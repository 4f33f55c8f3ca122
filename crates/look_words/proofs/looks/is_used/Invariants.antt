use Rattle.std.proofs.Common.{◌≡◌, drop}
use Rattle.std.specs.List.{list_any}
use Rattle.rail_spec.specs.Plans.{has_node}
use Rattle.look_words.proofs.looks.is_used.Given as goal

-- none so far does
abbrev pub invariant-loop-train : goal.invariant-loop-train
invariant-loop-train l = list_any (λ t. list_any (λ set. has_node set l.node) t.visits) (drop l.train-index l.trains) ≡ list_any (λ t. list_any (λ set. has_node set l.node) t.visits) l.trains
