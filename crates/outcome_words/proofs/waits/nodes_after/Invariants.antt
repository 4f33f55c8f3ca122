use Rattle.std.proofs.Common.{◌≡◌, drop}
use Rattle.outcome_words.specs.Waits.{edges_given}
use Rattle.outcome_words.proofs.waits.nodes_after.Given as goal

-- with those of the commands that are left
abbrev pub invariant-loop-route : goal.invariant-loop-route
invariant-loop-route l = drop (edges_given l.routes (drop l.route-index l.grants)) l.rest ≡ drop (edges_given l.routes l.grants) l.passes
