use Rattle.std.proofs.Common.{not, length}
use Rattle.std.specs.List.{list_all}
use Rattle.rail_base.specs.Stations.{train_of}
use Rattle.bound_spec.specs.Certificates.{nodes_of_visit}
use Rattle.bound_design.proofs.Openings.{MissesFrom}
use Rattle.bound_design.proofs.visits.misses_some.Given as goal
use Rattle.rail_spec.specs.Places.{may_visit}

-- none of the visits so far is missed
abbrev pub invariant-loop-number : goal.invariant-loop-number
invariant-loop-number l = MissesFrom (λ k. list_all (λ r. not (may_visit k (nodes_of_visit l.station l.train k) r.now)) l.routes) (length (train_of l.station l.train).visits) l.number
