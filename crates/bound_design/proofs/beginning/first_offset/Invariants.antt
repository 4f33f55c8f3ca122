use Rattle.std.proofs.Common.{◌≡◌, drop}
use Rattle.bound_spec.specs.Certificates.{first_in}
use Rattle.bound_design.proofs.beginning.first_offset.Given as goal

-- none of the nodes so far is in the set
abbrev pub invariant-loop-place : goal.invariant-loop-place
invariant-loop-place l = first_in l.visit.list.now (drop l.place-index l.nodes) ≡ first_in l.visit.list.now l.nodes
