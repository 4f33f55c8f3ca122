use Rattle.std.proofs.Common.{◌≡◌, drop}
use Rattle.bound_spec.specs.Certificates.{first_in}
use Rattle.leg_targets.proofs.targets.first_in.Given as goal

-- those left decide
abbrev pub invariant-loop-node : goal.invariant-loop-node
invariant-loop-node l = first_in l.set (drop l.node-index l.nodes) ≡ first_in l.set l.nodes
