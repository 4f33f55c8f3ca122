use Rattle.std.proofs.Common.{◌≡◌, ◌-◌, drop}
use Rattle.rail_base.specs.Members.{all_neighbors}
use Rattle.bound_spec.specs.declared.Leg.{Leg}
use Rattle.bound_design.specs.Covered.{is_used_last}
use Rattle.bound_design.proofs.reaching.uses_before_last.Given as goal

-- it is so with those so far
abbrev pub invariant-loop-index : goal.invariant-loop-index
invariant-loop-index l = all_neighbors (λ (a b : Leg). is_used_last l.interlocking a) (drop (l.index - 1) l.legs) ≡ all_neighbors (λ (a b : Leg). is_used_last l.interlocking a) l.legs
