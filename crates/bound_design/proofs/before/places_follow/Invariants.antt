use Rattle.std.proofs.Common.{◌≡◌, ◌-◌, drop}
use Rattle.rail_base.specs.Members.{all_neighbors}
use Rattle.bound_design.specs.Covered.{comes_before_in}
use Rattle.bound_design.proofs.before.places_follow.Given as goal

-- those so far do
abbrev pub invariant-loop-index : goal.invariant-loop-index
invariant-loop-index l = all_neighbors (comes_before_in l.interlocking) (drop (l.index - 1) l.places) ≡ all_neighbors (comes_before_in l.interlocking) l.places
