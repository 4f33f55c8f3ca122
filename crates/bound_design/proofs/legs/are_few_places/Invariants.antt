use Rattle.std.proofs.Common.{◌≡◌, ◌+◌, drop}
use Rattle.bound_spec.specs.Validity.{places_of}
use Rattle.bound_design.proofs.legs.are_few_places.Given as goal

-- so many are left of 64 as those so far have not taken
abbrev pub invariant-loop-leg : goal.invariant-loop-leg
invariant-loop-leg l = l.left + places_of l.legs ≡ 64 + places_of (drop l.leg-index l.legs)
